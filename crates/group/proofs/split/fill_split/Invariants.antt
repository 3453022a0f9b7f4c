-- `group::split::fill_split` meets its contract. Invariant: the rest is good, and written over what is there it is the whole.
use mathlib.Core.Path.{◌≡◌}
use Prim.Native.Nat.{ℕ, ◌-◌, ◌*◌}
use mathlib.Core.Bool.{true, false}
use Rattle.base.specs.Put.{Left}
use Rattle.group.specs.Group.{walk_from, is_good, partners_of, bytes_of}
use Rattle.group.proofs.split.fill_split.Given as goal

abbrev pub invariant-loop-k : goal.invariant-loop-k
invariant-loop-k l =
    (floor : ℕ) × (is_good (walk_from false (l.degree - l.k) l.g l.i l.hi floor) ≡ true)
    × Left l.out (16 * l.k) (bytes_of (partners_of (walk_from false (l.degree - l.k) l.g l.i l.hi floor))) l.initial.out 0 (bytes_of (partners_of (walk_from false l.degree l.g l.at 0 0)))
