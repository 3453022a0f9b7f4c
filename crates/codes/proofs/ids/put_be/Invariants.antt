-- `codes::ids::put_be` meets its contract. Invariant: what is still to be written, written over what is there, is the whole.
use mathlib.Core.Path.{◌≡◌}
use Prim.Native.Nat.{◌-◌, ◌≤◌}
use lib.ListN.{length}
use lib.Seq.{sets}
use Rattle.codes.specs.Ids.{be_bytes}
use Rattle.codes.proofs.ids.put_be.Given as goal

abbrev pub invariant-loop-k : goal.invariant-loop-k
invariant-loop-k l = (l.k ≤ l.n) × (length l.out ≡ length l.initial.out) × (sets l.out l.at (be_bytes (l.n - l.k) l.y) ≡ sets l.initial.out l.at (be_bytes l.n l.x))
