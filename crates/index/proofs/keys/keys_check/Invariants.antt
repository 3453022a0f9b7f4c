-- `index::keys::keys_check` meets its contract. Invariant: `last` is the upper half of the key before k, and what is left to check from k on gives the whole.
use mathlib.Core.Path.{◌≡◌}
use Prim.Native.Nat.{◌-◌, ◌*◌}
use Rattle.codes.specs.Ids.{be_at}
use Rattle.frame.specs.Open.{keys_from}
use Rattle.index.proofs.keys.keys_check.Given as goal

abbrev pub invariant-loop-k : goal.invariant-loop-k
invariant-loop-k l =
    (l.last ≡ be_at l.keys ((l.k - 1) * 16) 8) × (keys_from (l.n - l.k) l.keys l.k ≡ keys_from (l.n - 1) l.keys 1)
