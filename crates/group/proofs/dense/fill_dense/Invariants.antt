-- `group::dense::fill_dense` meets its contract. Invariant: what is still to be copied, copied over what is there, is the whole.
use mathlib.Core.Path.{◌≡◌}
use Prim.Native.Nat.{◌+◌}
use lib.ListN.{drop}
use lib.Seq.{sets}
use Rattle.group.proofs.dense.fill_dense.Given as goal

abbrev pub invariant-loop-k : goal.invariant-loop-k
invariant-loop-k l = sets l.out l.k (drop (l.at + l.k) l.g) ≡ sets l.initial.out 0 (drop l.at l.g)
