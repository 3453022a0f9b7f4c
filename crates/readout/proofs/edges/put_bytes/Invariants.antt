-- `readout::edges::put_bytes` meets its contract. Invariant: the bytes that are left, written from here, make the whole.
use mathlib.Core.Path.{◌≡◌}
use Prim.Native.Nat.{◌+◌}
use lib.ListN.{drop}
use lib.Seq.{sets}
use Rattle.readout.proofs.edges.put_bytes.Given as goal

abbrev pub invariant-loop-k : goal.invariant-loop-k
invariant-loop-k l = sets l.out (l.at + l.k) (drop l.k l.s) ≡ sets l.initial.out l.at l.s
