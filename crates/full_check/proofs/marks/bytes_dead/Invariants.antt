-- `marks::bytes_dead` meets its contract. Invariant: one of the edges left is dead exactly if one of all is.
use mathlib.Core.Path.{◌≡◌}
use Prim.Native.Nat.{◌-◌, ◌*◌}
use Rattle.full_check.specs.Full.{dead_from}
use Rattle.full_check.proofs.marks.bytes_dead.Given as goal

abbrev pub invariant-loop-b : goal.invariant-loop-b
invariant-loop-b l = dead_from (8 * (l.m - l.b)) l.s (8 * l.b) ≡ dead_from (8 * l.m) l.s 0
