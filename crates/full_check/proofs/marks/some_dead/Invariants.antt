-- `full_check::marks::some_dead` meets its contract. Invariant: one of the edges left is dead exactly if one of all is.
use mathlib.Core.Path.{◌≡◌}
use Prim.Native.Nat.{◌+◌, ◌-◌, ◌≤◌}
use Rattle.full_check.specs.Full.{dead_from}
use Rattle.full_check.proofs.marks.some_dead.Given as goal

abbrev pub invariant-loop-j : goal.invariant-loop-j
invariant-loop-j l = (dead_from (l.d - l.j) l.s (l.e + l.j) ≡ dead_from l.d l.s l.e)
