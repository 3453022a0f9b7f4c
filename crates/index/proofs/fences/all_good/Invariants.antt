-- `fences::all_good` meets its contract. Invariant: what is left to check from i on gives the whole.
use mathlib.Core.Path.{◌≡◌}
use Prim.Native.Nat.{◌-◌}
use Rattle.frame.specs.Open.{fences_from}
use Rattle.index.proofs.fences.all_good.Given as goal

abbrev pub invariant-loop-i : goal.invariant-loop-i
invariant-loop-i l = fences_from (l.count - l.i) l.x l.keys l.stride l.i ≡ fences_from l.count l.x l.keys l.stride 0
