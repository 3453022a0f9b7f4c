-- `full_check::sums::sums_from` meets its contract. Invariant: `Summed`, of the entries that are passed.
use Prim.Native.Nat.{◌-◌}
use Rattle.full_check.specs.Full.Laws.{Summed}
use Rattle.full_check.proofs.sums.sums_from.Given as goal

abbrev pub invariant-loop-k : goal.invariant-loop-k
invariant-loop-k l = Summed l.file l.b l.count l.at l.k
