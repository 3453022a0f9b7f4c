-- `summary::logs::with_each` meets its contract.
use Rattle.summary.proofs.Laws.Logs.{Spanning}
use Rattle.summary.proofs.logs.with_each.Given as goal

abbrev pub invariant-loop-i : goal.invariant-loop-i
invariant-loop-i l = Spanning l.logs l.e l.n l.initial.t l.t l.i
