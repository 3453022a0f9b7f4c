-- `summary::dead::dead_of` meets its contract.
use Rattle.summary.specs.Marked.{Counting}
use Rattle.summary.proofs.dead.dead_of.Given as goal

abbrev pub invariant-loop-b : goal.invariant-loop-b
invariant-loop-b l = Counting l.s l.dead l.b-index
