-- `summary::logs::block_within` meets its contract.
use Rattle.summary.specs.Logs.{Signs}
use Rattle.summary.proofs.logs.block_within.Given as goal

abbrev pub invariant-loop-i : goal.invariant-loop-i
invariant-loop-i g l = Signs l.logs l.e l.s l.signs l.i
