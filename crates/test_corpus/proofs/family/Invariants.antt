-- `test_corpus::family` meets its contract.
use Rattle.std.proofs.Common.{◌<◌, ◌^◌}
use Rattle.test_corpus.proofs.family.Given as goal

abbrev pub invariant-loop-b : goal.invariant-loop-b
invariant-loop-b l = l.x < 2 ^ 31
