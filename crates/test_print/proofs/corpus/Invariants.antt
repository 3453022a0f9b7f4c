-- `test_print::corpus` meets its contract.
use Rattle.std.proofs.Common.{◌≡◌, length}
use Rattle.test_print.proofs.corpus.Given as goal

abbrev pub invariant-loop : goal.invariant-loop
invariant-loop l = (length l.space ≡ length l.initial.space) × (length l.room ≡ length l.initial.room) × (length l.out ≡ length l.initial.out)
