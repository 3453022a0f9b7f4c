-- `summary::tally::tally_of` meets its contract.
use Rattle.summary.proofs.Laws.Tally.{Tallying}
use Rattle.summary.proofs.tally.tally_of.Given as goal

abbrev pub invariant-loop-i : goal.invariant-loop-i
invariant-loop-i l = Tallying l.partners l.offs l.w l.n l.largest l.buckets l.a l.i
