use Rattle.std.proofs.Common.{◌≤◌, length}
use Rattle.test_running.proofs.cut_lines.Given as goal

abbrev pub invariant-loop-cut : goal.invariant-loop-cut
invariant-loop-cut l = (l.first ≤ l.cut) × (l.first ≤ length l.s)
