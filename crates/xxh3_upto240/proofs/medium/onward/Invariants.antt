use Rattle.std.proofs.Common.{◌≡◌}
use Rattle.xxh3_spec.specs.Xxh3.{secret, onward}
use Rattle.xxh3_upto240.proofs.medium.onward.Given as goal

abbrev pub invariant-loop-i : goal.invariant-loop-i
invariant-loop-i l = l.h ≡ onward secret l.s l.at l.k l.i l.g
