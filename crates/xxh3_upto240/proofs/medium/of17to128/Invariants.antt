use Rattle.std.proofs.Common.{◌≡◌}
use Rattle.xxh3_spec.specs.Xxh3.{secret, inward}
use Rattle.xxh3_upto240.proofs.medium.of17to128.Given as goal

abbrev pub invariant-loop-i : goal.invariant-loop-i
invariant-loop-i l = l.h ≡ inward secret l.s l.i l.initial.h
