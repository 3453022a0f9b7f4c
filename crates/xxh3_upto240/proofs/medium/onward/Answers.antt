use Rattle.std.proofs.Common.{refl}
use Rattle.xxh3_spec.specs.Xxh3.{secret, onward}
use Rattle.xxh3_upto240.proofs.Rounds.{onward_step}
use Rattle.xxh3_upto240.proofs.medium.onward.Goals as goal

pub loop-i-init : goal.loop-i-init
unfolding onward
loop-i-init c = refl

pub loop-i-preserved : goal.loop-i-preserved
loop-i-preserved c = let a = c.args in cc (onward_step secret a.s.now a.at a.k c.loop-i.i a.g)
