use Rattle.std.proofs.Common.{arith}
use Rattle.xxh3_spec.specs.Xxh3.{pair, mix_step}
use Rattle.xxh3_upto240.proofs.medium.mix_step.Goals as goal

pub returns : goal.returns
unfolding pair mix_step
returns c = grind arith
