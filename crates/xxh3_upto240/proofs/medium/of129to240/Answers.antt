use Rattle.xxh3_spec.specs.Xxh3.{of129to240}
use Rattle.xxh3_upto240.proofs.medium.of129to240.Goals as goal

pub returns : goal.returns
unfolding of129to240
returns c = cc
