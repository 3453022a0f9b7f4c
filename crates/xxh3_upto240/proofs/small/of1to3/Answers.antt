use Rattle.xxh3_spec.specs.Xxh3.{of1to3}
use Rattle.xxh3_upto240.proofs.small.of1to3.Goals as goal

pub returns : goal.returns
unfolding of1to3
returns c = cc
