use Rattle.xxh3_spec.specs.Xxh3.{of4to8}
use Rattle.xxh3_upto240.proofs.small.of4to8.Goals as goal

pub returns : goal.returns
unfolding of4to8
returns c = cc
