use Rattle.xxh3_above240.specs.Block.{stripes_in}
use Rattle.xxh3_above240.proofs.block.block.Goals as goal

pub returns : goal.returns
unfolding stripes_in
returns c = cc
