use Rattle.xxh3_spec.specs.Xxh3.{stir}
use Rattle.xxh3_above240.proofs.large.stir.Goals as goal

pub returns : goal.returns
unfolding stir
returns c = cc
