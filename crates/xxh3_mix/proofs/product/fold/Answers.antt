use Rattle.xxh3_spec.specs.Xxh3.{fold, mul}
use Rattle.xxh3_mix.proofs.product.fold.Goals as goal

pub returns : goal.returns
unfolding fold mul
returns c = cc
