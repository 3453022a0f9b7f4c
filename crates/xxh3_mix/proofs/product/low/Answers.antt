use Rattle.std.proofs.Common.{refl}
use Rattle.xxh3_spec.specs.Xxh3.{mul}
use Rattle.xxh3_mix.proofs.product.low.Goals as goal

pub returns : goal.returns
unfolding mul
returns c = refl
