use Rattle.std.proofs.Common.{refl}
use Rattle.xxh3_spec.specs.Xxh3.{xorshift}
use Rattle.xxh3_mix.proofs.mix.xorshift.Goals as goal

pub returns : goal.returns
unfolding xorshift
returns c = refl
