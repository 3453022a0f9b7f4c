use Rattle.xxh3_spec.specs.Xxh3.{rrmxmx}
use Rattle.xxh3_mix.proofs.mix.rrmxmx.Goals as goal

pub returns : goal.returns
unfolding rrmxmx
returns c = cc
