use Rattle.xxh3_spec.specs.Xxh3.{twice}
use Rattle.xxh3_above240.proofs.large.twice.Goals as goal

pub returns : goal.returns
unfolding twice
returns c = cc
