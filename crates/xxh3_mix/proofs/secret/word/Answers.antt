use Rattle.xxh3_spec.specs.Xxh3.{secret}
use Rattle.xxh3_mix.proofs.secret.word.Goals as goal

pub returns : goal.returns
unfolding secret
returns c = c.le.ensures.value
