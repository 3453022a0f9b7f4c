use Rattle.xxh3_spec.specs.Xxh3.{start_lanes}
use Rattle.xxh3_above240.proofs.large.first_stripe.Goals as goal

pub returns : goal.returns
unfolding start_lanes
returns c = c.accumulate.ensures
