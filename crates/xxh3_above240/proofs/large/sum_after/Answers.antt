use Rattle.xxh3_above240.proofs.State.{finished}
use Rattle.xxh3_above240.proofs.large.sum_after.Goals as goal

pub returns : goal.returns
returns c = finished _ _ _ _ _ c.accumulate.ensures c.merge.ensures
