use Rattle.batch.specs.Batch.{edge_at}
use Rattle.batch.proofs.edge_at.Goals as goal

-- src/lib.rt:47:1
pub returns : goal.returns
unfolding edge_at
returns c = cc
