-- `edge_sst_c::look::refused_told` meets its contract.
use Rattle.edge_sst_c.specs.Look.{refused_told}
use Rattle.edge_sst_c.proofs.look.refused_told.Goals as goal

pub returns : goal.returns
returns c = let e = c.told_of-t.ensures in λ i. refused_told (e.0 i) (e.1 i) (e.2 i)
