-- `edge_sst_c::look::edge_sst_lookup` meets its contract.
use Rattle.edge_sst_c.proofs.Laws.Look.{edges_told}
use Rattle.edge_sst_c.proofs.look.edge_sst_lookup.Goals as goal

pub returns : goal.returns
returns c = edges_told c.lookup.ensures c.looked_told.ensures
