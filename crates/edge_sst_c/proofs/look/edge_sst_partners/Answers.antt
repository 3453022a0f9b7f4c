-- `edge_sst_c::look::edge_sst_partners` meets its contract.
use Rattle.edge_sst_c.proofs.Laws.Look.{told}
use Rattle.edge_sst_c.proofs.look.edge_sst_partners.Goals as goal

pub returns : goal.returns
returns c = told c.partners.ensures c.looked_told.ensures
