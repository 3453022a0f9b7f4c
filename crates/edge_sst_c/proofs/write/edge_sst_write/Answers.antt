-- `edge_sst_c::write::edge_sst_write` meets its contract.
use Rattle.edge_sst_c.proofs.Laws.Write.{wrote_told}
use Rattle.edge_sst_c.proofs.write.edge_sst_write.Goals as goal

pub returns : goal.returns
returns c = wrote_told c.write.ensures c.done_told.ensures
