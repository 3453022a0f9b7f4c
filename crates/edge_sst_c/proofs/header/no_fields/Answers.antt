-- `edge_sst_c::header::no_fields` meets its contract.
use Rattle.edge_sst_c.specs.Header.{without_fields}
use Rattle.edge_sst_c.proofs.header.no_fields.Goals as goal

pub returns : goal.returns
returns c = let e = c.told_of-t.ensures in λ i. without_fields (e.0 i) (e.1 i) (e.2 i)
