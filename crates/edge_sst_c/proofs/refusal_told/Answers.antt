-- `edge_sst_c::refusal_told` meets its contract.
use Rattle.edge_sst_c.specs.Told.{refusal_with}
use Rattle.edge_sst_c.proofs.refusal_told.Goals as goal

pub returns : goal.returns
returns c = let e = c.told_of-t.ensures in λ i. refusal_with (e.0 i) (e.1 i) (e.2 i)
