-- `edge_sst_c::write::edge_sst_needed` meets its contract.
use mathlib.Core.Path.{ap, ◌∙◌}
use Rattle.edge_sst_c.specs.Desk.{done_told}
use Rattle.edge_sst_c.proofs.write.edge_sst_needed.Goals as goal

pub returns : goal.returns
returns c = c.done_told.ensures ∙ ap done_told c.needed.ensures
