-- `edge_sst_c::desk::edge_sst_read_out` meets its contract.
use Rattle.std.proofs.Common.{ap, ◌∙◌}
use Rattle.edge_sst_c.specs.Desk.{done_told}
use Rattle.edge_sst_c.proofs.desk.edge_sst_read_out.Goals as goal

pub returns : goal.returns
returns c = (c.done_told.ensures ∙ ap done_told c.read_out.ensures.0, c.read_out.ensures.1)
