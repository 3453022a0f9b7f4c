-- `edge_sst_c::look::looked_told` meets its contract.
use Rattle.std.proofs.Common.{sym, ap, ◌∙◌}
use Rattle.edge_sst_c.specs.Look.{looked_told}
use Rattle.edge_sst_c.proofs.Laws.Look.{looked_refused}
use Rattle.edge_sst_c.proofs.look.looked_told.Goals as goal

pub returns-in-Ok : goal.returns-in-Ok
returns-in-Ok c = c.found_told.ensures ∙ sym (ap looked_told c.in-Ok.is)

pub returns-in-Err : goal.returns-in-Err
returns-in-Err c = c.refused_told.ensures ∙ sym (looked_refused _ _ c.in-Err.is)
