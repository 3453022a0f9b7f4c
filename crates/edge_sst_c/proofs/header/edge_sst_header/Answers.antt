-- `edge_sst_c::header::edge_sst_header` meets its contract.
use mathlib.Core.Path.{sym, ◌∙◌}
use Rattle.edge_sst_c.proofs.Laws.Header.{header_told_lem, header_refused}
use Rattle.edge_sst_c.proofs.header.edge_sst_header.Goals as goal

pub returns-in-Ok : goal.returns-in-Ok
returns-in-Ok c = c.fields_told.ensures ∙ sym (header_told_lem _ _ (sym c.header.ensures ∙ c.in-Ok.is))

pub returns-in-Err : goal.returns-in-Err
returns-in-Err c = c.no_fields.ensures ∙ sym (header_refused _ _ (sym c.header.ensures ∙ c.in-Err.is))
