-- `edge_sst_c::edge_sst_open` meets its contract.
use mathlib.Core.Path.{sym, ◌∙◌}
use Rattle.edge_sst_c.proofs.Laws.Told.{told_good, told_refused}
use Rattle.edge_sst_c.proofs.edge_sst_open.Goals as goal

pub returns-in-Ok : goal.returns-in-Ok
returns-in-Ok c = c.record_told.ensures ∙ sym (told_good _ _ (sym c.«open».ensures ∙ c.in-Ok.is))

pub returns-in-Err : goal.returns-in-Err
returns-in-Err c = c.refusal_told.ensures ∙ sym (told_refused _ _ (sym c.«open».ensures ∙ c.in-Err.is))
