-- `edge_sst_c::figures::edge_sst_summary` meets its contract.
use Rattle.std.proofs.Common.{sym, ◌∙◌}
use Rattle.edge_sst_c.proofs.Laws.Summary.{summary_good, summary_refused}
use Rattle.edge_sst_c.proofs.figures.edge_sst_summary.Goals as goal

pub returns-in-Ok : goal.returns-in-Ok
returns-in-Ok c = c.figures_told.ensures ∙ sym (summary_good (sym c.summary.ensures ∙ c.in-Ok.is))

pub returns-in-Err : goal.returns-in-Err
returns-in-Err c = c.no_figures.ensures ∙ sym (summary_refused (sym c.summary.ensures ∙ c.in-Err.is))
