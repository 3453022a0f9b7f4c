-- `summary::tally::degree_of` meets its contract.
use Rattle.std.proofs.Common.{sym, ◌∙◌}
use Rattle.summary.proofs.Laws.Tally.{degree_is, degree_bad}
use Rattle.summary.proofs.tally.degree_of.Goals as goal

pub returns-in-Ok : goal.returns-in-Ok
returns-in-Ok c = degree_is _ _ _ (sym c.varint_at.ensures ∙ c.in-Ok.is)

pub returns-in-Err : goal.returns-in-Err
returns-in-Err c = degree_bad _ _ (sym c.varint_at.ensures ∙ c.in-Err.is)
