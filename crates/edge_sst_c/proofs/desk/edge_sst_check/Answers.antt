use mathlib.Core.Path.{ap, ◌∙◌}
use Rattle.edge_sst_c.specs.Desk.{check_told}
use Rattle.edge_sst_c.proofs.desk.edge_sst_check.Goals as goal

pub returns : goal.returns
returns c = c.check_told.ensures ∙ ap check_told c.check.ensures
