use mathlib.Core.Path.{ap, ◌∙◌}
use Rattle.edge_sst_c.specs.Desk.{check_told}
use Rattle.edge_sst_c.proofs.running.edge_sst_running_feed.Goals as goal

pub returns : goal.returns
returns c = let e = c.feed_lent.ensures in (c.check_told.ensures ∙ ap check_told e.0, e.1)
