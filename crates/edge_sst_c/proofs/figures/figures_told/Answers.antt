-- `edge_sst_c::figures::figures_told` meets its contract.
use Rattle.std.specs.Prelude.{Ok}
use Rattle.std.proofs.Common.{ap}
use Rattle.edge_sst_c.specs.declared.figures.ExtremesTold.{ExtremesTold}
use Rattle.edge_sst_c.specs.Desk.{check_told}
use Rattle.edge_sst_c.specs.Summary.{figures_told}
use Rattle.edge_sst_c.proofs.figures.figures_told.Goals as goal

pub returns : goal.returns
unfolding check_told
returns c = ap (λ (x : ExtremesTold). figures_told (check_told (Ok tt)) c.args.s x) c.extremes_told-x.ensures
