-- `edge_sst_c::figures::no_figures` meets its contract.
use Rattle.summary.specs.Summary.{nothing}
use Rattle.edge_sst_c.specs.Desk.{check_told}
use Rattle.edge_sst_c.specs.Summary.{none_told, figures_told}
use Rattle.edge_sst_c.proofs.figures.no_figures.Goals as goal

pub returns : goal.returns
unfolding check_told
returns c = let e = c.told_of-told.ensures in λ i. figures_told (record { number = e.0 i; place = e.1 i; beside = e.2 i }) nothing none_told
