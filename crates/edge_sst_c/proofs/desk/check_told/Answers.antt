-- `edge_sst_c::desk::check_told` meets its contract.
use Rattle.edge_sst_c.proofs.Laws.Desk.{check_told_fine, check_told_bad}
use Rattle.edge_sst_c.proofs.desk.check_told.Goals as goal

pub returns-in-Ok : goal.returns-in-Ok
returns-in-Ok c = check_told_fine _ c.in-Ok.is

pub returns-in-Err : goal.returns-in-Err
returns-in-Err c = check_told_bad _ _ c.in-Err.is c.told_of-t.ensures.0 c.told_of-t.ensures.1 c.told_of-t.ensures.2
