-- `edge_sst_c::desk::done_told` meets its contract.
use Rattle.std.proofs.Common.{sym, ap, ◌∙◌}
use Rattle.edge_sst_c.specs.Desk.{done_told}
use Rattle.edge_sst_c.proofs.desk.done_told.Goals as goal

pub returns-in-Ok : goal.returns-in-Ok
unfolding done_told
returns-in-Ok c = sym (ap done_told c.in-Ok.is)

pub returns-in-Err : goal.returns-in-Err
unfolding done_told
returns-in-Err c = let e = c.told_of-t.ensures in
    (λ i. record { number = e.0 i; place = e.1 i; beside = e.2 i; bytes = 0 }) ∙ sym (ap done_told c.in-Err.is)
