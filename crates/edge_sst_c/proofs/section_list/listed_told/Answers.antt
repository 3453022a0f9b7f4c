-- `edge_sst_c::section_list::listed_told` meets its contract.
use Rattle.std.proofs.Common.{sym, ap, ◌∙◌}
use Rattle.edge_sst_c.specs.SectionList.{listed_told}
use Rattle.edge_sst_c.proofs.section_list.listed_told.Goals as goal

pub returns-in-Ok : goal.returns-in-Ok
unfolding listed_told
returns-in-Ok c = sym (ap listed_told c.in-Ok.is)

pub returns-in-Err : goal.returns-in-Err
unfolding listed_told
returns-in-Err c = let e = c.told_of-t.ensures in
    (λ i. record { number = e.0 i; place = e.1 i; beside = e.2 i; rows = 0 }) ∙ sym (ap listed_told c.in-Err.is)
