-- `edge_sst_c::section_list::tell_rows` meets its contract. Invariant: the numbers of i rows are written.
use Rattle.std.specs.Prelude.{◌≡◌}
use Rattle.edge_sst_c.specs.SectionList.{numbered}
use Rattle.edge_sst_c.proofs.section_list.tell_rows.Given as goal

abbrev pub invariant-loop-i : goal.invariant-loop-i
invariant-loop-i l = l.out ≡ numbered l.file l.i l.initial.out
