-- `edge_sst_c::section_list::tell_rows` meets its contract.
use Rattle.std.specs.Prelude.{length}
use Rattle.std.proofs.Common.{ap, ◌∙◌, arith}
use Rattle.edge_sst_c.proofs.Laws.SectionList.{length_numbered, numbered_on, numbered_none}
use Rattle.edge_sst_c.proofs.section_list.tell_rows.Goals as goal

pub loop-i-init : goal.loop-i-init
loop-i-init c = numbered_none _ _

pub tell_row-requires : goal.tell_row-requires
tell_row-requires c = let a = c.args in let p = c.requires in
    let e = ap length c.loop-i.invariant ∙ length_numbered a.file.now c.loop-i.i a.out.now in
    omega arith

pub loop-i-preserved : goal.loop-i-preserved
loop-i-preserved c = let a = c.args in numbered_on a.file.now a.out.now c.loop-i.i c.loop-i.invariant c.row_of.ensures c.tell_row.ensures

pub shape_of-out : goal.shape_of-out
shape_of-out c = let a = c.args in ap length c.loop-i.invariant ∙ length_numbered a.file.now c.loop-i.i a.out.now
