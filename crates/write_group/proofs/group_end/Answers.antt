use Rattle.std.proofs.Common.{◌≡◌, sym, ap, subst, ◌∙◌, arith}
use Rattle.batch.specs.declared.Edge.{Edge}
use Rattle.batch.specs.Batch.{edges_of}
use Rattle.batch_groups.specs.Groups.{GroupEnd}
use Rattle.write_group.specs.Span.{same_first, same_end, same_other, same_on}
use Rattle.write_group.proofs.group_end.Goals as goal

pub loop-j-init : goal.loop-j-init
loop-j-init c =
    let a = c.args in
    let es = edges_of a.batch.now in
    (ap (λ (t : Edge). t.key) c.edge_of-first.ensures, same_first es a.i (omega arith))

pub returns-then-not-same_id : goal.returns-then-not-same_id
returns-then-not-same_id c =
    let a = c.args in
    let l = c.loop-j in
    let es = edges_of a.batch.now in
    same_other es a.i l.j l.invariant.1 (omega arith) _ c.edge_of-next.ensures _ l.invariant.0 (sym c.same_id.ensures ∙ c.if-not-same_id.true)

pub loop-j-preserved : goal.loop-j-preserved
loop-j-preserved c =
    let a = c.args in
    let l = c.loop-j in
    let es = edges_of a.batch.now in
    (l.invariant.0, same_on es a.i l.j l.invariant.1 (omega arith) _ c.edge_of-next.ensures _ l.invariant.0 (sym c.same_id.ensures ∙ c.if-not-same_id.false))

pub returns : goal.returns
returns c =
    let a = c.args in
    let l = c.loop-j in
    let es = edges_of a.batch.now in
    let w = l.invariant.1.within in
    let z : l.j ≡ a.n = omega arith in subst (GroupEnd es a.i) z (same_end es a.i l.j l.invariant.1 (omega arith))
