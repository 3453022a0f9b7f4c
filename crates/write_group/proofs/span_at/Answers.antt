use Rattle.std.proofs.Common.{◌≡◌, ℕ, sym, ap, subst, ◌∙◌, arith}
use Rattle.batch.specs.declared.Edge.{Edge}
use Rattle.batch.specs.Batch.{edges_of}
use Rattle.write_group.specs.declared.Span.{Span}
use Rattle.write_group.specs.Span.{Spans, going_first, going_most, going_up, going_on, going_other, going_end}
use Rattle.write_group.proofs.span_at.Goals as goal

pub loop-j-init : goal.loop-j-init
loop-j-init c =
    let a = c.args in
    let es = edges_of a.batch.now in
    let first = c.edge_of-first.ensures in (
      omega arith,
      ap (λ (t : Edge). t.key) first,
      going_first es a.i (omega arith) _ first _ c.partner_cost-cost.ensures.0,
    )

pub returns-then-not-same_id : goal.returns-then-not-same_id
returns-then-not-same_id c =
    let a = c.args in
    let l = c.loop-j in
    let es = edges_of a.batch.now in
    going_other es a.i l.j l.hi l.cost l.invariant.2 (omega arith) _ c.edge_of-other.ensures l.invariant.0 _ l.invariant.1
    (sym c.same_id.ensures ∙ c.if-not-same_id.true)

pub overflow_sub-upper : goal.overflow_sub-upper
overflow_sub-upper c =
    let a = c.args in
    let l = c.loop-j in
    let es = edges_of a.batch.now in
    going_up es a.i l.j l.hi l.cost l.invariant.2 (omega arith) _ c.edge_of-other.ensures l.invariant.0 _ l.invariant.1
    (sym c.same_id.ensures ∙ c.if-not-same_id.false)
    c.requires.3

pub overflow_add-cost : goal.overflow_add-cost
overflow_add-cost c =
    let a = c.args in
    let l = c.loop-j in
    let es = edges_of a.batch.now in
    let most = going_most es a.i l.j l.hi l.cost l.invariant.2 in
    let here = c.partner_cost-cost-in-loop-j.ensures.1 in omega arith

pub loop-j-preserved : goal.loop-j-preserved
loop-j-preserved c =
    let a = c.args in
    let l = c.loop-j in
    let es = edges_of a.batch.now in (
      omega arith,
      l.invariant.1,
      going_on es a.i l.j l.hi l.cost l.invariant.2 (omega arith) _ c.edge_of-other.ensures l.invariant.0 _ l.invariant.1
          (sym c.same_id.ensures ∙ c.if-not-same_id.false) _ c.partner_cost-cost-in-loop-j.ensures.0,
    )

pub returns : goal.returns
returns c =
    let a = c.args in
    let l = c.loop-j in
    let es = edges_of a.batch.now in
    let w = l.invariant.2.within in
    let z : l.j ≡ a.n = omega arith in
    subst (λ (j : ℕ). Spans es a.i (record { end = j; cost = l.cost })) z (going_end es a.i l.j l.hi l.cost l.invariant.2 l.invariant.0 (omega arith))
