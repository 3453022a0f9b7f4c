-- `group::split::check_split` meets its contract. Invariant: k partners were good, and what is left gives the whole answer.
use mathlib.Core.Path.{sym, refl, ap, ◌∙◌}
use Prim.Native.Nat.{◌+◌}
use native.Mathlib.Omega.{arith}
use mathlib.Core.Bool.{false}
use Rattle.std.specs.Prelude.{Err}
use Rattle.std.proofs.lemmas.Result.{err_from_is_err_and}
use Rattle.group.specs.Group.{floor_of}
use Rattle.group.proofs.Laws.Group.{check_start, check_end, check_over, check_bad, check_low, check_more, step_split, floor_first, floor_next}
use Rattle.group.proofs.split.check_split.Goals as goal

pub loop-k-init : goal.loop-k-init
loop-k-init c =
    let a = c.args in rw (floor_first 0 (record { hi = 0; lo = 0 }) refl) (check_start false a.g.now a.at a.degree)

pub returns-in_err-id : goal.returns-in_err-id
returns-in_err-id c =
    let a = c.args in
    let l = c.loop-k in
    let (f, given, same) = err_from_is_err_and c.from_residual.result c.from_residual.ensures.1 in
    let e = step_split a.g.now l.i l.last.hi ∙ sym c.split_step.ensures ∙ c.in_err-id.was in
    given ∙ ap Err same ∙ sym (check_bad false a.g.now a.at a.degree l.i l.k l.last.hi (floor_of l.k l.last) l.invariant (omega arith) _ e)

pub returns-then-not-in_order : goal.returns-then-not-in_order
returns-then-not-in_order c =
    let a = c.args in
    let l = c.loop-k in
    let q = c.in_ok-id.id in
    let n = c.in_ok-id.next in
    let e = step_split a.g.now l.i l.last.hi ∙ sym c.split_step.ensures ∙ c.in_ok-id.was in
    ap Err c.at.ensures
    ∙ sym (check_low false a.g.now a.at a.degree l.i l.k l.last.hi (floor_of l.k l.last) l.invariant (omega arith) q n e (sym c.in_order.ensures ∙ c.if-not-in_order.true))

pub loop-k-preserved : goal.loop-k-preserved
loop-k-preserved c =
    let a = c.args in
    let l = c.loop-k in
    let p = c.in_ok-id.id in
    let n = c.in_ok-id.next in
    let e = step_split a.g.now l.i l.last.hi ∙ sym c.split_step.ensures ∙ c.in_ok-id.was in
    let m = check_more false a.g.now a.at a.degree l.i l.k l.last.hi (floor_of l.k l.last) l.invariant (omega arith) p n e (sym c.in_order.ensures ∙ c.if-not-in_order.false) in
    rw (floor_next (l.k + 1) p (λ q. omega arith)) m

pub returns-then-i-g : goal.returns-then-i-g
returns-then-i-g c =
    let a = c.args in
    let l = c.loop-k in
    ap Err c.at-then-i-g.ensures
    ∙ sym (check_over false a.g.now a.at a.degree l.i l.k l.last.hi (floor_of l.k l.last) l.invariant (omega arith) (λ q. omega arith))

pub returns : goal.returns
returns c =
    let a = c.args in
    let l = c.loop-k in
    sym (check_end false a.g.now a.at a.degree l.i l.k l.last.hi (floor_of l.k l.last) l.invariant (omega arith) (omega arith) (omega arith))
