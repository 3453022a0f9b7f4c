-- `groups::groups_of` meets its contract. Invariant: `Walk`, of the groups that are passed.
use mathlib.Core.Path.{sym, ap, ◌∙◌, refl}
use mathlib.Core.Bool.{Bool, ◌||◌}
use Rattle.full_check.specs.Full.Laws.{walk_start, walk_bad, walk_few, walk_on, walk_end}
use native.Mathlib.Omega.{arith}
use Rattle.full_check.proofs.groups.groups_of.Goals as goal
use Rattle.std.specs.Prelude.{Err}

pub loop-i-init : goal.loop-i-init
loop-i-init c = let a = c.args in walk_start a.partners.now a.offs.now a.w a.n a.there a.starts.now c.requires.4

pub overflow_add-edges : goal.overflow_add-edges
overflow_add-edges c =
    let a = c.args in
    let l = c.loop-i in
    let r = walk_few a.partners.now a.offs.now a.w a.n a.there a.starts.now c.requires.4 l.i l.a l.edges l.dense l.stray l.invariant (omega arith) c.offset_at-e.ensures.0 _ _ (sym c.check_group.ensures ∙ c.in-Ok.is) in
    let s = c.offset_at-e.ensures.1 in
    omega arith

pub loop-i-preserved : goal.loop-i-preserved
loop-i-preserved c =
    let a = c.args in
    let l = c.loop-i in
    walk_on a.partners.now a.offs.now a.w a.n a.there a.starts.now c.requires.4 l.i l.a l.edges l.dense l.stray l.invariant (omega arith) c.offset_at-e.ensures.0 _ _ (sym c.check_group.ensures ∙ c.in-Ok.is) refl
    (ap (λ (t : Bool). l.stray || t) c.stray_at-stray.ensures)

pub returns-in-Err : goal.returns-in-Err
returns-in-Err c =
    let a = c.args in
    let l = c.loop-i in
    ap Err c.refusal_of.ensures
    ∙ sym (walk_bad a.partners.now a.offs.now a.w a.n a.there a.starts.now c.requires.4 l.i l.a l.edges l.dense l.stray l.invariant (omega arith) c.offset_at-e.ensures.0 _ (sym c.check_group.ensures ∙ c.in-Err.is))

pub returns : goal.returns
returns c =
    let a = c.args in
    let l = c.loop-i in
    walk_end a.partners.now a.offs.now a.w a.n a.there a.starts.now l.i l.a l.edges l.dense l.stray l.invariant (omega arith) (ap (λ (t : Bool). l.stray || t) c.stray_at-stray-2.ensures)
