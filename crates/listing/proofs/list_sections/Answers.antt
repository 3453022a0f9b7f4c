-- The rows that are written have room, and one more is written in each turn.
use Rattle.std.proofs.Common.{◌∙◌, length, add-one, refl, sym, arith}
use Rattle.std.proofs.lemmas.Result.{err_from_is_err_and}
use Rattle.listing.specs.List.{listed}
use Rattle.listing.proofs.Laws.List.{plan_fits, plan_done, list_refused_leaves}
use Rattle.listing.proofs.list_sections.Goals as goal

pub returns-in_err-count : goal.returns-in_err-count
returns-in_err-count c =
    let a = c.args in
    let p = err_from_is_err_and c.from_residual.result c.from_residual.ensures.1 in
    let e = sym c.plan_for.ensures ∙ c.in_err-count.was in
    rw (p.1, p.2) (sym e, sym (list_refused_leaves a.file.now (length a.rows.now) _ a.rows.now e))

pub loop-i-init : goal.loop-i-init
unfolding listed
loop-i-init c = refl

pub offset_bounds-rows-i : goal.offset_bounds-rows-i
offset_bounds-rows-i c =
    let a = c.args in
    let fits = plan_fits a.file.now (length a.rows.now) in
    let done = plan_done a.file.now (length a.rows.now) c.in_ok-count.count (sym c.plan_for.ensures ∙ c.in_ok-count.was) in
    omega arith

pub bounds-rows-i : goal.bounds-rows-i
bounds-rows-i c =
    let a = c.args in
    let fits = plan_fits a.file.now (length a.rows.now) in
    let done = plan_done a.file.now (length a.rows.now) c.in_ok-count.count (sym c.plan_for.ensures ∙ c.in_ok-count.was) in
    omega arith

pub loop-i-preserved : goal.loop-i-preserved
unfolding listed
loop-i-preserved c = rw (add-one, c.row_of.ensures, c.loop-i.invariant)
