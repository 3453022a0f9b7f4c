-- `group::check_group` meets its contract: the head chooses the walk.
use mathlib.Core.Path.{sym, ap, ◌∙◌}
use native.Mathlib.Omega.{arith}
use mathlib.Core.Bool.{true, false}
use Rattle.std.specs.Prelude.{Ok, Err}
use Rattle.std.proofs.lemmas.Result.{err_from_is_err_and}
use Rattle.group.specs.Group.{verdict_of}
use Rattle.group.proofs.Laws.Group.{head_headed, group_walk, group_bad, answer_bad}
use Rattle.group.proofs.check_group.Goals as goal

pub returns-in_err-degree : goal.returns-in_err-degree
returns-in_err-degree c =
    let (f, given, same) = err_from_is_err_and c.from_residual.result c.from_residual.ensures.1 in
    given ∙ ap Err same ∙ sym (ap verdict_of (group_bad c.args.g.now _ (sym c.head_of.ensures ∙ c.in_err-degree.was)) ∙ answer_bad _)

pub check_dense-requires : goal.check_dense-requires
check_dense-requires c =
    let h = head_headed c.args.g.now true _ _ (sym c.head_of.ensures ∙ c.in_ok-degree.was ∙ ap Ok c.in-Dense.is) in
    let within = h.within in
    let place = h.place in
    (omega arith, h.some)

pub returns-in-Split : goal.returns-in-Split
returns-in-Split c =
    let g = c.args.g.now in
    c.check_split.ensures ∙ ap verdict_of (sym (group_walk g false _ _ (sym c.head_of.ensures ∙ c.in_ok-degree.was ∙ ap Ok c.in-Split.is)))

pub returns-in-Dense : goal.returns-in-Dense
returns-in-Dense c =
    let g = c.args.g.now in
    c.check_dense.ensures ∙ ap verdict_of (sym (group_walk g true _ _ (sym c.head_of.ensures ∙ c.in_ok-degree.was ∙ ap Ok c.in-Dense.is)))
