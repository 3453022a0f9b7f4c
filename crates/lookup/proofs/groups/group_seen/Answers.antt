-- `lookup::groups::group_seen` meets its contract.
use mathlib.Core.Path.{◌≡◌, sym, ap, ◌∙◌}
use Rattle.std.specs.Prelude.{Err, Ok}
use Rattle.std.proofs.lemmas.Result.{err_from_is_err_and}
use Rattle.refusal.specs.declared.Refusal.{Refusal}
use Rattle.group.specs.Group.{group_of}
use Rattle.group.proofs.Laws.Group.{told_for, read_for, answered_good, answered_bad}
use Rattle.lookup.proofs.Laws.Groups.{seen_misplaced, good_seen, bad_seen}
use borrow.Author.Rules.{rules}
use Rattle.lookup.proofs.groups.group_seen.Goals as goal

pub returns-in_err-bytes : goal.returns-in_err-bytes
returns-in_err-bytes c =
    let a = c.args in
    let none = c.in_err-bytes.ensures.ok_part in
    let told : c.in_err-bytes.field-0.0 ≡ Refusal.Offset a.i = cc (rw none at c.in_err-bytes.ensures.value) in
    let (f, given, same) = err_from_is_err_and c.from_residual.result c.from_residual.ensures.1 in
    given ∙ ap Err (same ∙ told) ∙ sym (seen_misplaced a.partners.now a.a a.e a.i (rw none at c.get.ensures.lookup.0))

pub returns-in_err-group : goal.returns-in_err-group
returns-in_err-group c =
    let a = c.args in
    let h = rw c.in_ok-bytes.ensures.ok_part at c.get.ensures.lookup.0 in
    let seen = rw h.2 at c.check_group.ensures in
    let (why, is, fault) = told_for _ c.check_group.result c.map_err.result _ c.map_err.ensures.cases c.in_err-group.was in
    let (f, given, same) = err_from_is_err_and c.from_residual-in_err-group.result c.from_residual-in_err-group.ensures.1 in
    given ∙ ap Err (same ∙ (search rules)) ∙ sym (bad_seen a.partners.now a.a a.e a.i h.0 h.1 why (answered_bad (group_of _) why (sym seen ∙ is)))

pub returns : goal.returns
returns c =
    let a = c.args in
    let h = rw c.in_ok-bytes.ensures.ok_part at c.get.ensures.lookup.0 in
    let seen = rw h.2 at c.check_group.ensures in
    let e = read_for _ c.check_group.result c.map_err.result _ c.map_err.ensures.cases c.map_err.ensures.variant c.in_ok-group.was in
    let (is, ok, count) = answered_good (group_of _) _ _ (sym seen ∙ e) in
    sym (good_seen a.partners.now a.a a.e a.i h.0 h.1 _ _ is ∙ ap Ok count)
