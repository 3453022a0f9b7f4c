-- `checked` meets its contract.
use mathlib.Core.Path.{sym, ◌∙◌}
use Rattle.std.proofs.lemmas.Result.{err_from_is_err_and}
use Rattle.full_check.specs.Checked.{full_unopened, full_opened, checked_good, checked_bad}
use Rattle.full_check.proofs.checked.Goals as goal

pub sections_check-requires : goal.sections_check-requires
sections_check-requires c = sym c.«open».ensures ∙ c.in_ok-opened.was

pub returns-in_err-opened : goal.returns-in_err-opened
returns-in_err-opened c =
    let f = c.args.file.now in
    let p = err_from_is_err_and c.from_residual.result c.from_residual.ensures.1 in
    rw (p.1, p.2) (sym (checked_bad f _ (full_unopened f _ (sym c.«open».ensures ∙ c.in_err-opened.was))))

pub returns-in_err-sections_check : goal.returns-in_err-sections_check
returns-in_err-sections_check c =
    let f = c.args.file.now in
    let p = err_from_is_err_and c.from_residual-in_err-sections_check.result c.from_residual-in_err-sections_check.ensures.1 in
    rw (p.1, p.2) (sym (checked_bad f _ (full_opened f _ (sym c.«open».ensures ∙ c.in_ok-opened.was) ∙ sym c.sections_check.ensures ∙ c.in_err-sections_check.was)))

pub returns : goal.returns
returns c =
    let f = c.args.file.now in
    let o = sym c.«open».ensures ∙ c.in_ok-opened.was in
    sym (checked_good f _ o (full_opened f _ o ∙ sym c.sections_check.ensures ∙ c.in_ok-sections_check.was))
