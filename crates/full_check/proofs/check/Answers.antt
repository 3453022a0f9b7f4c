-- `check` meets its contract.
use mathlib.Core.Path.{sym, ◌∙◌}
use Rattle.std.proofs.lemmas.Result.{err_from_is_err_and}
use Rattle.full_check.specs.Checked.{checked_refused, checked_fine}
use Rattle.full_check.proofs.check.Goals as goal

pub returns-in_err-checked : goal.returns-in_err-checked
returns-in_err-checked c =
    let p = err_from_is_err_and c.from_residual.result c.from_residual.ensures.1 in
    rw (p.1, p.2) (sym (checked_refused c.args.file.now _ (sym c.checked.ensures ∙ c.in_err-checked.was)))

pub returns : goal.returns
returns c = sym (checked_fine c.args.file.now _ (sym c.checked.ensures ∙ c.in_ok-checked.was))
