-- `summary::summary` meets its contract: the full check first, then the figures.
use Rattle.std.proofs.Common.{sym, ◌∙◌}
use Rattle.std.proofs.lemmas.Result.{err_from_is_err_and}
use Rattle.summary.proofs.Laws.Checked.{summarised_fine, summarised_bad}
use Rattle.summary.proofs.summary.Goals as goal

pub returns-in_err-opened : goal.returns-in_err-opened
returns-in_err-opened c =
    let p = err_from_is_err_and c.from_residual.result c.from_residual.ensures.1 in
    rw (p.1, p.2) (summarised_bad c.args.file.now _ (sym c.checked.ensures ∙ c.in_err-opened.was))

pub returns : goal.returns
returns c = summarised_fine c.args.file.now _ (sym c.checked.ensures ∙ c.in_ok-opened.was) c.summary_in.ensures
