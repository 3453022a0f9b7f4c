-- `open::content_of` meets its contract: what rules 13 to 15 say comes before 37.
use mathlib.Core.Path.{sym, ap, ◌∙◌}
use lib.ListN.{length}
use Rattle.refusal.proofs.Laws.Check.{bad_then, fine_then}
use Rattle.std.proofs.lemmas.Result.{err_from_is_err_and}
use Rattle.reader.proofs.Laws.Fit.{content_is}
use Rattle.reader.proofs.open.content_of.Goals as goal

pub returns-in_err-content_check : goal.returns-in_err-content_check
returns-in_err-content_check c =
    let a = c.args in
    let is = content_is a.file.now a.x c.bytes_of.ensures c.bytes_of-2.ensures c.bytes_of-3.ensures (ap length c.bytes_of-4.ensures) c.content_check.ensures in
    let p = err_from_is_err_and c.from_residual.result c.from_residual.ensures.1 in
    rw (p.1, p.2) (sym (sym is ∙ bad_then _ c.in_err-content_check.was))

pub returns : goal.returns
returns c =
    let a = c.args in
    let is = content_is a.file.now a.x c.bytes_of.ensures c.bytes_of-2.ensures c.bytes_of-3.ensures (ap length c.bytes_of-4.ensures) c.content_check.ensures in
    c.starts_of.ensures ∙ sym (fine_then _ c.in_ok-content_check.was) ∙ is
