-- `open::open` meets its contract.
use mathlib.Core.Path.{sym, ◌∙◌}
use Rattle.std.proofs.lemmas.Result.{err_from_is_err_and}
use Rattle.reader.proofs.Laws.Fit.{open_unframed, open_fits, open_refused, open_good}
use Rattle.reader.proofs.open.open.Goals as goal

pub returns-in_err-framed : goal.returns-in_err-framed
returns-in_err-framed c = let p = err_from_is_err_and c.from_residual.result c.from_residual.ensures.1 in
    rw (p.1, p.2) (sym (open_unframed c.args.file.now _ (sym c.frame_of.ensures ∙ c.in_err-framed.was)))

pub content_of-requires : goal.content_of-requires
content_of-requires c = open_fits c.args.file.now _ (sym c.frame_of.ensures ∙ c.in_ok-framed.was)

pub returns-in_err-content_of : goal.returns-in_err-content_of
returns-in_err-content_of c =
    let p = err_from_is_err_and c.from_residual-in_err-content_of.result c.from_residual-in_err-content_of.ensures.1 in
    rw (p.1, p.2) (sym (open_refused c.args.file.now _ (sym c.frame_of.ensures ∙ c.in_ok-framed.was) _ (sym c.content_of.ensures ∙ c.in_err-content_of.was)))

pub returns : goal.returns
returns c = sym (open_good c.args.file.now _ (sym c.frame_of.ensures ∙ c.in_ok-framed.was) (sym c.content_of.ensures ∙ c.in_ok-content_of.was))
