-- `header::header` meets its contract.
use mathlib.Core.Path.{sym, ap, ◌∙◌}
use Rattle.std.specs.Prelude.{Ok}
use Rattle.std.proofs.lemmas.Result.{err_from_is_err_and}
use Rattle.reader.proofs.Laws.Header.{header_refused, header_good, header_there}
use Rattle.reader.proofs.header.header.Goals as goal

pub returns-in_err-open : goal.returns-in_err-open
returns-in_err-open c = let p = err_from_is_err_and c.from_residual.result c.from_residual.ensures.1 in
    rw (p.1, p.2) (sym (header_refused c.args.file.now _ (sym c.«open».ensures ∙ c.in_err-open.was)))

pub fields-requires : goal.fields-requires
fields-requires c = header_there c.args.file.now _ (sym c.«open».ensures ∙ c.in_ok-open.was)

pub returns : goal.returns
returns c = ap Ok c.fields.ensures ∙ sym (header_good c.args.file.now _ (sym c.«open».ensures ∙ c.in_ok-open.was))
