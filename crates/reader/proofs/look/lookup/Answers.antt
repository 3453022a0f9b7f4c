-- `look::lookup` meets its contract.
use mathlib.Core.Path.{sym, ap, ◌∙◌}
use lib.ListN.{length}
use mathlib.Core.Bool.{true}
use Rattle.codes.specs.Ids.{id_at}
use Rattle.frame.specs.Open.{known_of}
use Rattle.lookup.specs.Lookup.{look_in}
use Rattle.lookup.specs.Calls.{lent}
use Rattle.lookup.proofs.Laws.Calls.{whole_as, whole_refused}
use Rattle.std.proofs.lemmas.Result.{err_from_is_err_and}
use Rattle.reader.proofs.Laws.Look.{of_refused, of_good, opened_holds, key_number}
use Rattle.reader.proofs.look.lookup.Goals as goal

pub edges_of_key-requires : goal.edges_of_key-requires
edges_of_key-requires c = let a = c.args in opened_holds a.file.now _ (sym c.«open».ensures ∙ c.in_ok-opened.was)

pub returns-in_err-opened : goal.returns-in_err-opened
returns-in_err-opened c =
    let a = c.args in
    let f = a.file.now in
    let key = id_at a.key.now 0 in
    let rooms = lent (length a.out.now) (length a.logs.now) (length a.marks.now) in
    let p = err_from_is_err_and c.from_residual.result c.from_residual.ensures.1 in
    rw (p.1, p.2) (whole_refused _ _ a.out.now a.logs.now a.marks.now (of_refused true rooms key f _ (sym c.«open».ensures ∙ c.in_err-opened.was)))

pub returns : goal.returns
returns c =
    let a = c.args in
    let f = a.file.now in
    let key = id_at a.key.now 0 in
    let rooms = lent (length a.out.now) (length a.logs.now) (length a.marks.now) in
    let o = c.in_ok-opened.opened in
    whole_as (of_good true rooms key f o (sym c.«open».ensures ∙ c.in_ok-opened.was) ∙ ap (look_in true rooms (known_of f o)) (sym (key_number a.key.now _ c.id_at.ensures))) c.edges_of_key.ensures
