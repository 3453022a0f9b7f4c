-- `look::lookup_with` meets its contract.
use mathlib.Core.Path.{sym, ap, ◌∙◌}
use lib.ListN.{length}
use mathlib.Core.Bool.{true}
use Rattle.codes.specs.Ids.{id_at}
use Rattle.frame.specs.Open.{known_of}
use Rattle.lookup.specs.Lookup.{look_in}
use Rattle.lookup.proofs.Laws.Record.{holds}
use Rattle.lookup.specs.Calls.{lent}
use Rattle.lookup.proofs.Laws.Calls.{whole_as, whole_refused}
use Rattle.reader.proofs.Laws.Look.{with_bad, with_good, key_number}
use Rattle.reader.proofs.look.lookup_with.Goals as goal

pub returns-then-not-record_good : goal.returns-then-not-record_good
returns-then-not-record_good c =
    let a = c.args in
    let f = a.file.now in
    let key = id_at a.key.now 0 in
    let rooms = lent (length a.out.now) (length a.logs.now) (length a.marks.now) in
    whole_refused _ _ a.out.now a.logs.now a.marks.now (with_bad true rooms key f a.o (sym c.record_good.ensures ∙ c.if-not-record_good.true))

pub edges_of_key-requires : goal.edges_of_key-requires
edges_of_key-requires c = let a = c.args in holds a.file.now a.o (sym c.record_good.ensures ∙ c.if-not-record_good.false)

pub returns : goal.returns
returns c =
    let a = c.args in
    let f = a.file.now in
    let key = id_at a.key.now 0 in
    let rooms = lent (length a.out.now) (length a.logs.now) (length a.marks.now) in
    whole_as (with_good true rooms key f a.o (sym c.record_good.ensures ∙ c.if-not-record_good.false) ∙ ap (look_in true rooms (known_of f a.o)) (sym (key_number a.key.now _ c.id_at.ensures))) c.edges_of_key.ensures
