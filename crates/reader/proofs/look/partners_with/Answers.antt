-- `look::partners_with` meets its contract.
use mathlib.Core.Path.{sym, ap, ◌∙◌}
use lib.ListN.{length}
use mathlib.Core.Bool.{false}
use Rattle.codes.specs.Ids.{id_at}
use Rattle.frame.specs.Open.{known_of}
use Rattle.lookup.specs.Lookup.{look_in}
use Rattle.lookup.proofs.Laws.Record.{holds}
use Rattle.lookup.specs.Calls.{alone}
use Rattle.lookup.proofs.Laws.Calls.{alone_as, alone_refused}
use Rattle.reader.proofs.Laws.Look.{with_bad, with_good, key_number}
use Rattle.reader.proofs.look.partners_with.Goals as goal

pub returns-then-not-record_good : goal.returns-then-not-record_good
returns-then-not-record_good c =
    let a = c.args in
    let f = a.file.now in
    let key = id_at a.key.now 0 in
    let rooms = alone (length a.out.now) in
    alone_refused _ _ a.out.now (with_bad false rooms key f a.o (sym c.record_good.ensures ∙ c.if-not-record_good.true))

pub partners_of-requires : goal.partners_of-requires
partners_of-requires c = let a = c.args in holds a.file.now a.o (sym c.record_good.ensures ∙ c.if-not-record_good.false)

pub returns : goal.returns
returns c =
    let a = c.args in
    let f = a.file.now in
    let key = id_at a.key.now 0 in
    let rooms = alone (length a.out.now) in
    alone_as (with_good false rooms key f a.o (sym c.record_good.ensures ∙ c.if-not-record_good.false) ∙ ap (look_in false rooms (known_of f a.o)) (sym (key_number a.key.now _ c.id_at.ensures))) c.partners_of.ensures
