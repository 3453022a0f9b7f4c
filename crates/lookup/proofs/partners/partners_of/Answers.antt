-- `lookup::partners::partners_of` meets its contract.
use mathlib.Core.Path.{sym, ◌∙◌}
use lib.ListN.{length}
use Rattle.std.proofs.lemmas.Result.{err_from_is_err_and}
use mathlib.Core.Bool.{false}
use Rattle.codes.specs.Ids.{id_number}
use Rattle.frame.specs.Open.{known_of, bytes_at}
use Rattle.index.specs.Find.Laws.{find_sound}
use Rattle.lookup.specs.Lookup.{partners_at}
use Rattle.lookup.proofs.Laws.Groups.{seen_fills, seen_degree}
use Rattle.lookup.specs.Calls.{alone, begins, ends}
use Rattle.lookup.proofs.Laws.Calls.{alone_absent, alone_refused, alone_found, look_absent, look_at, look_fault, partners_short, partners_found}
use native.Mathlib.Omega.{arith}
use Rattle.lookup.proofs.partners.partners_of.Goals as goal

pub group_of-requires : goal.group_of-requires
group_of-requires c = let a = c.args in
    let f = a.file.now in
    let key = id_number a.key in
    let n = length a.out.now in
    let i = c.in-At.index in
    let m = c.in-At.compared in
    let at = sym c.locate.ensures ∙ c.in-At.is in
    (c.requires, (find_sound (bytes_at f a.o.keys) a.o.keycount key i m at).0)

pub returns-then-room-degree : goal.returns-then-room-degree
returns-then-room-degree c = let a = c.args in
    let f = a.file.now in
    let key = id_number a.key in
    let n = length a.out.now in
    let i = c.in-At.index in
    let m = c.in-At.compared in
    let at = sym c.locate.ensures ∙ c.in-At.is in
    let few = sym c.group_of.ensures ∙ c.in_ok-degree-in-At.was in
    alone_refused _ _ a.out.now (look_at false (alone n) f a.o key i m at ∙ partners_short f a.o i _ few n m (omega arith))

pub give_partners-requires : goal.give_partners-requires
give_partners-requires c = let a = c.args in
    let f = a.file.now in
    let key = id_number a.key in
    let n = length a.out.now in
    let i = c.in-At.index in
    let m = c.in-At.compared in
    let at = sym c.locate.ensures ∙ c.in-At.is in
    let good = sym c.group_of.ensures ∙ c.in_ok-degree-in-At.was in
    (c.requires, (find_sound (bytes_at f a.o.keys) a.o.keycount key i m at).0, seen_fills (bytes_at f a.o.partners) (begins f a.o i) (ends f a.o i) i _ good n (omega arith))

pub returns-in-Absent : goal.returns-in-Absent
returns-in-Absent c = let a = c.args in
    let f = a.file.now in
    alone_absent _ _ a.out.now (look_absent false (alone (length a.out.now)) f a.o (id_number a.key) _ (sym c.locate.ensures ∙ c.in-Absent.is))

pub returns-in_err-degree-in-At : goal.returns-in_err-degree-in-At
returns-in_err-degree-in-At c = let a = c.args in
    let f = a.file.now in
    let key = id_number a.key in
    let n = length a.out.now in
    let i = c.in-At.index in
    let m = c.in-At.compared in
    let at = sym c.locate.ensures ∙ c.in-At.is in
    let g = sym c.group_of.ensures ∙ c.in_err-degree-in-At.was in
    let (r, given, same) = err_from_is_err_and c.from_residual.result c.from_residual.ensures.1 in
    rw (given, same) (alone_refused _ _ a.out.now (look_at false (alone n) f a.o key i m at ∙ look_fault f a.o i false (alone n) m _ g))

pub returns-else-room-degree : goal.returns-else-room-degree
unfolding known_of
returns-else-room-degree c = let a = c.args in
    let f = a.file.now in
    let key = id_number a.key in
    let n = length a.out.now in
    let i = c.in-At.index in
    let m = c.in-At.compared in
    let at = sym c.locate.ensures ∙ c.in-At.is in
    let g = sym c.group_of.ensures ∙ c.in_ok-degree-in-At.was in
    alone_found _ i m _ (partners_at false (alone n) (known_of f a.o) i) a.out.now _ (look_at false (alone n) f a.o key i m at ∙ partners_found f a.o i _ g n m (omega arith)) (seen_degree (bytes_at f a.o.partners) (begins f a.o i) (ends f a.o i) i _ g) c.give_partners.ensures
