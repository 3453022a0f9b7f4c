-- `lookup::whole::edges_of_key` meets its contract.
use mathlib.Core.Path.{sym, ◌∙◌}
use lib.ListN.{length}
use Rattle.std.proofs.lemmas.Result.{err_from_is_err_and}
use mathlib.Core.Bool.{true}
use Rattle.codes.specs.Ids.{id_number}
use Rattle.frame.specs.Open.{bytes_at}
use Rattle.index.specs.Find.Laws.{find_sound}
use Rattle.lookup.specs.Calls.{lent}
use Rattle.lookup.proofs.Laws.Calls.{whole_absent, whole_refused, whole_as, look_absent, look_at, look_fault}
use Rattle.lookup.proofs.whole.edges_of_key.Goals as goal

pub group_of-requires : goal.group_of-requires
group_of-requires c = let a = c.args in
    let f = a.file.now in
    let key = id_number a.key in
    let rooms = lent (length a.out.now) (length a.logs.now) (length a.marks.now) in
    let i = c.in-At.index in
    let m = c.in-At.compared in
    let at = sym c.locate.ensures ∙ c.in-At.is in
    (c.requires, (find_sound (bytes_at f a.o.keys) a.o.keycount key i m at).0)

pub group_edges-requires : goal.group_edges-requires
group_edges-requires c = let a = c.args in
    let f = a.file.now in
    let key = id_number a.key in
    let rooms = lent (length a.out.now) (length a.logs.now) (length a.marks.now) in
    let i = c.in-At.index in
    let m = c.in-At.compared in
    let at = sym c.locate.ensures ∙ c.in-At.is in
    let g = sym c.group_of.ensures ∙ c.in_ok-degree-in-At.was in
    (c.requires, (find_sound (bytes_at f a.o.keys) a.o.keycount key i m at).0, g)

pub returns-in-Absent : goal.returns-in-Absent
returns-in-Absent c = let a = c.args in
    let f = a.file.now in
    let rooms = lent (length a.out.now) (length a.logs.now) (length a.marks.now) in
    whole_absent _ _ a.out.now a.logs.now a.marks.now (look_absent true rooms f a.o (id_number a.key) _ (sym c.locate.ensures ∙ c.in-Absent.is))

pub returns-in_err-degree-in-At : goal.returns-in_err-degree-in-At
returns-in_err-degree-in-At c = let a = c.args in
    let f = a.file.now in
    let key = id_number a.key in
    let rooms = lent (length a.out.now) (length a.logs.now) (length a.marks.now) in
    let i = c.in-At.index in
    let m = c.in-At.compared in
    let at = sym c.locate.ensures ∙ c.in-At.is in
    let g = sym c.group_of.ensures ∙ c.in_err-degree-in-At.was in
    let (r, given, same) = err_from_is_err_and c.from_residual.result c.from_residual.ensures.1 in
    rw (given, same) (whole_refused _ _ a.out.now a.logs.now a.marks.now (look_at true rooms f a.o key i m at ∙ look_fault f a.o i true rooms m _ g))

pub returns-in_ok-degree-in-At : goal.returns-in_ok-degree-in-At
returns-in_ok-degree-in-At c = let a = c.args in
    let f = a.file.now in
    let key = id_number a.key in
    let rooms = lent (length a.out.now) (length a.logs.now) (length a.marks.now) in
    let i = c.in-At.index in
    let m = c.in-At.compared in
    let at = sym c.locate.ensures ∙ c.in-At.is in
    whole_as (look_at true rooms f a.o key i m at) c.group_edges.ensures
