-- `lookup::whole::group_edges` meets its contract.
use mathlib.Core.Path.{◌≡◌, sym, ◌∙◌}
use lib.ListN.{length}
use Rattle.std.proofs.lemmas.Result.{err_from_is_err_and}
use Rattle.refusal.specs.declared.Refusal.{Refusal}
use Rattle.frame.specs.Open.{known_of, bytes_at}
use Rattle.lookup.proofs.Laws.Groups.{seen_fills, seen_degree}
use Rattle.lookup.specs.Calls.{lent, begins, ends}
use Rattle.lookup.proofs.Laws.Calls.{capped_le, whole_lost, whole_over, whole_short, whole_found, whole_refused, whole_given, none_short}
use native.Mathlib.Omega.{arith}
use Rattle.lookup.proofs.whole.group_edges.Goals as goal

pub overflow_sub-o : goal.overflow_sub-o
overflow_sub-o c = let s = c.in_ok-edges.edges in let m = capped_le _ _ s (sym c.edges_of.ensures ∙ c.in_ok-edges.ensures.ok_part) in m

pub returns-then-o-edges : goal.returns-then-o-edges
returns-then-o-edges c = let a = c.args in
    let f = a.file.now in
    let o = a.o in
    let g = c.requires.2 in
    let rooms = lent (length a.out.now) (length a.logs.now) (length a.marks.now) in
    let s = c.in_ok-edges.edges in
    let e = sym c.edges_of.ensures ∙ c.in_ok-edges.ensures.ok_part in
    let most = capped_le o.edgecount _ s e in
    let h0 = c.if-o-edges.true in
    whole_refused _ _ a.out.now a.logs.now a.marks.now (whole_over f o a.i a.degree g rooms a.compared s e (omega arith))

pub returns-then-short_of : goal.returns-then-short_of
returns-then-short_of c = let a = c.args in
    let f = a.file.now in
    let o = a.o in
    let g = c.requires.2 in
    let rooms = lent (length a.out.now) (length a.logs.now) (length a.marks.now) in
    let s = c.in_ok-edges.edges in
    let e = sym c.edges_of.ensures ∙ c.in_ok-edges.ensures.ok_part in
    let most = capped_le o.edgecount _ s e in
    let h0 = c.if-o-edges.false in
    let q = sym c.short_of.ensures ∙ c.if-short_of.true in
    whole_refused _ _ a.out.now a.logs.now a.marks.now (whole_short f o a.i a.degree g rooms a.compared s e (omega arith) q)

pub give_partners-requires : goal.give_partners-requires
give_partners-requires c = let a = c.args in
    let f = a.file.now in
    let o = a.o in
    let g = c.requires.2 in
    let rooms = lent (length a.out.now) (length a.logs.now) (length a.marks.now) in
    let room = none_short rooms a.degree (sym c.short_of.ensures ∙ c.if-short_of.false) in
    (c.requires.0, c.requires.1, seen_fills (bytes_at f o.partners) (begins f o a.i) (ends f o a.i) a.i _ g _ room.0)

pub give_logs-requires : goal.give_logs-requires
give_logs-requires c = let a = c.args in
    let f = a.file.now in
    let o = a.o in
    let g = c.requires.2 in
    let rooms = lent (length a.out.now) (length a.logs.now) (length a.marks.now) in
    let s = c.in_ok-edges.edges in
    let e = sym c.edges_of.ensures ∙ c.in_ok-edges.ensures.ok_part in
    let most = capped_le o.edgecount _ s e in
    let h0 = c.if-o-edges.false in
    let room = none_short rooms a.degree (sym c.short_of.ensures ∙ c.if-short_of.false) in
    (c.requires.0, omega arith, room.1)

pub give_marks-requires : goal.give_marks-requires
give_marks-requires c = let a = c.args in
    let f = a.file.now in
    let o = a.o in
    let g = c.requires.2 in
    let rooms = lent (length a.out.now) (length a.logs.now) (length a.marks.now) in
    let s = c.in_ok-edges.edges in
    let e = sym c.edges_of.ensures ∙ c.in_ok-edges.ensures.ok_part in
    let most = capped_le o.edgecount _ s e in
    let h0 = c.if-o-edges.false in
    let room = none_short rooms a.degree (sym c.short_of.ensures ∙ c.if-short_of.false) in
    (c.requires.0, omega arith, room.2)

pub returns-in_err-edges : goal.returns-in_err-edges
returns-in_err-edges c = let a = c.args in
    let f = a.file.now in
    let o = a.o in
    let g = c.requires.2 in
    let rooms = lent (length a.out.now) (length a.logs.now) (length a.marks.now) in
    let none = c.in_err-edges.ensures.ok_part in
    let told : c.in_err-edges.field-0.0 ≡ Refusal.Degrees a.i = cc (rw none at c.in_err-edges.ensures.value) in
    let (r, given, same) = err_from_is_err_and c.from_residual.result c.from_residual.ensures.1 in
    rw (given, same, told) (whole_refused _ _ a.out.now a.logs.now a.marks.now (whole_lost f o a.i a.degree g rooms a.compared (sym c.edges_of.ensures ∙ none)))

pub returns : goal.returns
unfolding known_of
returns c = let a = c.args in
    let f = a.file.now in
    let o = a.o in
    let g = c.requires.2 in
    let rooms = lent (length a.out.now) (length a.logs.now) (length a.marks.now) in
    let s = c.in_ok-edges.edges in
    let e = sym c.edges_of.ensures ∙ c.in_ok-edges.ensures.ok_part in
    let most = capped_le o.edgecount _ s e in
    let h0 = c.if-o-edges.false in
    let q = sym c.short_of.ensures ∙ c.if-short_of.false in
    whole_given _ a.i a.compared a.degree _ _ _ a.out.now _ a.logs.now _ a.marks.now _ (whole_found f o a.i a.degree g rooms a.compared s e (omega arith) q) (seen_degree (bytes_at f o.partners) (begins f o a.i) (ends f o a.i) a.i _ g) c.give_partners.ensures c.give_logs.ensures c.give_marks.ensures
