use Rattle.std.proofs.Common.{◌≡◌, ℕ, ◌/◌, List, arith}
use Rattle.batch.specs.declared.Edge.{Edge}
use Rattle.batch.specs.Batch.{edges_of}
use Rattle.write_sections.proofs.by_edge.put_logs_tombs.Goals as goal
use Rattle.write_sections.proofs.by_edge.put_logs_tombs.Invariants.{Head, room, again, room_last, done, none_left, fits, begin}

pub overflow_add-t : goal.overflow_add-t
overflow_add-t c = let a = c.args in let es = edges_of a.batch.now in let f = fits es a.out.now a.at a.n c.requires.0 in omega (arith, c.requires.2)

pub loop-q-init : goal.loop-q-init
loop-q-init c = let a = c.args in let es = edges_of a.batch.now in begin es a.out.now a.at a.n c.requires.0

pub put_octet-requires : goal.put_octet-requires
put_octet-requires c = let a = c.args in let l = c.loop-q in let es = edges_of a.batch.now in let r = room es a.out.now a.at l.out l.q l.p l.t l.invariant (omega arith) c.requires.2 in (omega arith, omega arith, omega arith, r.0, r.1)

pub overflow_add-p : goal.overflow_add-p
overflow_add-p c = let a = c.args in let l = c.loop-q in let es = edges_of a.batch.now in let r = room es a.out.now a.at l.out l.q l.p l.t l.invariant (omega arith) c.requires.2 in omega (arith, r.2)

pub overflow_add-t-in-loop-q : goal.overflow_add-t-in-loop-q
overflow_add-t-in-loop-q c = let a = c.args in let l = c.loop-q in let es = edges_of a.batch.now in let r = room es a.out.now a.at l.out l.q l.p l.t l.invariant (omega arith) c.requires.2 in omega (arith, r.1)

pub loop-q-preserved : goal.loop-q-preserved
loop-q-preserved c = let a = c.args in let l = c.loop-q in let es = edges_of a.batch.now in again es a.out.now a.at l.out l.q l.p l.t l.invariant (omega arith) c.put_octet.ensures

pub shape_of-out-then-n-full : goal.shape_of-out-then-n-full
shape_of-out-then-n-full c = c.loop-q.invariant.two.same

pub returns-then-n-full : goal.returns-then-n-full
returns-then-n-full c = let a = c.args in let l = c.loop-q in let es = edges_of a.batch.now in none_left es a.out.now a.at l.out l.q l.p l.t l.invariant (omega arith) a.n c.requires.0 (omega arith)

-- at the loop's end
whole : {es : List Edge} {start : List ℕ} {at : ℕ} {out : List ℕ} {q p t : ℕ} (full : ℕ) → q ≡ full → Head es start at out q p t → Head es start at out full p t
whole full e h = rw e at h

pub put_octet-requires-2 : goal.put_octet-requires-2
put_octet-requires-2 c = let a = c.args in let l = c.loop-q in let es = edges_of a.batch.now in let h = whole (a.n / 8) (omega arith) l.invariant in let r = room_last es a.out.now a.at l.out (a.n / 8) l.p l.t h (omega arith) a.n c.requires.0 (omega arith) c.requires.2 in (omega arith, omega arith, omega arith, r.0, r.1)

pub overflow_add-result : goal.overflow_add-result
overflow_add-result c = let a = c.args in let l = c.loop-q in let es = edges_of a.batch.now in let r = room_last es a.out.now a.at l.out l.q l.p l.t l.invariant (omega arith) a.n c.requires.0 (omega arith) c.requires.2 in omega (arith, r.1)

pub shape_of-out : goal.shape_of-out
shape_of-out c = let s = c.loop-q.invariant.two.same in omega arith

pub returns : goal.returns
returns c = let a = c.args in let l = c.loop-q in let es = edges_of a.batch.now in let h = whole (a.n / 8) (omega arith) l.invariant in done es a.out.now a.at l.out (a.n / 8) l.p l.t h (omega arith) a.n c.requires.0 (omega arith) c.put_octet-2.ensures
