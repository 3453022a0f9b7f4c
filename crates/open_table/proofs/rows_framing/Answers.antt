-- `rows_framing` meets its contract. Invariant: what is noted of the entries so far, with what is still to come, is what the whole table says.
use mathlib.Core.Path.{◌≡◌, sym, ◌∙◌}
use Prim.Native.Nat.{◌+◌}
use Rattle.open_table.specs.Pass.Laws.{Passing, pass_few, pass_many, passing_start, passing_cut, passing_long, passing_unread, passing_read, passing_stale, passing_unfilled, passing_ended}
use native.Mathlib.Omega.{arith}
use Rattle.open_table.proofs.rows_framing.Goals as goal
use Rattle.open_table.proofs.rows_framing.Goals.{then-count-lt1-via-then-count-lt1, then-count-lt1-via-else-count-lt1+then-count-gt-SECTIONS, then-slot-lt-READ+else-not-fresh, else-slot-lt-READ}

pub returns-then-count-lt1 : goal.returns-then-count-lt1
returns-then-count-lt1 c =
    let a = c.args in
    let m = c.le-count.result in
    let h = c.le-count.ensures.value in
    elim c.then-count-lt1.branch [
      | then-count-lt1-via-then-count-lt1 w ↦ sym (pass_few a.b.now a.limit m h (omega arith))
      | then-count-lt1-via-else-count-lt1+then-count-gt-SECTIONS w ↦ sym (pass_many a.b.now a.limit m h (omega arith))
    ]

pub loop-k-init : goal.loop-k-init
loop-k-init c = let a = c.args in rw c.nothing_seen-seen.ensures (passing_start a.b.now a.limit c.le-count.result)

pub returns-then-b-i : goal.returns-then-b-i
returns-then-b-i c =
    let a = c.args in
    let l = c.loop-k in
    sym (passing_cut a.b.now a.limit c.le-count.result l.k l.i l.seen l.places l.invariant (omega arith) (omega arith) c.le-count.ensures.value)

pub returns-then-r-gt-NAME : goal.returns-then-r-gt-NAME
returns-then-r-gt-NAME c =
    let a = c.args in
    let l = c.loop-k in
    let r = c.row_at-r in
    sym (passing_long a.b.now a.limit c.le-count.result l.k l.i l.seen l.places l.invariant (omega arith) r.result r.ensures (omega arith) c.le-count.ensures.value)

pub returns-then-not-fresh : goal.returns-then-not-fresh
returns-then-not-fresh c =
    let a = c.args in
    let l = c.loop-k in
    let r = c.row_at-r in
    sym (passing_stale a.b.now a.limit c.le-count.result l.k l.i l.seen l.places l.invariant (omega arith) r.result r.ensures (omega arith) c.slot-slot.result c.slot-slot.ensures (omega arith) (sym c.fresh.ensures ∙ c.if-not-fresh.true) c.le-count.ensures.value)

pub loop-k-preserved : goal.loop-k-preserved
loop-k-preserved c =
    let a = c.args in
    let l = c.loop-k in
    let m = c.le-count.result in
    let r = c.row_at-r in
    let next : l.i + (28 + r.result.namelen) ≡ l.i + 28 + r.result.namelen = omega arith in
    rw next
    (elim c.if-slot-lt-READ.branch as (λ _. Passing a.b.now a.limit m (l.k + 1) (l.i + 28 + r.result.namelen) c.ranged-seen.result c.if-slot-lt-READ.places) [
      | then-slot-lt-READ+else-not-fresh w ↦
          rw (c.ranged-seen.ensures, w.places-is, w.seen-is, w.coded-seen.ensures)
          (passing_read a.b.now a.limit m l.k l.i l.seen l.places l.invariant (omega arith) r.result r.ensures (omega arith) c.slot-slot.result c.slot-slot.ensures (omega (arith, w.if-slot-lt-READ.true)) (sym w.fresh.ensures ∙ w.if-not-fresh.false))
      | else-slot-lt-READ w ↦
          rw (c.ranged-seen.ensures, w.places-is, w.seen-is, w.unread-seen.ensures)
          (passing_unread a.b.now a.limit m l.k l.i l.seen l.places l.invariant (omega arith) r.result r.ensures (omega arith) (omega (arith, w.if-slot-lt-READ.false)))
    ])

pub returns-then-i-b : goal.returns-then-i-b
returns-then-i-b c =
    let a = c.args in
    let l = c.loop-k in
    sym (passing_unfilled a.b.now a.limit c.le-count.result l.k l.i l.seen l.places l.invariant (omega arith) c.le-count.ensures.value (λ e. omega arith))

pub returns : goal.returns
returns c =
    let a = c.args in
    let l = c.loop-k in
    c.judged.ensures ∙ passing_ended a.b.now a.limit c.le-count.result l.k l.i l.seen l.places l.invariant (omega arith) c.le-count.ensures.value (omega arith) (omega arith) (omega arith)
