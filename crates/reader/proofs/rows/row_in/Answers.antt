-- `rows::row_in` meets its contract. Invariant: the entries that are left end where all of them end.
use mathlib.Core.Path.{◌≡◌, sym, ap, ◌∙◌}
use Prim.Native.Nat.{◌+◌}
use Rattle.reader.proofs.Laws.Rows.{row_few, row_cut, row_on, row_past, row_here, row_name, end_here}
use Rattle.std.specs.Prelude.{Some}
use native.Mathlib.Omega.{arith}
use Rattle.reader.proofs.rows.row_in.Goals as goal

pub returns-then-count-i : goal.returns-then-count-i
returns-then-count-i c =
    let a = c.args in
    let n = c.le-count.ensures.value in
    sym (row_few a.at a.b.now a.i (omega arith))

pub returns-then-b-p : goal.returns-then-b-p
returns-then-b-p c =
    let a = c.args in
    let l = c.loop-k in
    sym (row_cut a.at a.b.now a.i l._k l.p l.invariant.1 (omega arith) (omega arith))

pub loop-k-preserved : goal.loop-k-preserved
loop-k-preserved c =
    let a = c.args in
    let l = c.loop-k in
    let next : l.p + (28 + c.byte.result) ≡ l.p + 28 + c.byte.result = omega arith in
    rw next (omega arith, row_on a.at a.b.now a.i l._k l.p l.invariant.1 (omega arith) (omega arith) _ c.byte.ensures.0)

pub returns-then-b-p-2 : goal.returns-then-b-p-2
returns-then-b-p-2 c =
    let a = c.args in
    let l = c.loop-k in
    sym (row_cut a.at a.b.now a.i l._k l.p l.invariant.1 (omega arith) (omega arith))

pub returns-then-b-p-3 : goal.returns-then-b-p-3
returns-then-b-p-3 c =
    let a = c.args in
    let l = c.loop-k in
    let n = c.le-count.ensures.value in
    sym (row_past a.at a.b.now a.i l.p (end_here a.b.now a.i l._k l.p (omega arith) l.invariant.1) (omega arith) _ c.byte-name.ensures.0 (omega arith))

pub placed-requires : goal.placed-requires
placed-requires c =
    let e = row_name c.args.b.now c.loop-k.p c.row_at.result c.row_at.ensures in
    (omega arith, omega arith)

pub returns : goal.returns
returns c =
    let a = c.args in
    let l = c.loop-k in
    let n = c.le-count.ensures.value in
    ap Some c.placed.ensures
    ∙ sym (row_here a.at a.b.now a.i l.p (end_here a.b.now a.i l._k l.p (omega arith) l.invariant.1) (omega arith) _ c.byte-name.ensures.0 (omega arith) c.row_at.result c.row_at.ensures)
