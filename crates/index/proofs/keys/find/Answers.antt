-- `index::keys::find` meets its contract. Invariant: the turns that are left give the whole answer.
use Prim.Native.Nat.{◌*◌}
use native.Mathlib.Omega.{arith}
use Rattle.std.specs.declared.cmp.Ordering.{Ordering}
use Rattle.codes.specs.Ids.{id_number}
use Rattle.index.specs.Compare.{order_read}
use Rattle.index.specs.Find.{middle}
use Rattle.index.specs.Find.Laws.{search_start, search_end, search_above, search_here, search_below}
use Rattle.index.proofs.keys.find.Goals as goal

pub loop-low-init : goal.loop-low-init
loop-low-init c = let a = c.args in (omega arith, omega arith, search_start a.keys.now a.n (id_number a.key))

pub loop-low-preserved-in-Less : goal.loop-low-preserved-in-Less
loop-low-preserved-in-Less c =
    let a = c.args in
    let l = c.loop-low in
    let answer = order_read a.keys.now (middle l.low l.high * 16) c.key_at.ensures (id_number a.key) Ordering.Less c.compare.ensures c.in-Less.is in
    (omega arith, omega arith, search_above a.keys.now a.n (id_number a.key) l.low l.high l.compared l.invariant.2 (omega arith) answer)

pub loop-low-preserved : goal.loop-low-preserved
loop-low-preserved c =
    let a = c.args in
    let l = c.loop-low in
    let answer = order_read a.keys.now (middle l.low l.high * 16) c.key_at.ensures (id_number a.key) Ordering.Greater c.compare.ensures c.in-Greater.is in
    (omega arith, omega arith, search_below a.keys.now a.n (id_number a.key) l.low l.high l.compared l.invariant.2 (omega arith) answer)

pub returns-in-Equal : goal.returns-in-Equal
returns-in-Equal c =
    let a = c.args in
    let l = c.loop-low in
    let answer = order_read a.keys.now (middle l.low l.high * 16) c.key_at.ensures (id_number a.key) Ordering.Equal c.compare.ensures c.in-Equal.is in
    search_here a.keys.now a.n (id_number a.key) l.low l.high l.compared l.invariant.2 (omega arith) answer

pub returns : goal.returns
returns c =
    let a = c.args in
    let l = c.loop-low in
    search_end a.keys.now a.n (id_number a.key) l.low l.high l.compared l.invariant.2 (omega arith)
