-- `summary::logs::with_each` meets its contract.
use Rattle.std.proofs.Common.{arith}
use Rattle.summary.proofs.Laws.Logs.{spanning_start, spanning_on, spanning_end}
use Rattle.summary.proofs.logs.with_each.Goals as goal

pub loop-i-init : goal.loop-i-init
loop-i-init c = let s = c in let a = s.args in spanning_start a.logs.now a.e a.n a.s s.requires.0

pub with_one-t-requires : goal.with_one-t-requires
with_one-t-requires c = c.loop-i.invariant.ends

pub loop-i-preserved : goal.loop-i-preserved
loop-i-preserved c = let a = c.args in
    let l = c.loop-i in
    spanning_on a.logs.now a.e a.n a.s l.t l.i l.invariant (omega arith) c.le.ensures.value c.with_one-t.ensures

pub returns : goal.returns
returns c = let a = c.args in
    let l = c.loop-i in
    spanning_end a.logs.now a.e a.n a.s l.t l.i l.invariant (omega arith)
