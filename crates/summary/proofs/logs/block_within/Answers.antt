-- `summary::logs::block_within` meets its contract.
use Rattle.std.proofs.Common.{◌^◌, arith, ltb-true}
use Rattle.summary.proofs.Laws.Logs.{signs_start, signs_on, signs_end}
use Rattle.summary.proofs.logs.block_within.Goals as goal

pub loop-i-init : goal.loop-i-init
loop-i-init g c = let a = c.args in signs_start a.logs.now a.e a.s

pub loop-i-preserved : goal.loop-i-preserved
loop-i-preserved g c = let a = c.args in
    let l = c.loop-i in
    signs_on a.logs.now a.e a.s l.signs l.i l.invariant (omega arith) _ _ c.le.ensures.value c.sign-signs.ensures

pub returns : goal.returns
returns g c = let a = c.args in
    let l = c.loop-i in
    λ small. signs_end a.logs.now a.e a.s l.signs l.i l.invariant (omega arith) (ltb-true l.signs (2 ^ 63) small)
