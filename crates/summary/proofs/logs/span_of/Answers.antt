-- `summary::logs::span_of` meets its contract.
use Rattle.std.proofs.Common.{arith}
use Rattle.summary.proofs.Laws.Logs.{blocks_start, blocks_on, blocks_end}
use Rattle.summary.proofs.logs.span_of.Goals as goal

pub loop-e-init : goal.loop-e-init
loop-e-init c = let a = c.args in blocks_start a.logs.now a.n (omega arith) c.le-first.ensures.value

pub overflow_sub-n : goal.overflow_sub-n
overflow_sub-n c = c.loop-e.invariant.most

pub with_block-s-requires : goal.with_block-s-requires
with_block-s-requires c = let most = c.loop-e.invariant.most in (c.loop-e.invariant.ends, omega arith, omega arith)

pub overflow_add-e : goal.overflow_add-e
overflow_add-e c = let most = c.loop-e.invariant.most in omega arith

pub loop-e-smaller : goal.loop-e-smaller
loop-e-smaller c = let most = c.loop-e.invariant.most in omega arith

pub loop-e-preserved : goal.loop-e-preserved
loop-e-preserved c = let a = c.args in
    let l = c.loop-e in
    blocks_on a.logs.now a.n l.s l.e l.invariant (omega arith) c.with_block-s.ensures

pub overflow_sub-n-2 : goal.overflow_sub-n-2
overflow_sub-n-2 c = c.loop-e.invariant.most

pub with_each-requires : goal.with_each-requires
with_each-requires c = let most = c.loop-e.invariant.most in (c.loop-e.invariant.ends, omega arith, omega arith)

pub returns : goal.returns
returns c = let a = c.args in
    let l = c.loop-e in
    blocks_end a.logs.now a.n l.s l.e l.invariant c.with_each.ensures
