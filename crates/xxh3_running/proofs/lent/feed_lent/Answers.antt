use native.Mathlib.Omega.{arith}
use Rattle.xxh3_running.proofs.Steps.{stays, takes_few, takes_more}
use Rattle.xxh3_running.proofs.lent.feed_lent.Goals as goal

pub returns-then-t-gt-MOST : goal.returns-then-t-gt-MOST
returns-then-t-gt-MOST c = let a = c.args in stays a.total.now a.lanes.now a.buffer.now a.chunk.now (omega arith)

pub returns-then-n-t : goal.returns-then-n-t
returns-then-n-t c = let a = c.args in stays a.total.now a.lanes.now a.buffer.now a.chunk.now (omega arith)

pub returns-then-chunk-fill : goal.returns-then-chunk-fill
returns-then-chunk-fill c = let a = c.args in takes_few a.total.now c.room-fill.result a.lanes.now a.buffer.now a.chunk.now _ (omega arith) c.room-fill.ensures c.if-chunk-fill.true c.put.ensures

pub returns : goal.returns
returns c = let a = c.args in takes_more a.total.now a.lanes.now a.buffer.now a.chunk.now _ _ (omega arith) c.pour.ensures.0 c.pour.ensures.1
