use native.Mathlib.Omega.{arith}
use Rattle.xxh3_running.specs.Running.Laws.{buffers_in}
use Rattle.xxh3_running.proofs.Steps.{flow_few, flow_many}
use Rattle.xxh3_running.proofs.lent.flow.Goals as goal

pub returns-then-whole-eq0 : goal.returns-then-whole-eq0
returns-then-whole-eq0 c = let a = c.args in flow_few a.a a.buffer.now a.rest.now _ a.next c.if-whole-eq0.true c.put.ensures

pub returns : goal.returns
returns c = let a = c.args in let k = buffers_in a.rest.now in (c.lanes_after.ensures, flow_many a.buffer.now a.rest.now _ _ k c.requires.0 (omega arith) (omega arith) c.put-2.ensures c.put-3.ensures)
