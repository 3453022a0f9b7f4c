use Rattle.xxh3_running.proofs.Steps.{pour_all}
use Rattle.xxh3_running.proofs.lent.pour.Goals as goal

pub returns : goal.returns
returns c = let a = c.args in let p = c.requires in pour_all a.total a.fill a.lanes.now a.buffer.now a.chunk.now p.1 p.0 p.2 _ _ _ _ c.put.ensures c.lanes_after-a.ensures c.flow-b.ensures.0 c.flow-b.ensures.1
