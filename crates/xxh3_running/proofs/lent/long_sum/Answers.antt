use Rattle.xxh3_running.proofs.Steps.{long_of}
use Rattle.xxh3_running.proofs.lent.long_sum.Goals as goal

pub returns : goal.returns
returns c = let a = c.args in long_of a.total a.lanes.now a.buffer.now c.lanes_after-a.ensures c.last_bytes-last.ensures c.sum_after.ensures
