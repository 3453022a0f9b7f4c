use Rattle.xxh3_running.proofs.Steps.{sum_short, sum_long}
use Rattle.xxh3_running.proofs.lent.sum_lent.Goals as goal

pub returns-then-total-le256 : goal.returns-then-total-le256
returns-then-total-le256 c = let a = c.args in sum_short a.total a.lanes.now a.buffer.now c.if-total-le256.true c.by_length.ensures

pub returns : goal.returns
returns c = let a = c.args in sum_long a.total a.lanes.now a.buffer.now c.if-total-le256.false c.long_sum.ensures
