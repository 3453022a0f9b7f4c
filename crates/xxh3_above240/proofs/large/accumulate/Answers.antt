use Rattle.xxh3_above240.proofs.State.{same8}
use Rattle.xxh3_spec.specs.Xxh3.{accumulate}
use Rattle.xxh3_above240.proofs.large.accumulate.Goals as goal

pub returns : goal.returns
unfolding accumulate
returns c =
    same8
    c.lane.ensures
    c.lane-2.ensures
    c.lane-3.ensures
    c.lane-4.ensures
    c.lane-5.ensures
    c.lane-6.ensures
    c.lane-7.ensures
    c.lane-8.ensures
