use Rattle.std.proofs.Common.{arith}
use Rattle.xxh3_above240.proofs.State.{ended}
use Rattle.xxh3_above240.proofs.large.by_default.Goals as goal

pub returns : goal.returns
returns c =
    let a = c in
    ended _ a.args.s.now (omega (arith, a.requires)) c.first_stripe.ensures c.lanes_after-a.ensures
    c.sum_after.ensures
