use Rattle.std.proofs.Common.{◌≡◌, ◌+◌, ◌-◌, ◌/◌, length, refl, arith}
use Rattle.xxh3_spec.specs.Xxh3.{secret, inward, of17to128}
use Rattle.xxh3_upto240.proofs.Rounds.{inward_step}
use Rattle.xxh3_upto240.proofs.medium.of17to128.Goals as goal

pub loop-i-init : goal.loop-i-init
unfolding inward
loop-i-init c = refl

pub loop-i-preserved : goal.loop-i-preserved
loop-i-preserved c = cc (inward_step secret c.args.s.now c.loop-i.i c.low-h.result)

pub returns : goal.returns
unfolding of17to128
returns c =
    let e : c.loop-i.i ≡ (length c.args.s.now - 1) / 32 + 1 = omega arith in
    cc
