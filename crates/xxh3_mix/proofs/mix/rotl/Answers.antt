use Rattle.std.proofs.Common.{◌≡◌, ◌-◌, ◌%◌, arith}
use Rattle.xxh3_spec.specs.Xxh3.{rotl}
use Rattle.xxh3_mix.proofs.mix.rotl.Goals as goal

-- k is from 1 to 63, so neither it nor 64 - k is cut
pub returns : goal.returns
unfolding rotl
returns c =
    let k = c.args.k in
    let e : k % 64 ≡ k = omega arith in
    let f : (64 - k) % 64 ≡ 64 - k = omega arith in
    rw (e, f) at c.rotate_left.ensures
