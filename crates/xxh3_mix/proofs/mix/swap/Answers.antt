use Rattle.std.proofs.Common.{◌≡◌, ◌/◌, ◌%◌, ◌^◌, arith}
use Rattle.xxh3_spec.specs.Xxh3.{swap}
use Rattle.xxh3_mix.proofs.mix.swap.Goals as goal

-- the highest byte has nothing above it
pub returns : goal.returns
unfolding swap
returns c =
    let e : c.args.x / 2 ^ 56 % 2 ^ 8 ≡ c.args.x / 2 ^ 56 = omega arith in
    rw e at c.swap_bytes.ensures
