use Rattle.std.proofs.Common.{refl}
use Rattle.xxh3_spec.specs.Xxh3.{secret}
use Rattle.xxh3_above240.proofs.State.{merged}
use Rattle.xxh3_above240.proofs.large.merge.Goals as goal

pub returns : goal.returns
returns c =
    let a = c.args in
    merged secret a.a a.n
    c.low.ensures
    c.twice.ensures
    refl
    c.twice-2.ensures
    refl
    c.twice-3.ensures
    refl
    c.twice-4.ensures
    refl
    c.avalanche.ensures
