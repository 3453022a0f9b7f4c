use Rattle.xxh3_above240.proofs.State.{same8}
use Rattle.xxh3_spec.specs.Xxh3.{scramble}
use Rattle.xxh3_above240.proofs.large.scramble.Goals as goal

pub returns : goal.returns
unfolding scramble
returns c =
    same8
    c.stir.ensures
    c.stir-2.ensures
    c.stir-3.ensures
    c.stir-4.ensures
    c.stir-5.ensures
    c.stir-6.ensures
    c.stir-7.ensures
    c.stir-8.ensures
