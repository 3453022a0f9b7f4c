use Rattle.xxh3_spec.specs.Xxh3.{of9to16}
use Rattle.xxh3_upto240.proofs.small.of9to16.Goals as goal

pub returns : goal.returns
unfolding of9to16
returns c = cc
