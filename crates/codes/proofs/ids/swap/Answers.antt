-- `codes::ids::swap` meets its contract: both definitions, written out for eight bytes.
use Rattle.std.proofs.Common.{arith}
use Rattle.codes.specs.Ids.{turned}
use Rattle.codes.proofs.ids.swap.Goals as goal

pub returns : goal.returns
unfolding turned
returns c = omega (arith, c.swap_bytes.ensures)
