-- `summary::tally::bucket_of` meets its contract.
use Rattle.std.proofs.Common.{arith}
use Rattle.summary.proofs.Laws.Bits.{zeros_bucket}
use Rattle.summary.proofs.tally.bucket_of.Goals as goal

pub overflow_cast-result : goal.overflow_cast-result
overflow_cast-result c = let z = zeros_bucket c.args.d c.requires (omega arith) in omega arith

pub overflow_sub-result : goal.overflow_sub-result
overflow_sub-result c = let z = zeros_bucket c.args.d c.requires (omega arith) in omega arith

pub returns : goal.returns
returns c = let z = zeros_bucket c.args.d c.requires (omega arith) in (omega arith, z.1)
