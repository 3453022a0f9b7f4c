-- `sections_check` meets its contract.
use Rattle.frame.proofs.Laws.Open.{opens_parts}
use Rattle.full_check.proofs.sections_check.Goals as goal

pub sums_check-requires : goal.sums_check-requires
sums_check-requires c = let a = c.args in (opens_parts a.file.now a.o c.requires).frames
