use Rattle.write_file.specs.Fine.{needed_is}
use Rattle.write_file.proofs.needed.Goals as goal

pub returns : goal.returns
returns c = let p = c.in_ok-plan.ensures in needed_is c.args.batch.now p.0 _ p.1
