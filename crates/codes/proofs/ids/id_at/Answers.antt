-- `codes::ids::id_at` meets its contract.
use Rattle.codes.specs.Ids.Laws.{halves_is}
use Rattle.codes.proofs.ids.id_at.Goals as goal

pub returns : goal.returns
returns c = cc (halves_is c.args.s.now c.args.at)
