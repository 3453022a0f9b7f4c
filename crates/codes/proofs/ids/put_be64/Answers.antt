-- `codes::ids::put_be64` meets its contract, by the law of the other order.
use Rattle.codes.specs.Ids.Laws.{turned_put}
use Rattle.codes.proofs.ids.put_be64.Goals as goal

pub returns : goal.returns
returns c = cc (turned_put c.args.x)
