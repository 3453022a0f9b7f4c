-- `codes::ids::put_id` meets its contract.
use Rattle.codes.specs.Ids.Laws.{put_halves}
use Rattle.codes.proofs.ids.put_id.Goals as goal

pub returns : goal.returns
returns c =
    let a = c.args in
    cc (put_halves a.out.now a.at a.id)
