-- `codes::ids::be64` meets its contract, by the law of the other order.
use Rattle.codes.specs.Ids.Laws.{turned_le}
use Rattle.codes.proofs.ids.be64.Goals as goal

pub returns : goal.returns
returns c =
    let a = c.args in
    cc (turned_le a.s.now (λ k. (c.type_inv.s k).fits) a.at)
