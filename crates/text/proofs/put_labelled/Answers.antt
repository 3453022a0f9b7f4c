-- `text::put_labelled` meets its contract.
use Rattle.text.specs.Text.{decimal}
use Rattle.text.specs.Text.Laws.{first, next, both}
use Rattle.text.proofs.put_labelled.Goals as goal

pub put_word-mid-requires : goal.put_word-mid-requires
put_word-mid-requires c = let p = c in first p.args.word.now (decimal p.args.x) p.args.out.now p.args.at p.requires

pub put_decimal-requires : goal.put_decimal-requires
put_decimal-requires c =
    let p = c in
    next (decimal p.args.x) c.put_word-mid.ensures p.requires

pub returns : goal.returns
returns c = both c.put_word-mid.ensures c.put_decimal.ensures
