-- `printing::put_id_text` meets its contract.
use Rattle.text.specs.Text.{hex}
use Rattle.text.specs.Text.Laws.{first, next, both}
use Rattle.printing.proofs.put_id_text.Goals as goal

pub put_hex-mid-requires : goal.put_hex-mid-requires
put_hex-mid-requires c = let p = c in first (hex p.args.id.hi) (hex p.args.id.lo) p.args.out.now p.args.at p.requires

pub put_hex-requires : goal.put_hex-requires
put_hex-requires c = let p = c in next (hex p.args.id.lo) c.put_hex-mid.ensures p.requires

pub returns : goal.returns
returns c = both c.put_hex-mid.ensures c.put_hex.ensures
