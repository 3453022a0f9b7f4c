-- `text::put_hex` meets its contract.
use Rattle.std.proofs.Common.{ap, length, arith}
use Rattle.text.specs.Text.Laws.{is, hex_digits}
use Rattle.text.proofs.put_hex.Goals as goal

pub put_word-requires : goal.put_word-requires
put_word-requires c =
    let e = hex_digits c.args.x c.hex-n.result c.hex-n.new.out (omega arith) c.hex-n.ensures.len c.hex-n.ensures.digits in
    let l = ap length e in
    omega arith

pub returns : goal.returns
returns c =
    let e = hex_digits c.args.x c.hex-n.result c.hex-n.new.out (omega arith) c.hex-n.ensures.len c.hex-n.ensures.digits in
    is e c.put_word.ensures
