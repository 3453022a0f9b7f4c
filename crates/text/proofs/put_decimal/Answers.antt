-- `text::put_decimal` meets its contract.
use Rattle.std.proofs.Common.{ap, length, arith}
use Rattle.text.specs.Text.Laws.{is, decimal_digits}
use Rattle.text.proofs.put_decimal.Goals as goal

pub put_word-requires : goal.put_word-requires
put_word-requires c =
    let e = decimal_digits c.args.x c.decimal-n.result c.decimal-n.new.out (omega arith) c.decimal-n.ensures.len c.decimal-n.ensures.digits in
    let l = ap length e in
    omega arith

pub returns : goal.returns
returns c =
    let e = decimal_digits c.args.x c.decimal-n.result c.decimal-n.new.out (omega arith) c.decimal-n.ensures.len c.decimal-n.ensures.digits in
    is e c.put_word.ensures
