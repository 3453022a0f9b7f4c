-- `codes::varint::varint_at` meets its contract: the first byte is the whole number, or the others go on from it.
use mathlib.Core.Path.{sym, ◌∙◌}
use native.Mathlib.Omega.{arith}
use Rattle.codes.specs.Varint.Laws.{varint_cut, varint_one, varint_more}
use Rattle.codes.proofs.varint.varint_at.Goals as goal

pub returns-then-s-at : goal.returns-then-s-at
returns-then-s-at c =
    let a = c.args in
    sym (varint_cut a.s.now a.at c.if-s-at.true)

pub overflow_cast-b : goal.overflow_cast-b
overflow_cast-b c = omega (arith, c.type_inv.s c.args.at)

pub returns-then-b-lt128 : goal.returns-then-b-lt128
returns-then-b-lt128 c =
    let a = c.args in
    sym (varint_one a.s.now a.at (omega arith) (omega arith))

pub returns : goal.returns
returns c =
    let a = c.args in
    c.more_at.ensures ∙ sym (varint_more a.s.now a.at (omega arith) (omega arith))
