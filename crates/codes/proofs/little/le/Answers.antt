-- `codes::little::le` meets its contract, by the laws over the width.
use Rattle.std.proofs.Common.{sym, ap, ◌∙◌, ◌≤◌, ◌^◌, ◌<◌, ℕ, get_or, arith}
use Rattle.std.proofs.Math.Nat.{min-eq_left, min-eq_right}
use Rattle.codes.specs.Little.{le_at}
use Rattle.codes.specs.Little.Laws.{le_at_zero, le_at_lt}
use Rattle.codes.proofs.little.le.Goals as goal

pub on_top-requires : goal.on_top-requires
on_top-requires g c =
    let n = g.row.N in
    let some : 0 ≤ n = omega arith in
    (omega arith, c.requires.0, c.requires.1, sym (ap (le_at c.args.s.now c.args.at) (min-eq_left some) ∙ le_at_zero _ _))

pub returns-clause-bound : goal.returns-clause-bound
returns-clause-bound g c =
    let s = c.args.s.now in
    let bytes : (j : ℕ) → get_or s j 0 < 2 ^ 8 = λ j. (c.type_inv.s j).fits in
    let whole = c.on_top-5.ensures ∙ ap (le_at s c.args.at) (min-eq_right c.requires.0) in
    rw whole (le_at_lt s bytes c.args.at g.row.N)
