-- `codes::little::on_top` meets its contract, by the laws over the width.
use Rattle.std.proofs.Common.{refl, sym, ap, ◌∙◌, ◌≡◌, ◌≤◌, ◌+◌, ◌^◌, ◌<◌, ℕ, get_or, arith}
use Rattle.std.proofs.Math.Nat.{min-eq_left}
use Rattle.codes.specs.Little.{le_at}
use Rattle.codes.specs.Little.Laws.{le_at_more}
use Rattle.codes.proofs.little.on_top.Goals as goal

pub returns-then-k : goal.returns-then-k
returns-then-k g c =
    let s = c.args.s.now in
    let k = c.args.k in
    let at = c.args.at in
    let bytes : (j : ℕ) → get_or s j 0 < 2 ^ 8 = λ j. (c.type_inv.s j).fits in
    let n = g.row.N in
    let below : k ≤ n = omega arith in
    let sofar : c.args.x ≡ le_at s at k = c.requires.3 ∙ ap (le_at s at) (min-eq_left below) in
    let above : k + 1 ≤ n = omega arith in
    le_at_more s at k c.args.x _ bytes (omega arith) sofar refl ∙ sym (ap (le_at s at) (min-eq_left above))
