-- `codes::ids::precedes` meets its contract: the upper halves decide, and where they are equal the lower.
use mathlib.Core.Path.{◌≡◌, sym, ap₂, ◌∙◌}
use native.Mathlib.Omega.{arith}
use lib.Dec.{ltb}
use Rattle.codes.specs.Ids.{be_at}
use Rattle.codes.specs.Ids.Laws.{before_upper, before_under, before_lower}
use Rattle.codes.proofs.ids.precedes.Goals as goal

pub returns-then-a-b : goal.returns-then-a-b
returns-then-a-b c =
    let a = c.args in
    sym (before_upper a.s.now (λ k. (c.type_inv.s k).fits) a.i a.j (omega arith))

pub returns-then-b-a : goal.returns-then-b-a
returns-then-b-a c =
    let a = c.args in
    sym (before_under a.s.now (λ k. (c.type_inv.s k).fits) a.i a.j (omega arith))

pub returns : goal.returns
returns c =
    let a = c.args in
    let same : be_at a.s.now a.i 8 ≡ be_at a.s.now a.j 8 = omega arith in
    ap₂ ltb c.be64-lower.ensures c.be64.ensures
    ∙ sym (before_lower a.s.now (λ k. (c.type_inv.s k).fits) a.i a.j same)
