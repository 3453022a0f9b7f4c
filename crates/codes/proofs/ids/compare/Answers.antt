-- `codes::ids::compare` meets its contract: the upper halves decide, and where they are equal it is the derived order.
use mathlib.Core.Path.{◌≡◌, sym, ◌∙◌, ap}
use Prim.Native.Nat.{◌^◌, ◌<◌}
use native.Mathlib.Omega.{arith}
use Rattle.std.specs.declared.cmp.Ordering.{Ordering}
use Rattle.std.specs.Ordering.{nat_cmp, ordering_then}
use Rattle.std.specs.Cmp.{nat_cmp_is}
use Rattle.codes.specs.Ids.Laws.{less, greater, upper, derived_order}
use Rattle.codes.proofs.ids.compare.Goals as goal

pub returns-then-a-b : goal.returns-then-a-b
returns-then-a-b c = let a = c.args in let lo : a.a.lo < 2 ^ 64 = omega arith in sym (less (upper a.a.lo a.b.lo (omega arith) lo))

pub returns-then-b-a : goal.returns-then-b-a
returns-then-b-a c =
    let a = c.args in
    let lo : a.b.lo < 2 ^ 64 = omega arith in
    sym (greater (upper a.b.lo a.a.lo (omega arith) lo))

pub returns : goal.returns
returns c =
    let a = c.args in
    let high : a.a.hi ≡ a.b.hi = omega arith in
    let tied : Ordering.Equal ≡ nat_cmp a.a.hi a.b.hi = nat_cmp_is a.a.hi a.b.hi Ordering.Equal high in
    c.cmp.ensures ∙ ap (λ r. ordering_then r (nat_cmp a.a.lo a.b.lo)) tied ∙ derived_order a.a a.b (omega arith) (omega arith)
