use mathlib.Core.Path.{ap, ◌∙◌}
use Prim.Native.Nat.{ℕ}
use native.Mathlib.Omega.{arith}
use Rattle.base.specs.Pick.{pick}
use Rattle.write_plan.proofs.tomb_size.Goals as goal

pub returns : goal.returns
returns c =
    let a = c.args in
    let m = c.bytes.ensures in
    let r = c.counted_if.ensures in
    (r.0 ∙ ap (λ (t : ℕ). pick a.dead t 0) m, omega (arith, r.1, m))
