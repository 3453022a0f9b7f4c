use mathlib.Core.Path.{ap, ◌∙◌}
use Prim.Native.Nat.{ℕ}
use native.Mathlib.Omega.{arith}
use Rattle.base.specs.Pick.{pick}
use Rattle.frame.specs.Kind as kind
use Rattle.write_image.specs.Image.{fenced}
use Rattle.write_plan.proofs.fences_size.Goals as goal

pub returns : goal.returns
returns c =
    let a = c.args in
    let n = c.count.ensures in
    let m = c.bytes.ensures in
    let r = c.counted_if.ensures in
    (r.0 ∙ ap (λ (t : ℕ). pick (fenced a.keys) t 0) (m ∙ ap kind.fences_len n), omega (arith, r.1, m, n))
