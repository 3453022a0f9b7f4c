use mathlib.Core.Path.{◌≡◌, refl}
use native.Mathlib.Omega.{arith}
use mathlib.Core.Bool.{Bool, true, false}
use Rattle.base.specs.Pick.{pick}
use Rattle.write_image.specs.Image.{bit, fenced, indexed}
use Rattle.write_plan.proofs.section_count.Goals as goal

one : (b : Bool) → pick b 1 0 ≡ bit b
one true = refl
one false = refl

pub returns : goal.returns
returns c =
    let a = c.args in
    let t = c.counted_if-tombs.ensures in
    let f = c.counted_if-fences.ensures in
    let s = c.counted_if-starts.ensures in
    (omega (arith, t.0, f.0, s.0, one a.dead, one (fenced a.keys), one (indexed a.keys)), omega (arith, t.1, f.1, s.1))
