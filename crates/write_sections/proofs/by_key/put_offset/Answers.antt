use mathlib.Core.Path.{◌≡◌, sym, ap, ◌∙◌}
use Prim.Native.Nat.{ℕ}
use native.Mathlib.Omega.{arith}
use mathlib.Core.List.{List}
use lib.Seq.{sets}
use Rattle.codes.specs.Little.{le_bytes}
use Rattle.write_sections.proofs.by_key.put_offset.Goals as goal

by_width : (o : List ℕ) (at w v x : ℕ) → w ≡ v → {o₁ : List ℕ} → o₁ ≡ sets o at (le_bytes v x) → o₁ ≡ sets o at (le_bytes w x)
by_width o at w v x e f = f ∙ ap (λ (t : ℕ). sets o at (le_bytes t x)) (sym e)

pub returns-then-w-eq-SHORT : goal.returns-then-w-eq-SHORT
returns-then-w-eq-SHORT c = let a = c.args in by_width a.out.now a.at a.w 3 a.x (omega arith) c.put_le.ensures

pub returns : goal.returns
returns c = let a = c.args in by_width a.out.now a.at a.w 4 a.x (omega arith) c.put_le-2.ensures
