use mathlib.Core.Path.{◌≡◌, refl, sym, ap, ◌∙◌}
use Prim.Native.Nat.{ℕ, ◌+◌, ◌-◌, ◌≤◌}
use native.Mathlib.Omega.{arith}
use mathlib.Core.List.{List}
use lib.ListN.{length}
use lib.Seq.{sets}
use Rattle.base.specs.Over.{part, length_part}
use Rattle.base.specs.Put.{Put}
use Rattle.codes.specs.Little.{le_bytes}
use Rattle.xxh3_spec.specs.Xxh3.{xxh3}
use Rattle.frame.specs.Layout.{trailer}
use Rattle.write_frame.specs.Runs.{tail_parts}
use Rattle.write_frame.proofs.put_trailer.Goals as goal

written : (o : List ℕ) (body at sum len : ℕ) → body ≤ at → at ≤ length o → sum ≡ xxh3 (part o body at) → len ≡ at - body + 20 → {o₁ o₂ o₃ : List ℕ}
    → o₁ ≡ sets o at (le_bytes 8 sum) → o₂ ≡ sets o₁ (at + 8) (le_bytes 4 len) → o₃ ≡ sets o₂ (at + 12) (le_bytes 8 0x0000_4547_4445_4754) → Put o o₃ at (at + 20) (trailer (part o body at))
written o body at sum len h g s l {o₁} a b c =
    let n : len ≡ length (part o body at) + 20 = l ∙ ap (λ (t : ℕ). t + 20) (sym (length_part o body at g)) in
    tail_parts o at (part o body at) (a ∙ ap (λ (t : ℕ). sets o at (le_bytes 8 t)) s) (b ∙ ap (λ (t : ℕ). sets o₁ (at + 8) (le_bytes 4 t)) n) c

pub returns : goal.returns
returns c = let a = c.args in written a.out.now a.body a.at _ _ c.requires.0 (omega (arith, c.requires.1)) c.xxh3-sum.ensures refl c.put_le.ensures c.put_le-2.ensures c.put_le-3.ensures
