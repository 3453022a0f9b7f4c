use mathlib.Core.Path.{◌≡◌, sym, ap, ap₂, ◌∙◌}
use Prim.Native.Nat.{ℕ, ◌+◌, ◌*◌}
use native.Mathlib.Omega.{arith}
use mathlib.Core.List.{List}
use lib.ListN.{length}
use lib.Seq.{sets}
use Rattle.base.specs.Over.{sets_append}
use Rattle.base.specs.Put.{Put}
use Rattle.codes.specs.declared.ids.Id.{Id}
use Rattle.codes.specs.Little.{le_bytes}
use Rattle.codes.specs.Ids.{id_bytes}
use Rattle.codes.specs.Ids.Laws.{length_id_bytes}
use Rattle.write_image.specs.Image.{fence_bytes}
use Rattle.write_image.specs.Image.Laws.{fence_is, length_fence}
use Rattle.write_sections.proofs.fences.put_fence.Goals as goal

both : (o : List ℕ) (at : ℕ) (key : Id) (i : ℕ) {o₁ o₂ : List ℕ} → o₁ ≡ sets o at (id_bytes key) → o₂ ≡ sets o₁ (at + 16) (le_bytes 8 (16 * (i * 256))) → Put o o₂ at (at + 24) (fence_bytes key i)
both o at key i e f =
    let l = length_id_bytes key in
    let place : at + 16 ≡ at + length (id_bytes key) = omega arith in
    record {
      place = ap (λ (t : ℕ). at + t) (sym (length_fence key i));
      bytes =
          f
          ∙ ap₂ (λ (t : List ℕ) (m : ℕ). sets t m (le_bytes 8 (16 * (i * 256)))) e place
          ∙ sym (sets_append (id_bytes key) (le_bytes 8 (16 * (i * 256))) o at)
          ∙ ap (sets o at) (sym (fence_is key i));
    }

pub returns : goal.returns
returns c = let a = c.args in both a.out.now a.at a.key a.i c.put_id.ensures c.put_le.ensures
