use mathlib.Core.Path.{◌≡◌, sym, ap, ap₂, ◌∙◌}
use Prim.Native.Nat.{ℕ, ◌+◌}
use native.Mathlib.Omega.{arith}
use mathlib.Core.List.{List, ◌++◌}
use lib.ListN.{length, length-append}
use lib.Seq.{sets, length-sets}
use Rattle.base.specs.Over.{sets_append}
use Rattle.base.specs.Put.{Put}
use Rattle.codes.specs.Little.{le_bytes}
use Rattle.codes.specs.Little.Laws.{length_le_bytes}
use Rattle.write_group.proofs.put_partner.Goals as goal

module _ (o o₁ : List ℕ) (at mid : ℕ) (xs : List ℕ) (lo : ℕ) (p : Put o o₁ at mid xs) where
  same : length o₁ ≡ length o
  same = ap length p.bytes ∙ length-sets o at xs

  both : {o₂ : List ℕ} → o₂ ≡ sets o₁ mid (le_bytes 8 lo) → Put o o₂ at (mid + 8) (xs ++ le_bytes 8 lo)
  both e =
      record {
        place = omega (arith, p.place, length-append xs (le_bytes 8 lo), length_le_bytes 8 lo);
        bytes = e ∙ ap₂ (λ (t : List ℕ) (m : ℕ). sets t m (le_bytes 8 lo)) p.bytes p.place ∙ sym (sets_append xs (le_bytes 8 lo) o at);
      }

pub put_le-requires : goal.put_le-requires
put_le-requires c = let p = c.put_varint-mid.ensures in omega (arith, p.place, same _ _ _ _ _ 0 p)

pub overflow_add-result : goal.overflow_add-result
overflow_add-result c = let p = c.put_varint-mid.ensures in omega (arith, p.place)

pub returns : goal.returns
returns c = both _ _ _ _ _ _ c.put_varint-mid.ensures c.put_le.ensures
