use mathlib.Core.Path.{sym, ap₂, ◌∙◌}
use Prim.Native.Nat.{ℕ, ◌+◌}
use native.Mathlib.Omega.{arith}
use mathlib.Core.List.{List, [], ◌∷◌, ◌++◌}
use lib.ListN.{set, length-append}
use lib.Seq.{length-sets}
use Rattle.base.specs.Over.{sets_append}
use Rattle.base.specs.Put.{Put}
use Rattle.write_group.proofs.put_head.Goals as goal

both : (o o₁ : List ℕ) (at mid : ℕ) (xs : List ℕ) (y : ℕ) → Put o o₁ at mid xs → Put o (set o₁ mid y) at (mid + 1) (xs ++ (y ∷ []))
both o o₁ at mid xs y p =
    record {
      place = omega (arith, p.place, length-append xs (y ∷ []));
      bytes = ap₂ (λ (t : List ℕ) (m : ℕ). set t m y) p.bytes p.place ∙ sym (sets_append xs (y ∷ []) o at);
    }

pub bounds-out-mid : goal.bounds-out-mid
bounds-out-mid c = let e = c.put_varint-mid.ensures in rw (e.bytes, length-sets) (omega (arith, e.place))

pub overflow_add-result : goal.overflow_add-result
overflow_add-result c = let e = c.put_varint-mid.ensures in omega (arith, e.place)

pub returns : goal.returns
returns c = both _ _ _ _ _ _ c.put_varint-mid.ensures
