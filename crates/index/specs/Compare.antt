-- Comparing: two numbers, and two ids that were read.
use Rattle.std.specs.Prelude.{◌≡◌, ℕ, ◌<◌, List, Bool, eqb}
use Rattle.std.proofs.Common.{sym, ap, ap₂, ◌∙◌, arith}
use Rattle.std.proofs.Math.Decide.{dec_lt}
use Rattle.std.specs.declared.cmp.Ordering.{Ordering}
use Rattle.codes.specs.declared.ids.Id.{Id}
use Rattle.codes.specs.Ids.{id_at, id_number, halves_at, order}
use Rattle.codes.specs.Ids.Laws.{number_halves}

-- a number is below another, equal to it or above it
pub tri {ℓ} : {X : Type ℓ} (m n : ℕ) → (m < n → X) → (m ≡ n → X) → (n < m → X) → X
tri m n f g h = elim (dec_lt m n) [ yes a ↦ f a | no a ↦ elim (dec_lt n m) [ yes b ↦ h b | no b ↦ g (omega arith) ] ]

-- ---- ids as numbers: what was read, compared

pub number_is : (s : List ℕ) (i : ℕ) {d : Id} → d ≡ halves_at s i → id_number d ≡ id_at s i
number_is s i e = ap id_number e ∙ number_halves s i

module _ (s : List ℕ) (i : ℕ) {d : Id} (e : d ≡ halves_at s i) where
  pub order_read : (k : ℕ) {o : Ordering} (p : Ordering) → o ≡ order (id_number d) k → o ≡ p → order (id_at s i) k ≡ p
  order_read k p g q = sym (ap (λ (t : ℕ). order t k) (number_is s i e)) ∙ sym g ∙ q

  module _ (t : List ℕ) (j : ℕ) {f : Id} (h : f ≡ halves_at t j) {b c : Bool} where
    pub eqb_read : b ≡ eqb (id_number d) (id_number f) → b ≡ c → eqb (id_at s i) (id_at t j) ≡ c
    eqb_read g q = sym (ap₂ eqb (number_is s i e) (number_is t j h)) ∙ sym g ∙ q
