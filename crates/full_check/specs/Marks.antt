-- Dead marks, one by one and eight at a time.
use Rattle.std.specs.Prelude.{◌≡◌, refl, List, Bool, true, false, ◌||◌, get_or, eqb}
use Rattle.std.proofs.Math.Path.{sym, ap}
use Rattle.std.proofs.Common.{ap₂, ◌∙◌, add-zero, zero-add, pow-suc, div-one, eq-eqb, ne_eqb}
use Prim.Native.Nat.{ℕ, zero, suc, ◌+◌, ◌-◌, ◌*◌, ◌/◌, ◌%◌, ◌^◌, ◌≤◌, ◌<◌}
use Rattle.std.proofs.Math.Nat.{div-div-eq-div-mul}
use Rattle.std.proofs.Math.Decide.{ℕ_discrete}
use native.Mathlib.Omega.{arith}
use Rattle.std.proofs.Math.Arith.{mod-mul}
use Rattle.lookup.specs.Lookup.{mark_at}
use Rattle.full_check.specs.Full.{dead_from}

-- ---- bits of a number

-- one of the t low bits of x is set
unfoldable pub any_bit : ℕ → ℕ → Bool
any_bit zero x = false
any_bit (suc t) x = eqb (x % 2) 1 || any_bit t (x / 2)

two_pos : (t : ℕ) → 0 < 2 ^ t
two_pos zero = omega arith
two_pos (suc t) = let h = two_pos t in rw (pow-suc 2 t) (omega arith)

-- the low bits of x by those of its half
halved : (t x : ℕ) → x % 2 ^ suc t ≡ (x / 2 % 2 ^ t) * 2 + x % 2
halved t x = ap (λ (m : ℕ). x % m) (pow-suc 2 t) ∙ mod-mul x {m = 2 ^ t} {c = 2} (two_pos t) (omega arith)

bits_none : (t x : ℕ) → x % 2 ^ t ≡ 0 → any_bit t x ≡ false
unfolding any_bit
bits_none zero x e = refl
bits_none (suc t) x e =
    let h = halved t x in
    rw (ne_eqb (x % 2) 1 (λ q. omega arith)) (bits_none t (x / 2) (omega arith))

bits_some : (t x : ℕ) → (x % 2 ^ t ≡ 0 → ⊥) → any_bit t x ≡ true
unfolding any_bit
bits_some zero x n = absurd (n (omega arith))
bits_some (suc t) x n =
    let h = halved t x in
    elim (ℕ_discrete (x % 2) 1) [
      | yes q ↦ rw (eq-eqb (x % 2) 1 q)
      | no q ↦ rw (ne_eqb (x % 2) 1 q) (bits_some t (x / 2) (λ z. n (omega arith)))
    ]

-- ---- marks

-- t marks from bit j of byte b on
byte_marks : (t : ℕ) (s : List ℕ) (b j : ℕ) → j + t ≤ 8 → dead_from t s (8 * b + j) ≡ any_bit t (get_or s b 0 / 2 ^ j)
unfolding dead_from any_bit
byte_marks zero s b j h = refl
byte_marks (suc t) s b j h =
    let byte : (8 * b + j) / 8 ≡ b = omega arith in
    let bit : (8 * b + j) % 8 ≡ j = omega arith in
    let mark : mark_at s (8 * b + j) ≡ get_or s b 0 / 2 ^ j % 2 = ap₂ (λ (x y : ℕ). get_or s x 0 / 2 ^ y % 2) byte bit in
    let next : 8 * b + j + 1 ≡ 8 * b + suc j = omega arith in
    let half : get_or s b 0 / 2 ^ suc j ≡ get_or s b 0 / 2 ^ j / 2 = ap (λ (m : ℕ). get_or s b 0 / m) (pow-suc 2 j) ∙ sym (div-div-eq-div-mul (get_or s b 0) (2 ^ j) 2) in
    ap₂ (λ (x : ℕ) (y : Bool). eqb x 1 || y) mark
    (ap (dead_from t s) next ∙ byte_marks t s b (suc j) (omega arith) ∙ ap (any_bit t) half)

-- the eight marks of byte b
eight : (s : List ℕ) (b : ℕ) → dead_from 8 s (8 * b) ≡ any_bit 8 (get_or s b 0)
eight s b = ap (dead_from 8 s) (sym (add-zero (8 * b))) ∙ byte_marks 8 s b 0 (omega arith) ∙ ap (any_bit 8) (div-one (get_or s b 0))

pub dead_append : (a b : ℕ) (s : List ℕ) (e : ℕ) → dead_from (a + b) s e ≡ (dead_from a s e || dead_from b s (e + a))
unfolding dead_from
dead_append zero b s e = ap₂ (λ (x y : ℕ). dead_from x s y) (zero-add b) (sym (add-zero e))
dead_append (suc a) b s e =
    let n : suc a + b ≡ suc (a + b) = omega arith in
    let m : e + 1 + a ≡ e + suc a = omega arith in
    ap (λ (t : ℕ). dead_from t s e) n
    ∙ ap (λ (t : Bool). eqb (mark_at s e) 1 || t) (dead_append a b s (e + 1) ∙ ap (λ (t : ℕ). dead_from a s (e + 1) || dead_from b s t) m)
    ∙ or_assoc (eqb (mark_at s e) 1) (dead_from a s (e + 1)) (dead_from b s (e + suc a))
  where
    or_assoc : (x y z : Bool) → (x || (y || z)) ≡ ((x || y) || z)
    or_assoc true y z = refl
    or_assoc false y z = refl

-- ---- mark by mark: j of d are passed

module _ (s : List ℕ) (e d j : ℕ) (h : dead_from (d - j) s (e + j) ≡ dead_from d s e) where
  pub marks_some : j < d → {x : ℕ} → x ≡ mark_at s (e + j) → x ≡ 1 → true ≡ dead_from d s e
  unfolding dead_from
  marks_some l q n =
      let k : d - j ≡ suc (d - (j + 1)) = omega arith in
      sym (rw (eq-eqb (mark_at s (e + j)) 1 (sym q ∙ n))) ∙ ap (λ (t : ℕ). dead_from t s (e + j)) (sym k) ∙ h

  pub marks_on : j < d → {x : ℕ} → x ≡ mark_at s (e + j) → (x ≡ 1 → ⊥) → dead_from (d - (j + 1)) s (e + (j + 1)) ≡ dead_from d s e
  unfolding dead_from
  marks_on l q n =
      let k : d - j ≡ suc (d - (j + 1)) = omega arith in
      let m : e + (j + 1) ≡ e + j + 1 = omega arith in
      ap (dead_from (d - (j + 1)) s) m
      ∙ sym (rw (ne_eqb (mark_at s (e + j)) 1 (λ z. n (q ∙ z)))) ∙ ap (λ (t : ℕ). dead_from t s (e + j)) (sym k) ∙ h

  pub marks_end : d ≤ j → false ≡ dead_from d s e
  unfolding dead_from
  marks_end l = let k : d - j ≡ 0 = omega arith in ap (λ (t : ℕ). dead_from t s (e + j)) (sym k) ∙ h

-- ---- eight at a time: b of m bytes are passed

module _ (s : List ℕ) (m b : ℕ) (h : dead_from (8 * (m - b)) s (8 * b) ≡ dead_from (8 * m) s 0) (l : b < m) where
  byte_first : dead_from (8 * m) s 0 ≡ (any_bit 8 (get_or s b 0) || dead_from (8 * (m - (b + 1))) s (8 * (b + 1)))
  byte_first =
      let k : 8 * (m - b) ≡ 8 + 8 * (m - (b + 1)) = omega arith in
      let n : 8 * b + 8 ≡ 8 * (b + 1) = omega arith in
      sym h ∙ ap (λ (t : ℕ). dead_from t s (8 * b)) k ∙ dead_append 8 (8 * (m - (b + 1))) s (8 * b)
      ∙ ap₂ (λ (x : Bool) (y : ℕ). x || dead_from (8 * (m - (b + 1))) s y) (eight s b) n

  module _ {x : ℕ} (q : x ≡ get_or s b 0) where
    pub bytes_some : x < 2 ^ 8 → (x ≡ 0 → ⊥) → true ≡ dead_from (8 * m) s 0
    bytes_some f n = sym (byte_first ∙ rw (← q, bits_some 8 x (λ z. n (omega arith))))

    pub bytes_on : x ≡ 0 → dead_from (8 * (m - (b + 1))) s (8 * (b + 1)) ≡ dead_from (8 * m) s 0
    bytes_on n = sym (byte_first ∙ rw (← q, bits_none 8 x (omega arith)))

pub bytes_end : (s : List ℕ) (m b : ℕ) → dead_from (8 * (m - b)) s (8 * b) ≡ dead_from (8 * m) s 0 → m ≤ b → false ≡ dead_from (8 * m) s 0
unfolding dead_from
bytes_end s m b h l = let k : 8 * (m - b) ≡ 0 = omega arith in ap (λ (t : ℕ). dead_from t s (8 * b)) (sym k) ∙ h

-- ---- whole bytes, then what is left

module _ (s : List ℕ) (n : ℕ) {x : Bool} (e : x ≡ dead_from (8 * (n / 8)) s 0) where
  parts : dead_from n s 0 ≡ (x || dead_from (n % 8) s (n / 8 * 8))
  parts =
      let k : n ≡ 8 * (n / 8) + n % 8 = omega arith in
      let m : 0 + 8 * (n / 8) ≡ n / 8 * 8 = omega arith in
      ap (λ (t : ℕ). dead_from t s 0) k ∙ dead_append (8 * (n / 8)) (n % 8) s 0
      ∙ ap₂ (λ (u : Bool) (v : ℕ). u || dead_from (n % 8) s v) (sym e) m

  pub parts_some : x ≡ true → true ≡ dead_from n s 0
  parts_some q = sym (parts ∙ rw q)

  pub parts_rest : x ≡ false → {y : Bool} → y ≡ dead_from (n % 8) s (n / 8 * 8) → y ≡ dead_from n s 0
  parts_rest q r = r ∙ sym (parts ∙ rw q)
