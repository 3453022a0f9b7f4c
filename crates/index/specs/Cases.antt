-- Rules 13 to 15 and 37 by their cases, as the loops meet them.
use Rattle.std.proofs.lemmas.Nat.{div-mul-add}
use Rattle.std.specs.Prelude.{◌≡◌, List, Bool, true, false, min, ◌&&◌, length, ltb, eqb, Result, Ok, Err}
use Rattle.std.proofs.Common.{sym, ap, ◌∙◌, div-add-mod'}
use Prim.Native.Nat.{ℕ, suc, ◌+◌, ◌-◌, ◌*◌, ◌/◌, ◌%◌, ◌≤◌, ◌<◌}
use native.Mathlib.Omega.{arith}
use Rattle.std.proofs.Math.Decide.{dec_lt}
use borrow.Author.Tests.{lt-ltb, le-ltb, lt-leb, le-leb, eq-eqb, ne_eqb}
use Rattle.base.specs.Pick.{pick}
use Rattle.codes.specs.Little.{le_at}
use Rattle.refusal.specs.declared.Refusal.{Refusal}
use Rattle.refusal.specs.Check.{Check}
use Rattle.frame.specs.Open.{key_at, keys_from, offset_at, offset_good, rising_from, fence_good, fences_from, fences_good, stride_of, fences_told}

-- ---- rule 13: of n keys, k is the next

module _ (s : List ℕ) (n k : ℕ) (lt : k < n) where
  pub keys_bad : ltb (key_at s (k - 1)) (key_at s k) ≡ false → keys_from (n - k) s k ≡ Err (Refusal.Key k)
  unfolding keys_from
  keys_bad e = let d : n - k ≡ suc (n - (k + 1)) = omega arith in rw (d, e)

  pub keys_on : ltb (key_at s (k - 1)) (key_at s k) ≡ true → keys_from (n - k) s k ≡ keys_from (n - (k + 1)) s (k + 1)
  unfolding keys_from
  keys_on e = let d : n - k ≡ suc (n - (k + 1)) = omega arith in rw (d, e)

pub keys_none : (s : List ℕ) (n k : ℕ) → n ≤ k → keys_from (n - k) s k ≡ (Ok tt)
unfolding keys_from
keys_none s n k h = let d : n - k ≡ 0 = omega arith in rw d

-- ---- rules 14 and 37: offset i is the last that was read

-- the first, where its place is not counted
pub first_at : (o : List ℕ) (w : ℕ) → le_at o 0 w ≡ offset_at o w 0
first_at o w = let e : 0 ≡ 0 * w = omega arith in ap (λ (t : ℕ). le_at o t w) e

-- the first is 0, another is above the one before
abbrev pub rising_keys : List ℕ → ℕ → ℕ → Bool
rising_keys o w i = pick (eqb i 0) (eqb (offset_at o w i) 0) (ltb (offset_at o w (i - 1)) (offset_at o w i))

pub first_rises : (o : List ℕ) (w : ℕ) → offset_at o w 0 ≡ 0 → rising_keys o w 0 ≡ true
first_rises o w e = simp (eq-eqb (offset_at o w 0) 0 e)

pub next_rises : (o : List ℕ) (w i : ℕ) → offset_at o w i < offset_at o w (i + 1) → rising_keys o w (i + 1) ≡ true
next_rises o w i h =
    let e : i + 1 - 1 ≡ i = omega arith in
    rw e (simp (ne_eqb (i + 1) 0 (λ q. omega arith), lt-ltb (offset_at o w i) (offset_at o w (i + 1)) h))

-- the refusal of the first that is not good
abbrev pub told_by : (ℕ → Refusal) → Result Unit ℕ → Check
told_by told (Ok _) = Ok tt
told_by told (Err i) = Err (told i)

module _ (told : ℕ → Refusal) (o : List ℕ) (w n len : ℕ) where
  pub rising_first : (offset_at o w 0 ≡ 0 → ⊥) → rising_from told (n + 1) o w n len 0 ≡ Err (told 0)
  unfolding rising_from offset_good
  rising_first ne = let d : n + 1 ≡ suc n = omega arith in rw d (simp (ne_eqb (offset_at o w 0) 0 ne))

  -- offset i stands before the last and rises, so that the next one decides
  module _ (i : ℕ) (lt : i < n) (up : rising_keys o w i ≡ true) where
    pub rising_on : rising_from told (n + 1 - i) o w n len i ≡ rising_from told (n + 1 - (i + 1)) o w n len (i + 1)
    unfolding rising_from offset_good
    rising_on =
        let d : n + 1 - i ≡ suc (n + 1 - (i + 1)) = omega arith in
        rw (d, up) (simp (ne_eqb i n (λ q. omega arith)))

    pub rising_bad : offset_at o w (i + 1) ≤ offset_at o w i → rising_from told (n + 1 - i) o w n len i ≡ Err (told (i + 1))
    unfolding rising_from offset_good
    rising_bad h =
        let d : n + 1 - (i + 1) ≡ suc (n - (i + 1)) = omega arith in
        let e : i + 1 - 1 ≡ i = omega arith in
        rising_on ∙ rw (d, e) (simp (ne_eqb (i + 1) 0 (λ q. omega arith), le-ltb (offset_at o w i) (offset_at o w (i + 1)) h))

  -- the last one rises: its value decides
  module _ (i : ℕ) (eq : i ≡ n) (up : rising_keys o w i ≡ true) where
    pub rising_end : (b : Bool) → eqb (offset_at o w i) len ≡ b → rising_from told (n + 1 - i) o w n len i ≡ pick b (Ok tt) (Err (told n))
    unfolding rising_from offset_good
    rising_end b e =
        let d : n + 1 - i ≡ suc 0 = omega arith in
        rw (d, up, e, eq-eqb i n eq, eq)

-- ---- rule 15: of m fences, i is the next

module _ (x keys : List ℕ) (stride m i : ℕ) (lt : i < m) where
  pub fences_bad : fence_good x keys stride i ≡ false → fences_from (m - i) x keys stride i ≡ false
  unfolding fences_from
  fences_bad e = let d : m - i ≡ suc (m - (i + 1)) = omega arith in rw (d, e)

  pub fences_on : fence_good x keys stride i ≡ true → fences_from (m - i) x keys stride i ≡ fences_from (m - (i + 1)) x keys stride (i + 1)
  unfolding fences_from
  fences_on e = let d : m - i ≡ suc (m - (i + 1)) = omega arith in rw (d, e)

pub fences_none : (x keys : List ℕ) (stride m i : ℕ) → m ≤ i → fences_from (m - i) x keys stride i ≡ true
unfolding fences_from
fences_none x keys stride m i h = let d : m - i ≡ 0 = omega arith in rw d

-- the tests before the walk, in their order: s is the stride, k the count
module _ (x keys : List ℕ) (n : ℕ) where
  module _ (long : 8 ≤ length x) (s : ℕ) (es : s ≡ stride_of x) where
    pub fences_stride : s < 1 → fences_good x keys n ≡ false
    unfolding fences_good
    fences_stride h = rw (← es) (simp (le-leb 8 (length x) long, lt-leb 1 s h))

    module _ (some : 1 ≤ s) (k : ℕ) (ek : k ≡ fences_told x) where
      fences_are : fences_good x keys n ≡ (eqb k ((n + (s - 1)) / s) && (eqb (length x) (8 + 24 * k) && fences_from k x keys s 0))
      unfolding fences_good
      fences_are = rw (← es, ← ek) (simp (le-leb 8 (length x) long, le-leb 1 s some))

      pub fences_count : (k ≡ (n + (s - 1)) / s → ⊥) → fences_good x keys n ≡ false
      fences_count ne = fences_are ∙ simp (ne_eqb k ((n + (s - 1)) / s) ne)

      module _ (up : k ≡ (n + (s - 1)) / s) where
        pub fences_length : (length x ≡ 8 + 24 * k → ⊥) → fences_good x keys n ≡ false
        fences_length ne = fences_are ∙ simp (eq-eqb k ((n + (s - 1)) / s) up, ne_eqb (length x) (8 + 24 * k) ne)

        pub fences_walked : length x ≡ 8 + 24 * k → {r : Bool} → r ≡ fences_from k x keys s 0 → r ≡ fences_good x keys n
        fences_walked eq e = e ∙ sym (fences_are ∙ simp (eq-eqb k ((n + (s - 1)) / s) up, eq-eqb (length x) (8 + 24 * k) eq))

-- a quotient rounded up, by the remainder
pub rounded : (n s : ℕ) → 1 ≤ s → n / s + min 1 (n % s) ≡ (n + (s - 1)) / s
rounded n s h =
    let e : n / s * s + n % s ≡ n = div-add-mod' n s in
    elim (dec_lt 0 (n % s)) [
      | yes p ↦
          let d : n + (s - 1) ≡ (n / s + 1) * s + (n % s - 1) = omega arith in
          rw d (omega (arith, div-mul-add (n / s + 1) s (n % s - 1) (omega arith)))
      | no p ↦
          let d : n + (s - 1) ≡ n / s * s + (s - 1) = omega arith in
          rw d (omega (arith, div-mul-add (n / s) s (s - 1) (omega arith)))
    ]
