-- Laws of text: runs put one after the other, the digits that `io` makes, and how long a text may be.
use Rattle.std.specs.Prelude.{◌≡◌, refl, ℕ, zero, suc, ◌+◌, ◌-◌, ◌/◌, ◌%◌, ◌^◌, ◌≤◌, ◌<◌, Bool, true, false, List, [], ◌∷◌, ◌++◌, length, take, drop, ltb}
use Rattle.std.proofs.Common.{sym, ap, ap₂, subst, ◌∙◌, arith, pow-suc, div-lt_iff_lt-mul, le-div_iff_mul-le, mod-eq_of_lt, zero-lt-suc, append_assoc, append-nil, length-append, length-drop, drop_of_length-le, take_all, drop-drop, lt-ltb, le-ltb}
use Rattle.std.proofs.Math.Decide.{dec_lt}
use Rattle.std.proofs.Math.Nat.{pow-le-pow_right}
use Rattle.std.proofs.lemmas.List.Edits.{sets, sets-eq}
use Rattle.std.proofs.Math.Seq.{length-sets, take-length}
use Rattle.io.specs.Digits.{hex_digit_ascii, last_digits, IsDigitCount}
use Rattle.base.specs.Pick.{pick}
use Rattle.base.specs.Over.{sets_append, part_sets}
use Rattle.base.specs.Put.{Put}
use Rattle.refusal.specs.declared.Refusal.{Refusal}
use Rattle.refusal.specs.Refusal.{number_of, place_of}
use Rattle.text.specs.Text.{decimal_in, decimal, hex, refused_text}

-- the same run by another name
pub is : {o out : List ℕ} {at r : ℕ} {xs ys : List ℕ} → xs ≡ ys → Put o out at r xs → Put o out at r ys
is {o} {out} {at} {r} e p = subst (λ (t : List ℕ). Put o out at r t) e p

-- a run changes no length
pub put_length : {o out : List ℕ} {at r : ℕ} {xs : List ℕ} → Put o out at r xs → length out ≡ length o
put_length {o} {at = at} {xs = xs} p = ap length p.bytes ∙ length-sets o at xs

pub put_none : (o : List ℕ) (at : ℕ) → Put o o at at []
put_none o at = record { place = omega arith; bytes = refl }

-- one run after another is the run of both
pub both : {o o₁ o₂ : List ℕ} {at mid r : ℕ} {xs ys : List ℕ} → Put o o₁ at mid xs → Put o₁ o₂ mid r ys → Put o o₂ at r (xs ++ ys)
both {o} {at = at} {xs = xs} {ys = ys} p q =
    record {
      place = omega (arith, p.place, q.place, length-append xs ys);
      bytes = q.bytes ∙ ap₂ (λ (t : List ℕ) (m : ℕ). sets t m ys) p.bytes p.place ∙ sym (sets_append xs ys o at);
    }

-- a run that was put at the front is there
pub put_front : {o out : List ℕ} {r : ℕ} {xs : List ℕ} → Put o out 0 r xs → r ≤ length out → take r out ≡ xs
put_front {o} {out} {r} {xs} p h =
    let e = p.place in
    let s = put_length p in
    let here : r ≡ 0 + length xs - 0 = omega arith in
    ap₂ take here p.bytes ∙ part_sets xs o 0 (omega arith)

-- room for two runs is room for the first, and after it for the second
pub first : (xs ys o : List ℕ) (at : ℕ) → at + length (xs ++ ys) ≤ length o → at + length xs ≤ length o
first xs ys o at h = omega (arith, length-append xs ys)

pub next : {xs o o₁ : List ℕ} {at mid : ℕ} (ys : List ℕ) → Put o o₁ at mid xs → at + length (xs ++ ys) ≤ length o → mid + length ys ≤ length o₁
next {xs} ys p h = omega (arith, length-append xs ys, p.place, put_length p)

-- ys, a copy of w over the part of o from `at` on, brought back
pub copied : (o w ys : List ℕ) (at : ℕ) → at + length w ≤ length o
    → ys ≡ take (length w) w ++ drop (length w) (take (length o - at) (drop at o))
    → take at o ++ (ys ++ drop (length o - at) (drop at o)) ≡ sets o at w
copied o w ys at h e =
    let rest : List ℕ = drop (at + length w) o in
    let whole : take (length o - at) (drop at o) ≡ drop at o = take_all (length o - at) (drop at o) (simp length-drop (omega arith)) in
    let none : drop (length o - at) (drop at o) ≡ [] = drop_of_length-le (drop at o) {i = length o - at} (simp length-drop (omega arith)) in
    let both : ys ≡ w ++ rest = e ∙ ap₂ (λ (x y : List ℕ). x ++ y) (take-length w) (ap (drop (length w)) whole ∙ drop-drop (length w) at o) in
    ap₂ (λ (x y : List ℕ). take at o ++ (x ++ y)) both none
    ∙ ap (λ (x : List ℕ). take at o ++ x) (append-nil (w ++ rest))
    ∙ sym (append_assoc (take at o) w rest)
    ∙ sym (sets-eq w o at h)

-- ---- numbers

-- the fewest digits that hold a number are its decimal text
pub digits_decimal : (k most n : ℕ) → suc k ≤ most → n < 10 ^ suc k → (0 < k → 10 ^ k ≤ n) → last_digits 10 (suc k) n ≡ decimal_in most n
unfolding decimal_in
digits_decimal zero zero n f h l = absurd (omega arith)
digits_decimal (suc k) zero n f h l = absurd (omega arith)
digits_decimal zero (suc most) n f h l = simp (lt-ltb n 10 h, mod-eq_of_lt {n = n} {m = 10} h)
digits_decimal (suc k) (suc most) n f h l =
    let ten : 10 ^ 1 ≤ 10 ^ suc k = pow-le-pow_right (zero-lt-suc 9) {i = 1} {j = suc k} (omega arith) in
    let high : 10 ^ suc k ≤ n = l (omega arith) in
    let below : n / 10 < 10 ^ suc k = (div-lt_iff_lt-mul (zero-lt-suc 9)).1 (rw pow-suc at h) in
    let least : 0 < k → 10 ^ k ≤ n / 10 = λ p. (le-div_iff_mul-le (zero-lt-suc 9)).1 (rw pow-suc at high) in
    rw (le-ltb n 10 (omega arith)) (ap (λ (t : List ℕ). t ++ (hex_digit_ascii (n % 10) ∷ [])) (digits_decimal k most (n / 10) (omega arith) below least))

-- a number below b ^ most takes at most so many digits
fewest_most : (b least n r most : ℕ) → 0 < b → least ≤ most → n < b ^ most → IsDigitCount b least n r → r ≤ most
fewest_most b least n r most z l h f =
    elim (dec_lt most r) [
      | no g ↦ omega arith
      | yes g ↦ let p : b ^ most ≤ b ^ (r - 1) = pow-le-pow_right z {i = most} {j = r - 1} (omega arith) in
          let q : b ^ (r - 1) ≤ n = f.2 (omega arith) in
          absurd (omega arith)
    ]

-- what `io::decimal` puts at the front of an array is that text
pub decimal_digits : (n r : ℕ) (t : List ℕ) → n < 2 ^ 64 → IsDigitCount 10 1 n r → take r t ≡ last_digits 10 r n → take r t ≡ decimal n
decimal_digits n zero t h f e = let p = f.0 in absurd (omega arith)
decimal_digits n (suc k) t h f e =
    let few : suc k ≤ 20 = fewest_most 10 1 n (suc k) 20 (zero-lt-suc 9) (omega arith) (omega arith) f in
    let down : suc k - 1 ≡ k = omega arith in
    let least : 0 < k → 10 ^ k ≤ n = λ p. (rw down at (f.2 (omega arith))) in
    e ∙ digits_decimal k 20 n few f.1 least

-- and what `io::hex` puts there at a width of 16
pub hex_digits : (n r : ℕ) (t : List ℕ) → n < 2 ^ 64 → IsDigitCount 16 16 n r → take r t ≡ last_digits 16 r n → take r t ≡ hex n
unfolding hex
hex_digits n r t h f e =
    let few : r ≤ 16 = fewest_most 16 16 n r 16 (zero-lt-suc 15) (omega arith) (omega arith) f in
    let all : r ≡ 16 = let p = f.0 in omega arith in
    e ∙ ap (λ (k : ℕ). last_digits 16 k n) all

pub length_digits : (b k n : ℕ) → length (last_digits b k n) ≡ k
length_digits b zero n = refl
length_digits b (suc k) n =
    let e = length_digits b k (n / b) in
    length-append (last_digits b k (n / b)) (hex_digit_ascii (n % b) ∷ []) ∙ omega arith

pub length_hex : (n : ℕ) → length (hex n) ≡ 16
unfolding hex
length_hex n = length_digits 16 16 n

pub length_decimal : (most n : ℕ) → length (decimal_in most n) ≤ most
unfolding decimal_in
length_decimal zero n = omega arith
length_decimal (suc most) n = go (ltb n 10) (length_decimal most (n / 10))
  where
    go : (b : Bool) → length (decimal_in most (n / 10)) ≤ most
        → length (pick b (hex_digit_ascii n ∷ []) (decimal_in most (n / 10) ++ (hex_digit_ascii (n % 10) ∷ []))) ≤ suc most
    go true e = omega arith
    go false e = rw length-append (omega arith)

pub length_refused : (r : Refusal) → length (refused_text r) ≤ 52
unfolding refused_text
length_refused r =
    let a = length_decimal 20 (number_of r) in
    let b = length_decimal 20 (place_of r) in
    simp length-append (omega arith)
