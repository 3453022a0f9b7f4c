-- The laws of varint_at and var_bytes.
use Rattle.std.specs.Prelude.{◌≡◌, ℕ, zero, suc, ◌+◌, ◌-◌, ◌*◌, ◌/◌, ◌%◌, ◌^◌, ◌≤◌, ◌<◌, List, [], ◌∷◌, ◌++◌, length, get_or, take, drop, Ok, Err}
use Rattle.std.proofs.Math.Path.{refl}
use Rattle.std.proofs.Common.{sym, ap, ap₂, ◌∙◌, pow-suc, div-add-mod', div-lt_iff_lt-mul, zero-lt-suc, mul_assoc, mul_comm, not-le_of_lt, add-mul, zero-mul, add-one, arith, length-append, length-drop, lit<, drop-cons, take_at}
use Rattle.std.proofs.Math.Nat.{pow-le-pow_right}
use Rattle.std.proofs.Math.Decide.{dec_le, dec_lt, ℕ_discrete}
use Rattle.std.proofs.Math.Arith.{digits_lt}
use Rattle.std.proofs.Math.Seq.{get_or-append_seam, append_snoc}
use borrow.Author.Tests.{lt-ltb, le-ltb, eq-eqb, ne_eqb}
use Rattle.codes.specs.declared.varint.Unread.{Unread}
use Rattle.codes.specs.declared.varint.Unread.TheVariants.{Cut, Long, Large}
use Rattle.base.specs.Over.{part}
use Rattle.base.specs.Bytes.{Bytes}
use Rattle.codes.specs.Varint.{Varint, last_byte, var_from, varint_at, bytes_from, var_bytes}

-- ---- the definition of reading, case by case

pub varint_from : (s : List ℕ) (i : ℕ) → varint_at s i ≡ var_from 10 s i 0 1
unfolding varint_at
varint_from s i = refl

module _ (b i x m : ℕ) where
  pub last_long : b ≡ 0 → 1 < m → last_byte b i x m ≡ Err Long
  unfolding last_byte
  last_long e g = simp (eq-eqb b 0 e, lt-ltb 1 m g)

  pub last_zero : b ≡ 0 → m ≤ 1 → last_byte b i x m ≡ Ok (x, i + 1)
  unfolding last_byte
  last_zero e g = simp (eq-eqb b 0 e, le-ltb 1 m g)

  module _ (ne : b ≡ 0 → ⊥) where
    pub last_value : x + b * m < 2 ^ 64 → last_byte b i x m ≡ Ok (x + b * m, i + 1)
    unfolding last_byte
    last_value h = simp (ne_eqb b 0 ne, lt-ltb (x + b * m) (2 ^ 64) h)

    pub last_large : 2 ^ 64 ≤ x + b * m → last_byte b i x m ≡ Err Large
    unfolding last_byte
    last_large h = simp (ne_eqb b 0 ne, le-ltb (x + b * m) (2 ^ 64) h)

module _ (s : List ℕ) (i x m : ℕ) where
  pub from_none : var_from 0 s i x m ≡ Err Large
  unfolding var_from
  from_none = refl

  pub from_cut : (f : ℕ) → length s ≤ i → var_from (suc f) s i x m ≡ Err Cut
  unfolding var_from
  from_cut f h = rw (le-ltb i (length s) h)

  module _ (f : ℕ) (h : i < length s) where
    pub from_more : 128 ≤ get_or s i 0 → var_from (suc f) s i x m ≡ var_from f s (i + 1) (x + get_or s i 0 % 128 * m) (m * 128)
    unfolding var_from
    from_more g = simp (lt-ltb i (length s) h, le-ltb (get_or s i 0) 128 g)

    pub from_last : get_or s i 0 < 128 → var_from (suc f) s i x m ≡ last_byte (get_or s i 0) i x m
    unfolding var_from
    from_last g = simp (lt-ltb i (length s) h, lt-ltb (get_or s i 0) 128 g)

    pub from_long : get_or s i 0 ≡ 0 → 1 < m → var_from (suc f) s i x m ≡ Err Long
    from_long e g = from_last (omega arith) ∙ last_long (get_or s i 0) i x m e g

    pub from_zero : get_or s i 0 ≡ 0 → m ≤ 1 → var_from (suc f) s i x m ≡ Ok (x, i + 1)
    from_zero e g = from_last (omega arith) ∙ last_zero (get_or s i 0) i x m e g

    module _ (g : get_or s i 0 < 128) (ne : get_or s i 0 ≡ 0 → ⊥) where
      pub from_value : x + get_or s i 0 * m < 2 ^ 64 → var_from (suc f) s i x m ≡ Ok (x + get_or s i 0 * m, i + 1)
      from_value b = from_last g ∙ last_value (get_or s i 0) i x m ne b

      pub from_large : 2 ^ 64 ≤ x + get_or s i 0 * m → var_from (suc f) s i x m ≡ Err Large
      from_large b = from_last g ∙ last_large (get_or s i 0) i x m ne b

-- ---- the weight of byte k, from 0: a digit more over it stays below the next weight

pub digit_lt : (d x m : ℕ) → d < 128 → x < m → x + d * m < m * 128
digit_lt d x m g h = omega (arith, digits_lt g h)

pub weight_le : (m k : ℕ) → m ≡ 128 ^ k → k ≤ 8 → m ≤ 2 ^ 56
weight_le m k e h = rw e (pow-le-pow_right (zero-lt-suc 127) h)

-- ---- a number of one byte, of two, of more, of none

module _ (s : List ℕ) (i : ℕ) where
  pub varint_one : i < length s → get_or s i 0 < 128 → varint_at s i ≡ Ok (get_or s i 0, i + 1)
  varint_one h g =
      let x : ℕ = get_or s i 0 in
      let same : 0 + x * 1 ≡ x = omega arith in
      elim (ℕ_discrete x 0) [
        | yes z ↦ varint_from s i ∙ from_zero s i 0 1 9 h z (omega arith) ∙ ap (λ (t : ℕ). Ok (t, i + 1)) (sym z)
        | no z ↦ varint_from s i ∙ from_value s i 0 1 9 h g z (omega arith) ∙ ap (λ (t : ℕ). Ok (t, i + 1)) same
      ]

  pub varint_two : i + 1 < length s → 128 ≤ get_or s i 0 → 1 ≤ get_or s (i + 1) 0 → get_or s (i + 1) 0 < 128
      → varint_at s i ≡ Ok (get_or s i 0 % 128 + 128 * get_or s (i + 1) 0, i + 2)
  varint_two h g some b =
      let x : ℕ = 0 + get_or s i 0 % 128 * 1 in
      let e : x + get_or s (i + 1) 0 * (1 * 128) ≡ get_or s i 0 % 128 + 128 * get_or s (i + 1) 0 = omega arith in
      let k : i + 1 + 1 ≡ i + 2 = omega arith in
      varint_from s i ∙ from_more s i 0 1 9 (omega arith) g
      ∙ from_value s (i + 1) x (1 * 128) 8 h b (λ z. omega arith) (omega arith) ∙ ap₂ (λ (v n : ℕ). Ok (v, n)) e k

  pub varint_cut : length s ≤ i → varint_at s i ≡ Err Cut
  varint_cut h = varint_from s i ∙ from_cut s i 0 1 9 h

  -- a longer one goes on with its second byte
  pub varint_more : i < length s → 128 ≤ get_or s i 0 → varint_at s i ≡ var_from 9 s (i + 1) (get_or s i 0 % 128) 128
  varint_more h g =
      let e : 0 + get_or s i 0 % 128 * 1 ≡ get_or s i 0 % 128 = omega arith in
      varint_from s i ∙ from_more s i 0 1 9 h g ∙ ap (λ (v : ℕ). var_from 9 s (i + 1) v 128) e

-- ---- the definition of writing, case by case

pub bytes_from_lem : (x : ℕ) → var_bytes x ≡ bytes_from 9 x
unfolding var_bytes
bytes_from_lem x = refl

pub bytes_last : (f x : ℕ) → x < 128 → bytes_from f x ≡ x ∷ []
unfolding bytes_from
bytes_last zero x h = refl
bytes_last (suc f) x h = simp (lt-ltb x 128 h)

pub bytes_more_lem : (f x : ℕ) → 128 ≤ x → bytes_from (suc f) x ≡ (x % 128 + 128) ∷ bytes_from f (x / 128)
unfolding bytes_from
bytes_more_lem f x h = simp (le-ltb x 128 h)

-- where a byte more is to come, the count of bytes is one more
pub bytes_left : (f y : ℕ) → 128 ≤ y → y < 128 ^ suc f → (g : ℕ) × (f ≡ suc g) × (y / 128 < 128 ^ suc g)
bytes_left zero y h b = absurd (not-le_of_lt b h)
bytes_left (suc g) y h b = (g, refl, (div-lt_iff_lt-mul (zero-lt-suc 127)).1 (rw pow-suc at b))

pub length_more : (f y : ℕ) → 128 ≤ y → length (bytes_from (suc f) y) ≡ suc (length (bytes_from f (y / 128)))
length_more f y h = ap length (bytes_more_lem f y h)

pub length_last : (f y : ℕ) → y < 128 → length (bytes_from f y) ≡ 1
length_last f y h = ap length (bytes_last f y h)

-- ---- reading what was written gives the number back, whatever stands before and after it

regroup : (x y m : ℕ) → x + y % 128 * m + y / 128 * (m * 128) ≡ x + y * m
regroup x y m =
    let e : y / 128 * (m * 128) ≡ y / 128 * 128 * m = ap (λ (t : ℕ). y / 128 * t) (mul_comm m 128) ∙ sym (mul_assoc (y / 128) 128 m) in
    let d : (y / 128 * 128 + y % 128) * m ≡ y * m = ap (λ (t : ℕ). t * m) (div-add-mod' y 128) in
    omega (arith, e, d, add-mul (y / 128 * 128) (y % 128) m)

-- a last byte y, after the bytes p
read_last : (f : ℕ) (p r : List ℕ) (y x m : ℕ) → x + y * m < 2 ^ 64 → y < 128 → (y ≡ 0 → m ≤ 1)
    → var_from (suc f) (p ++ y ∷ r) (length p) x m ≡ Ok (x + y * m, length p + 1)
read_last f p r y x m b h z =
    let s : List ℕ = p ++ y ∷ r in
    let e : get_or s (length p) 0 ≡ y = get_or-append_seam p y r 0 in
    let lt : length p < length s = rw length-append (omega arith) in
    elim (dec_le 1 y) [
      | yes q ↦ (rw e at (from_value s (length p) x m f lt (rw e h) (λ n. omega arith) (rw e b)))
      | no q ↦
          let y0 : y ≡ 0 = omega arith in
          from_zero s (length p) x m f lt (e ∙ y0) (z y0)
          ∙ ap (λ (t : ℕ). Ok (t, length p + 1)) (let v : y * m ≡ 0 = rw y0 (zero-mul m) in omega arith)
    ]

read_from : (f : ℕ) (p r : List ℕ) (y x m : ℕ) → x + y * m < 2 ^ 64 → y < 128 ^ suc f → (y ≡ 0 → m ≤ 1)
    → var_from (suc f) (p ++ (bytes_from f y ++ r)) (length p) x m ≡ Ok (x + y * m, length p + length (bytes_from f y))
read_from zero p r y x m b h z = rw (bytes_last 0 y h) (read_last 0 p r y x m b h z)
read_from (suc f) p r y x m b h z =
    elim (dec_le 128 y) [
      | yes q ↦
          let d : ℕ = y % 128 + 128 in
          let bs : List ℕ = bytes_from f (y / 128) in
          let p' : List ℕ = p ++ (d ∷ []) in
          let s : List ℕ = p ++ (d ∷ (bs ++ r)) in
          let same : p' ++ (bs ++ r) ≡ s = append_snoc p d (bs ++ r) in
          let e : get_or s (length p) 0 ≡ d = get_or-append_seam p d (bs ++ r) 0 in
          let lt : length p < length s = rw length-append (omega arith) in
          let len : length p' ≡ length p + 1 = length-append p (d ∷ []) in
          let low : d % 128 ≡ y % 128 = omega arith in
          let ih = read_from f p' r (y / 128) (x + y % 128 * m) (m * 128) (rw regroup b) ((div-lt_iff_lt-mul (zero-lt-suc 127)).1 (rw pow-suc at h)) (λ n. omega arith) in
          let go : var_from (suc f) s (length p + 1) (x + d % 128 * m) (m * 128) ≡ Ok (x + y * m, length p + 1 + length bs) =
          rw low (rw (same, len, regroup) at ih) in
          let fin : length p + 1 + length bs ≡ length p + suc (length bs) = omega arith in
          rw (bytes_more_lem f y q)
          ((rw e at (from_more s (length p) x m (suc f) lt (rw e (omega arith)))) ∙ go ∙ ap (λ (t : ℕ). Ok (x + y * m, t)) fin)
      | no q ↦ rw (bytes_last (suc f) y (omega arith)) (read_last (suc f) p r y x m b (omega arith) z)
    ]

pub read_back : (p r : List ℕ) (x : ℕ) → x < 2 ^ 64 → varint_at (p ++ (var_bytes x ++ r)) (length p) ≡ Ok (x, length p + length (var_bytes x))
unfolding varint_at var_bytes
read_back p r x h =
    let e : 0 + x * 1 ≡ x = omega arith in
    (rw e at (read_from 9 p r x 0 1 (omega arith) (omega arith) (λ n. omega arith)))

-- ---- what a number that is read says of the bytes

abbrev value_in : Varint → ℕ
value_in (Ok (v, n)) = v
value_in (Err w) = 0

abbrev next_in : Varint → ℕ
next_in (Ok (v, n)) = n
next_in (Err w) = 0

abbrev some_in : Varint → ℕ
some_in (Ok (v, n)) = 1
some_in (Err w) = 0

-- one number, and one place after it
pub read_one : {a b v n : ℕ} → ◌≡◌ {A = Varint} (Ok (a, b)) (Ok (v, n)) → (a ≡ v) × (b ≡ n)
read_one e = (ap value_in e, ap next_in e)

-- none, or one
pub read_not : {w : Unread} {v n : ℕ} → ◌≡◌ {A = Varint} (Err w) (Ok (v, n)) → ⊥
read_not e = let z : ◌≡◌ {A = ℕ} 0 1 = ap some_in e in absurd (omega arith)

-- a last byte b that is taken; it is 0 only where it is the first
last_taken : (f : ℕ) (s : List ℕ) (i x m v n : ℕ) → x < m → i < length s → get_or s i 0 < 128 → var_from (suc f) s i x m ≡ Ok (v, n)
    → (v ≡ x + get_or s i 0 * m) × (v < 2 ^ 64) × (i + 1 ≡ n) × (1 < m → 0 < get_or s i 0)
last_taken f s i x m v n l h g e =
    let b : ℕ = get_or s i 0 in
    elim (dec_lt 0 b) [
      | yes p ↦ elim (dec_lt (x + b * m) (2 ^ 64)) [
        | yes w ↦
            let q = read_one (sym (from_value s i x m f h g (λ t. omega arith) w) ∙ e) in
            let val : v ≡ x + b * m = sym q.0 in
            (val, rw val w, q.1, λ t. p)
        | no w ↦
            absurd (read_not (sym (from_large s i x m f h g (λ t. omega arith) (omega arith)) ∙ e))
      ]
      | no p ↦ elim (dec_lt 1 m) [
        | yes w ↦
            absurd (read_not (sym (from_long s i x m f h (omega arith) w) ∙ e))
        | no w ↦
            let q = read_one (sym (from_zero s i x m f h (omega arith) (omega arith)) ∙ e) in
            let val : x ≡ v = q.0 in
            let none : b ≡ 0 = omega arith in
            let worth : b * m ≡ 0 = rw none (zero-mul m) in
            (omega arith, omega arith, q.1, λ t. absurd (w t))
      ]
    ]

-- of bytes: a number that is read from i on, added to x with the weight m
record Taken (f : ℕ) (s : List ℕ) (i x m v n : ℕ) : Type 0 where
  digits : ℕ
  value : v ≡ x + digits * m
  below : v < 2 ^ 64
  after : i < n
  within : n ≤ length s
  shortest : 1 < m → 0 < digits
  bytes : Bytes s → drop i s ≡ bytes_from f digits ++ drop n s

taken_last : (f : ℕ) (s : List ℕ) (i x m v n : ℕ) → x < m → i < length s → get_or s i 0 < 128 → var_from (suc f) s i x m ≡ Ok (v, n) → Taken f s i x m v n
taken_last f s i x m v n l h g e =
    let (val, small, next, some) = last_taken f s i x m v n l h g e in
    let there : drop i s ≡ get_or s i 0 ∷ drop (i + 1) s = rw (add-one i) (drop-cons s i 0 h) in record {
      digits = get_or s i 0;
      value = val;
      below = small;
      after = omega arith;
      within = omega arith;
      shortest = some;
      bytes = λ b. rw (bytes_last f (get_or s i 0) g, ← next) there;
    }

-- a byte b with its top bit set, before the digits y
upper_digit : (b y : ℕ) → 128 ≤ b → b < 256 → ((b % 128 + y * 128) % 128 + 128 ≡ b) × ((b % 128 + y * 128) / 128 ≡ y)
upper_digit b y h g = (omega arith, omega arith)

from_taken : (f : ℕ) (s : List ℕ) (i x m v n : ℕ) → x < m → var_from (suc f) s i x m ≡ Ok (v, n) → Taken f s i x m v n
from_taken zero s i x m v n l e =
    elim (dec_lt i (length s)) [
      | yes h ↦ elim (dec_lt (get_or s i 0) 128) [
        | yes g ↦ taken_last 0 s i x m v n l h g e
        | no g ↦
            absurd (read_not (sym (from_more s i x m 0 h (omega arith) ∙ from_none s (i + 1) _ _) ∙ e))
      ]
      | no h ↦
          absurd (read_not (sym (from_cut s i x m 0 (omega arith)) ∙ e))
    ]
from_taken (suc f) s i x m v n l e =
    let ih = from_taken f s in
    elim (dec_lt i (length s)) [
      | yes h ↦ elim (dec_lt (get_or s i 0) 128) [
        | yes g ↦ taken_last (suc f) s i x m v n l h g e
        | no g ↦
            let b : ℕ = get_or s i 0 in
            let low : b % 128 < 128 = omega arith in
            let room : x + b % 128 * m < m * 128 = omega (arith, digits_lt low l) in
            let t = ih (i + 1) (x + b % 128 * m) (m * 128) v n room (sym (from_more s i x m (suc f) h (omega arith)) ∙ e) in
            let y : ℕ = t.digits in
            let some : 0 < y = t.shortest (omega arith) in
            let worth : y * (m * 128) ≡ y * 128 * m = ap (λ (k : ℕ). y * k) (mul_comm m 128) ∙ sym (mul_assoc y 128 m) in
            let sum : (b % 128 + y * 128) * m ≡ b % 128 * m + y * 128 * m = add-mul (b % 128) (y * 128) m in
            let val = t.value in
            let there : drop i s ≡ b ∷ drop (i + 1) s = rw (add-one i) (drop-cons s i 0 h) in
            let later = t.after in record {
              digits = b % 128 + y * 128;
              value = omega arith;
              below = t.below;
              after = omega arith;
              within = t.within;
              shortest = λ w. omega arith;
              bytes = λ byte.
                  let (top, rest) = upper_digit b y (omega arith) (byte i) in
                  rw (bytes_more_lem f (b % 128 + y * 128) (omega arith), top, rest) (there ∙ ap (λ (k : List ℕ). b ∷ k) (t.bytes byte));
            }
      ]
      | no h ↦
          absurd (read_not (sym (from_cut s i x m (suc f) (omega arith)) ∙ e))
    ]

taken : (s : List ℕ) (i v n : ℕ) → varint_at s i ≡ Ok (v, n) → Taken 9 s i 0 1 v n
unfolding varint_at
taken s i v n e = from_taken 9 s i 0 1 v n (lit< tt) e

-- the place after a number lies within the bytes
pub varint_next : (s : List ℕ) (i v n : ℕ) → varint_at s i ≡ Ok (v, n) → (i < n) × (n ≤ length s)
varint_next s i v n e = let t = taken s i v n e in (t.after, t.within)

-- a number is below 2 ^ 64
pub varint_lt : (s : List ℕ) (i v n : ℕ) → varint_at s i ≡ Ok (v, n) → v < 2 ^ 64
varint_lt s i v n e = (taken s i v n e).below

-- shortest is unique: the bytes that are read as a number are the bytes that are written for it
pub varint_bytes : (s : List ℕ) (i v n : ℕ) → Bytes s → varint_at s i ≡ Ok (v, n) → part s i n ≡ var_bytes v
varint_bytes s i v n b e =
    let t = taken s i v n e in
    let y : v ≡ t.digits = omega (arith, t.value) in
    let stood : drop i s ≡ var_bytes v ++ drop n s = rw (y, bytes_from_lem t.digits) (t.bytes b) in
    let long : length s - i ≡ length (var_bytes v) + (length s - n) = simp (length-drop, length-append) at (ap length stood) in
    let later = t.after in
    let inside = t.within in
    ap (take (n - i)) stood ∙ take_at (var_bytes v) (drop n s) (n - i) (omega arith)

-- and two numbers have different bytes
pub var_bytes_one : (x y : ℕ) → x < 2 ^ 64 → y < 2 ^ 64 → var_bytes x ≡ var_bytes y → x ≡ y
var_bytes_one x y a b e =
    let p = read_back [] [] x a in
    let q = read_back [] [] y b in
    let same : varint_at (var_bytes x ++ []) 0 ≡ varint_at (var_bytes y ++ []) 0 = ap (λ (t : List ℕ). varint_at (t ++ []) 0) e in
    (read_one (sym p ∙ same ∙ q)).0

-- ---- what is written

length_from : (f x : ℕ) → (0 < length (bytes_from f x)) × (length (bytes_from f x) ≤ suc f)
unfolding bytes_from
length_from zero x = (lit< tt, lit< tt)
length_from (suc f) x =
    elim (dec_lt x 128) [
      | yes h ↦ simp (lt-ltb x 128 h) (omega arith)
      | no h ↦ simp (le-ltb x 128 (omega arith)) (let r = length_from f (x / 128) in (omega arith, omega arith))
    ]

-- a varint has one to ten bytes
pub var_bytes_length : (x : ℕ) → (0 < length (var_bytes x)) × (length (var_bytes x) ≤ 10)
var_bytes_length x = rw (bytes_from_lem x) (length_from 9 x)

first : (b : ℕ) (r : List ℕ) (j : ℕ) → b < 2 ^ 8 → Bytes r → get_or (b ∷ r) j 0 < 2 ^ 8
first b r zero h g = h
first b r (suc j) h g = g j

from_bytes : (f x j : ℕ) → x < 128 ^ suc f → get_or (bytes_from f x) j 0 < 2 ^ 8
unfolding bytes_from
from_bytes zero x zero h = omega arith
from_bytes zero x (suc j) h = lit< tt
from_bytes (suc f) x j h =
    let ih = from_bytes f (x / 128) in
    let on : x / 128 < 128 ^ suc f = (div-lt_iff_lt-mul (zero-lt-suc 127)).1 (rw pow-suc at h) in
    elim (dec_lt x 128) [
      | yes g ↦ simp (lt-ltb x 128 g) (first x [] j (omega arith) (λ k. lit< tt))
      | no g ↦ simp (le-ltb x 128 (omega arith)) (first (x % 128 + 128) (bytes_from f (x / 128)) j (omega arith) (λ k. ih k on))
    ]

-- each of them is a byte
pub var_bytes_lt : (x j : ℕ) → x < 2 ^ 64 → get_or (var_bytes x) j 0 < 2 ^ 8
var_bytes_lt x j h = rw (bytes_from_lem x) (from_bytes 9 x j (omega arith))
