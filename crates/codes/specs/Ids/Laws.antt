-- The laws of be_at, id_at and order.
use Rattle.std.specs.Prelude.{◌≡◌, refl, ℕ, zero, suc, ◌+◌, ◌-◌, ◌*◌, ◌/◌, ◌%◌, ◌^◌, ◌≤◌, ◌<◌, Bool, true, false, List, [], ◌∷◌, ◌++◌, length, get_or, set, ltb}
use Rattle.std.proofs.Common.{sym, ap, ap₂, ◌∙◌, lt_of_lt_of_le, pow-suc, zero-lt-suc, add-zero, add-suc, add_assoc, add-mul, mul_assoc, div-add-mod', div-lt_iff_lt-mul, arith, append_assoc, append-nil, length-append, get_or-append-add, lit<, lt-ltb, le-ltb}
use Rattle.std.proofs.Math.Nat.{pow-le-pow_right}
use Rattle.std.proofs.Math.Decide.{dec_lt}
use Rattle.std.proofs.lemmas.List.Edits.{sets}
use Rattle.std.proofs.lemmas.List.{get_or_at}
use Rattle.std.proofs.Math.Seq.{append_snoc}
use Rattle.base.specs.Over.{sets_snoc, sets_append}
use Rattle.std.proofs.Math.Arith.{digits_lt}
use Rattle.std.specs.declared.cmp.Ordering.{Ordering}
use Rattle.std.specs.Ordering.{MatchOrdering, nat_cmp, ordering_then}
use Rattle.std.specs.Cmp.{ranks}
use Rattle.codes.specs.declared.ids.Id.{Id}
use Rattle.codes.specs.Ids.{be_at, id_at, order, halves_at, id_number, be_bytes, id_bytes, turned}
use Rattle.codes.specs.Little.{le_at, le_bytes}
use Rattle.codes.specs.Little.Laws.{le_at_low, le_bytes_zero}

pub be_at_zero : (s : List ℕ) (i : ℕ) → be_at s i 0 ≡ 0
unfolding be_at
be_at_zero s i = refl

pub be_at_suc : (s : List ℕ) (i n : ℕ) → be_at s i (suc n) ≡ be_at s i n * 256 + get_or s (i + n) 0
unfolding be_at
be_at_suc s i n = refl

pub be_at_lt : (s : List ℕ) → ((j : ℕ) → get_or s j 0 < 256) → (i n : ℕ) → be_at s i n < 256 ^ n
unfolding be_at
be_at_lt s b i zero = lit< tt
be_at_lt s b i (suc n) = rw pow-suc (digits_lt (be_at_lt s b i n) (b (i + n)))

pub be_at_lt_le : (s : List ℕ) → ((j : ℕ) → get_or s j 0 < 256) → (i n m : ℕ) → n ≤ m → be_at s i n < 256 ^ m
be_at_lt_le s b i n m h = lt_of_lt_of_le (be_at_lt s b i n) (pow-le-pow_right (zero-lt-suc 255) h)

-- the first n bytes are worth 256 ^ m times as much as the m after them
pub be_at_add : (s : List ℕ) (i n m : ℕ) → be_at s i (n + m) ≡ be_at s i n * 256 ^ m + be_at s (i + n) m
unfolding be_at
be_at_add s i n zero = rw add-zero (let e : 256 ^ 0 ≡ 1 = refl in omega arith)
be_at_add s i n (suc m) =
    rw (add-suc, be_at_add s i n m, pow-suc)
    (let e : i + n + m ≡ i + (n + m) = omega arith in
    let d : (be_at s i n * 256 ^ m + be_at s (i + n) m) * 256 ≡ be_at s i n * 256 ^ m * 256 + be_at s (i + n) m * 256 = add-mul _ _ _ in
    rw (e, ← mul_assoc) (omega arith))

pub id_halves : (s : List ℕ) (i : ℕ) → id_at s i ≡ be_at s i 8 * 2 ^ 64 + be_at s (i + 8) 8
unfolding id_at
id_halves s i = be_at_add s i 8 8

-- the order by its cases, and back
pub less : {m n : ℕ} → m < n → order m n ≡ Ordering.Less
unfolding order
less {m} {n} h = simp (lt-ltb m n h)

pub greater : {m n : ℕ} → n < m → order m n ≡ Ordering.Greater
unfolding order
greater {m} {n} h = simp (le-ltb m n (omega arith), lt-ltb n m h)

pub equal : {m n : ℕ} → m ≡ n → order m n ≡ Ordering.Equal
unfolding order
equal {m} {n} h = simp (le-ltb m n (omega arith), le-ltb n m (omega arith))

-- the upper halves decide
pub upper : {p q : ℕ} (v w : ℕ) → p < q → v < 2 ^ 64 → p * 2 ^ 64 + v < q * 2 ^ 64 + w
upper v w h b = omega arith

-- the derived order of two ids, by their halves, is the order of their numbers
pub derived_order : (a b : Id) → a.lo < 2 ^ 64 → b.lo < 2 ^ 64 → ordering_then (nat_cmp a.hi b.hi) (nat_cmp a.lo b.lo) ≡ order (id_number a) (id_number b)
derived_order a b v w = go (nat_cmp a.hi b.hi) (nat_cmp a.lo b.lo) (ranks a.hi b.hi) (ranks a.lo b.lo)
  where
    go : (r s : Ordering) → MatchOrdering r (a.hi < b.hi) (a.hi ≡ b.hi) (b.hi < a.hi) → MatchOrdering s (a.lo < b.lo) (a.lo ≡ b.lo) (b.lo < a.lo)
        → ordering_then r s ≡ order (id_number a) (id_number b)
    go Ordering.Less s h k = sym (less (upper a.lo b.lo h v))
    go Ordering.Greater s h k = sym (greater (upper b.lo a.lo h w))
    go Ordering.Equal Ordering.Less h k = sym (less (omega arith))
    go Ordering.Equal Ordering.Greater h k = sym (greater (omega arith))
    go Ordering.Equal Ordering.Equal h k = sym (equal (omega arith))

-- ---- halves

pub halves_is : (s : List ℕ) (i : ℕ) → halves_at s i ≡ record { hi = be_at s i 8; lo = be_at s (i + 8) 8 }
unfolding halves_at
halves_is s i = refl

pub number_halves : (s : List ℕ) (i : ℕ) → id_number (halves_at s i) ≡ id_at s i
unfolding halves_at
number_halves s i = sym (id_halves s i)

-- the bytes decide: the same bytes elsewhere make the same number and the same id
pub be_at_same : (s t : List ℕ) (i j n : ℕ) → ((k : ℕ) → k < n → get_or s (i + k) 0 ≡ get_or t (j + k) 0) → be_at s i n ≡ be_at t j n
unfolding be_at
be_at_same s t i j zero h = refl
be_at_same s t i j (suc n) h = ap₂ (λ (x b : ℕ). x * 256 + b) (be_at_same s t i j n (λ k l. h k (omega arith))) (h n (omega arith))

pub halves_same : (s t : List ℕ) (i j : ℕ) → ((k : ℕ) → k < 16 → get_or s (i + k) 0 ≡ get_or t (j + k) 0) → halves_at s i ≡ halves_at t j
unfolding halves_at
halves_same s t i j h =
    let low : (k : ℕ) → k < 8 → get_or s (i + 8 + k) 0 ≡ get_or t (j + 8 + k) 0 = (λ k l. rw (add_assoc i 8 k, add_assoc j 8 k) (h (8 + k) (omega arith))) in
    ap₂ (λ (u v : ℕ). record { hi = u; lo = v }) (be_at_same s t i j 8 (λ k l. h k (omega arith))) (be_at_same s t (i + 8) (j + 8) 8 low)

-- ---- the order of two ids, by their halves

module _ (a b : Id) where
  pub above_upper : a.hi < b.hi → a.lo < 2 ^ 64 → ltb (id_number a) (id_number b) ≡ true
  above_upper h l = lt-ltb (id_number a) (id_number b) (upper a.lo b.lo h l)

  pub above_under : b.hi < a.hi → b.lo < 2 ^ 64 → ltb (id_number a) (id_number b) ≡ false
  above_under h l = let lt = upper b.lo a.lo h l in le-ltb (id_number a) (id_number b) (omega arith)

  pub above_lower : a.hi ≡ b.hi → ltb (id_number a) (id_number b) ≡ ltb a.lo b.lo
  above_lower e =
      elim (dec_lt a.lo b.lo) [
        | yes l ↦ let n : id_number a < id_number b = rw e (omega arith) in lt-ltb (id_number a) (id_number b) n ∙ sym (lt-ltb a.lo b.lo l)
        | no l ↦ let n : id_number b ≤ id_number a = rw e (omega arith) in le-ltb (id_number a) (id_number b) n ∙ sym (le-ltb a.lo b.lo (omega arith))
      ]

-- as they stand at i and at j
module _ (s : List ℕ) (byte : (k : ℕ) → get_or s k 0 < 256) (i j : ℕ) where
  abbrev before : Bool
  before = ltb (id_at s i) (id_at s j)

  by_halves : before ≡ ltb (id_number (halves_at s i)) (id_number (halves_at s j))
  by_halves = ap₂ ltb (sym (number_halves s i)) (sym (number_halves s j))

  pub before_upper : be_at s i 8 < be_at s j 8 → before ≡ true
  unfolding halves_at
  before_upper h = by_halves ∙ above_upper (halves_at s i) (halves_at s j) h (be_at_lt s byte (i + 8) 8)

  pub before_under : be_at s j 8 < be_at s i 8 → before ≡ false
  unfolding halves_at
  before_under h = by_halves ∙ above_under (halves_at s i) (halves_at s j) h (be_at_lt s byte (j + 8) 8)

  pub before_lower : be_at s i 8 ≡ be_at s j 8 → before ≡ ltb (be_at s (i + 8) 8) (be_at s (j + 8) 8)
  unfolding halves_at
  before_lower e = by_halves ∙ above_lower (halves_at s i) (halves_at s j) e

-- ---- writing

pub length_be_bytes : (n x : ℕ) → length (be_bytes n x) ≡ n
unfolding be_bytes
length_be_bytes zero x = refl
length_be_bytes (suc n) x = rw length-append (omega (arith, length_be_bytes n (x / 256)))

pub be_bytes_zero : (x : ℕ) → be_bytes 0 x ≡ []
unfolding be_bytes
be_bytes_zero x = refl

-- the step of a loop that writes from the last byte down
pub put_down : (l : List ℕ) (i k y : ℕ) → 0 < k → sets l i (be_bytes k y) ≡ sets (set l (i + (k - 1)) (y % 256)) i (be_bytes (k - 1) (y / 256))
unfolding be_bytes
put_down l i k y h =
    let e : k ≡ suc (k - 1) = omega arith in
    let f : i + length (be_bytes (k - 1) (y / 256)) ≡ i + (k - 1) = ap (λ (t : ℕ). i + t) (length_be_bytes (k - 1) (y / 256)) in
    ap (λ (t : ℕ). sets l i (be_bytes t y)) e
    ∙ sym (sets_snoc (be_bytes (k - 1) (y / 256)) l i (y % 256))
    ∙ ap (λ (t : ℕ). sets (set l t (y % 256)) i (be_bytes (k - 1) (y / 256))) f

pub length_id_bytes : (d : Id) → length (id_bytes d) ≡ 16
unfolding id_bytes
length_id_bytes d = rw length-append (omega (arith, length_be_bytes 8 d.hi, length_be_bytes 8 d.lo))

pub put_halves : (l : List ℕ) (i : ℕ) (d : Id) → sets (sets l i (be_bytes 8 d.hi)) (i + 8) (be_bytes 8 d.lo) ≡ sets l i (id_bytes d)
unfolding id_bytes
put_halves l i d =
    let e : i + length (be_bytes 8 d.hi) ≡ i + 8 = ap (λ (t : ℕ). i + t) (length_be_bytes 8 d.hi) in
    sym (sets_append (be_bytes 8 d.hi) (be_bytes 8 d.lo) l i ∙ ap (λ (t : ℕ). sets (sets l i (be_bytes 8 d.hi)) t (be_bytes 8 d.lo)) e)

-- ---- reading what stands between q and r

pub be_at_back : (n : ℕ) (q r : List ℕ) (x : ℕ) → x < 256 ^ n → be_at (q ++ (be_bytes n x ++ r)) (length q) n ≡ x
unfolding be_at be_bytes
be_at_back zero q r x b = omega arith
be_at_back (suc n) q r x b =
    let hi : x / 256 < 256 ^ n = (div-lt_iff_lt-mul (zero-lt-suc 255)).1 (rw pow-suc at b) in
    let bs : List ℕ = be_bytes n (x / 256) in
    let t : List ℕ = x % 256 ∷ r in
    let ih = be_at_back n q t (x / 256) hi in
    let last : get_or (q ++ (bs ++ t)) (length q + n) 0 ≡ x % 256 =
    get_or-append-add q (bs ++ t) n 0 ∙ get_or_at bs (x % 256) r 0 n (length_be_bytes n (x / 256)) in
    let whole : q ++ ((bs ++ (x % 256 ∷ [])) ++ r) ≡ q ++ (bs ++ t) = ap (λ (l : List ℕ). q ++ l) (append_snoc bs (x % 256) r) in
    ap₂ (λ (l m : List ℕ). be_at l (length q) n * 256 + get_or m (length q + n) 0) whole whole ∙ ap₂ (λ (a c : ℕ). a * 256 + c) ih last ∙ div-add-mod' x 256

pub halves_back : (q r : List ℕ) (d : Id) → d.hi < 2 ^ 64 → d.lo < 2 ^ 64 → halves_at (q ++ (id_bytes d ++ r)) (length q) ≡ d
unfolding halves_at id_bytes
halves_back q r d a b =
    let u : List ℕ = be_bytes 8 d.hi in
    let v : List ℕ = be_bytes 8 d.lo in
    let one : q ++ ((u ++ v) ++ r) ≡ q ++ (u ++ (v ++ r)) = ap (λ (t : List ℕ). q ++ t) (append_assoc u v r) in
    let two : q ++ ((u ++ v) ++ r) ≡ (q ++ u) ++ (v ++ r) = one ∙ sym (append_assoc q u (v ++ r)) in
    let len : length (q ++ u) ≡ length q + 8 = length-append q u ∙ ap (λ (t : ℕ). length q + t) (length_be_bytes 8 d.hi) in
    let hi : be_at (q ++ ((u ++ v) ++ r)) (length q) 8 ≡ d.hi = rw one (be_at_back 8 q (v ++ r) d.hi a) in
    let lo : be_at (q ++ ((u ++ v) ++ r)) (length q + 8) 8 ≡ d.lo = rw (two, ← len) (be_at_back 8 (q ++ u) r d.lo b) in
    (λ j. record { hi = hi j; lo = lo j })

-- ---- the other order

-- the bytes after the first m, moved over
pub turned_at : (s : List ℕ) → ((j : ℕ) → get_or s j 0 < 256) → (i n m : ℕ) → turned n (le_at s (i + m) n) (be_at s i m) ≡ be_at s i (m + n)
unfolding turned be_at
turned_at s b i zero m = rw add-zero
turned_at s b i (suc n) m =
    let lowest : le_at s (i + m) (suc n) ≡ le_at s (i + m + 1) n * 256 + get_or s (i + m) 0 = le_at_low s (i + m) n in
    let over : le_at s (i + m) (suc n) / 256 ≡ le_at s (i + suc m) n = omega (arith, lowest, b (i + m), ap (λ (t : ℕ). le_at s t n) (let e : i + m + 1 ≡ i + suc m = omega arith in e)) in
    let digit : le_at s (i + m) (suc n) % 256 ≡ get_or s (i + m) 0 = omega (arith, lowest, b (i + m)) in
    let k : suc m + n ≡ m + suc n = omega arith in
    rw (over, digit) (rw k at (turned_at s b i n (suc m)))

pub turned_le : (s : List ℕ) → ((j : ℕ) → get_or s j 0 < 256) → (i : ℕ) → turned 8 (le_at s i 8) 0 ≡ be_at s i 8
turned_le s b i = rw (add-zero, be_at_zero) at (turned_at s b i 8 0)

-- and the bytes of the number so made, the lowest first
pub turned_bytes : (n m x y : ℕ) → le_bytes (m + n) (turned n x y) ≡ be_bytes n x ++ le_bytes m y
unfolding turned be_bytes le_bytes
turned_bytes zero m x y = rw add-zero
turned_bytes (suc n) m x y =
    let k : m + suc n ≡ suc m + n = omega arith in
    let d : (y * 256 + x % 256) % 256 ≡ x % 256 = omega arith in
    let q : (y * 256 + x % 256) / 256 ≡ y = omega arith in
    let ih = turned_bytes n (suc m) (x / 256) (y * 256 + x % 256) in
    rw k ((rw (d, q) at ih) ∙ sym (append_snoc (be_bytes n (x / 256)) (x % 256) (le_bytes m y)))

pub turned_put : (x : ℕ) → le_bytes 8 (turned 8 x 0) ≡ be_bytes 8 x
turned_put x = turned_bytes 8 0 x 0 ∙ ap (λ (t : List ℕ). be_bytes 8 x ++ t) (le_bytes_zero 0) ∙ append-nil (be_bytes 8 x)
