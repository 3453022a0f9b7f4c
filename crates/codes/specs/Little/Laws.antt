-- The laws of little-endian numbers, over the width.
use Rattle.std.specs.Prelude.{◌≡◌, refl, ℕ, zero, suc, ◌+◌, ◌-◌, ◌*◌, ◌/◌, ◌%◌, ◌^◌, ◌≤◌, ◌<◌, List, [], ◌∷◌, ◌++◌, length, get_or, set}
use Rattle.std.proofs.Common.{sym, ap, ap₂, ◌∙◌, add_comm, add-zero, mul-suc, mul_assoc, add-mul, div-add-mod', div-lt_iff_lt-mul, zero-lt-suc, add-one, arith, length-set, length-append, lit<, pow-add, shl_exact, get_or-set_same}
use Rattle.std.proofs.Math.Arith.{digits_lt}
use Rattle.std.specs.Int.Bits.{bit_or, or_shifted_r}
use Rattle.std.proofs.lemmas.List.Edits.{sets}
use Rattle.std.proofs.Math.Seq.{append_snoc, get_or-append_seam}
use Rattle.base.specs.Over.{get_d_sets_below}
use Rattle.base.specs.Bytes.{Bytes}
use Rattle.codes.specs.Little.{le_at, le_bytes}

pub le_at_zero : (s : List ℕ) (i : ℕ) → le_at s i 0 ≡ 0
unfolding le_at
le_at_zero s i = refl

-- one byte more on top
pub le_at_suc : (s : List ℕ) (i n : ℕ) → le_at s i (suc n) ≡ le_at s i n + get_or s (i + n) 0 * 2 ^ (8 * n)
unfolding le_at
le_at_suc s i n = refl

weight : (n : ℕ) → 2 ^ (8 * suc n) ≡ 2 ^ (8 * n) * 256
weight n = rw (mul-suc, pow-add)

-- one byte less at the bottom
pub le_at_low : (s : List ℕ) (i n : ℕ) → le_at s i (suc n) ≡ le_at s (i + 1) n * 256 + get_or s i 0
unfolding le_at
le_at_low s i zero = rw add-zero (omega arith)
le_at_low s i (suc n) =
    let e : i + suc n ≡ i + 1 + n = omega arith in
    let m : get_or s (i + 1 + n) 0 * (2 ^ (8 * n) * 256) ≡ get_or s (i + 1 + n) 0 * 2 ^ (8 * n) * 256 = sym (mul_assoc _ _ _) in
    let d : (le_at s (i + 1) n + get_or s (i + 1 + n) 0 * 2 ^ (8 * n)) * 256 ≡ le_at s (i + 1) n * 256 + get_or s (i + 1 + n) 0 * 2 ^ (8 * n) * 256 = add-mul _ _ _ in
    rw (le_at_low s i n, weight, e) (omega arith)

-- bytes make a number below 2 ^ (8 * n)
pub le_at_lt : (s : List ℕ) → Bytes s → (i n : ℕ) → le_at s i n < 2 ^ (8 * n)
unfolding le_at
le_at_lt s b i zero = lit< tt
le_at_lt s b i (suc n) =
    rw (mul-suc, add_comm (8 * n) 8, pow-add, add_comm (le_at s i n)) (digits_lt (b (i + n)) (le_at_lt s b i n))

-- one byte more, as the code puts it on top: by a shift and an or
pub le_at_more : (s : List ℕ) (i n x b : ℕ) → Bytes s → n < 8 → x ≡ le_at s i n → b ≡ get_or s (i + n) 0
    → bit_or x (b * 2 ^ (8 * n) % 2 ^ 64) ≡ le_at s i (n + 1)
unfolding le_at
le_at_more s i n x b h l p q =
    rw (p, q, add-one, shl_exact 8 (8 * n) 64 (h (i + n)) (omega arith), or_shifted_r (get_or s (i + n) 0) (8 * n) (le_at s i n) (le_at_lt s h i n))
    (add_comm _ _)

pub le_bytes_zero : (x : ℕ) → le_bytes 0 x ≡ []
unfolding le_bytes
le_bytes_zero x = refl

pub length_le_bytes : (n x : ℕ) → length (le_bytes n x) ≡ n
unfolding le_bytes
length_le_bytes zero x = refl
length_le_bytes (suc n) x = ap suc (length_le_bytes n (x / 256))

-- each of them is a byte
pub le_bytes_lt : (n x j : ℕ) → get_or (le_bytes n x) j 0 < 2 ^ 8
unfolding le_bytes
le_bytes_lt zero x j = lit< tt
le_bytes_lt (suc n) x zero = omega arith
le_bytes_lt (suc n) x (suc j) = le_bytes_lt n (x / 256) j

-- the step of a loop that writes from the lowest byte up
pub le_bytes_put : (o : List ℕ) (i n k y : ℕ) → k < n
    → sets o (i + k) (le_bytes (n - k) y) ≡ sets (set o (i + k) (y % 256)) (i + (k + 1)) (le_bytes (n - (k + 1)) (y / 256))
unfolding le_bytes
le_bytes_put o i n k y h =
    let e : n - k ≡ suc (n - (k + 1)) = omega arith in
    let f : suc (i + k) ≡ i + (k + 1) = omega arith in
    ap (λ (m : ℕ). sets o (i + k) (le_bytes m y)) e
    ∙ ap (λ (j : ℕ). sets (set o (i + k) (y % 256)) j (le_bytes (n - (k + 1)) (y / 256))) f

-- the lowest byte off a number of suc n bytes
shorter : (n x : ℕ) → x < 2 ^ (8 * suc n) → x / 256 < 2 ^ (8 * n)
shorter n x b = (div-lt_iff_lt-mul (zero-lt-suc 255)).1 (rw (weight n) at b)

-- what stands between p and r, whatever they are, is read back
pub le_at_back : (n : ℕ) (p r : List ℕ) (x : ℕ) → x < 2 ^ (8 * n) → le_at (p ++ (le_bytes n x ++ r)) (length p) n ≡ x
unfolding le_bytes
le_at_back zero p r x b = le_at_zero _ _ ∙ omega arith
le_at_back (suc n) p r x b =
    let t : List ℕ = le_bytes n (x / 256) ++ r in
    let ih = le_at_back n (p ++ (x % 256 ∷ [])) r (x / 256) (shorter n x b) in
    le_at_low _ _ n
    ∙ ap₂ (λ (a c : ℕ). a * 256 + c) (rw (append_snoc p (x % 256) t, length-append) at ih) (get_or-append_seam p (x % 256) t 0)
    ∙ div-add-mod' x 256

-- so is what was written over an output
pub le_at_put : (n : ℕ) (o : List ℕ) (i x : ℕ) → i + n ≤ length o → x < 2 ^ (8 * n) → le_at (sets o i (le_bytes n x)) i n ≡ x
unfolding le_bytes
le_at_put zero o i x h b = le_at_zero _ _ ∙ omega arith
le_at_put (suc n) o i x h b =
    let o' : List ℕ = set o i (x % 256) in
    let inside : i < length o = omega arith in
    le_at_low _ _ n
    ∙ ap₂ (λ (p q : ℕ). p * 256 + q)
    (rw add-one (le_at_put n o' (suc i) (x / 256) (rw length-set (omega arith)) (shorter n x b)))
    (get_d_sets_below (le_bytes n (x / 256)) o' (suc i) i 0 (omega arith) ∙ get_or-set_same o i (x % 256) 0 inside)
    ∙ div-add-mod' x 256

-- two numbers of n bytes have different bytes
pub le_bytes_one : (n x y : ℕ) → x < 2 ^ (8 * n) → y < 2 ^ (8 * n) → le_bytes n x ≡ le_bytes n y → x ≡ y
le_bytes_one n x y a b e =
    sym (le_at_back n [] [] x a) ∙ ap (λ (t : List ℕ). le_at (t ++ []) 0 n) e ∙ le_at_back n [] [] y b

-- the bytes from i on decide: the same bytes elsewhere make the same number
pub le_at_same : (s t : List ℕ) (i j n : ℕ) → ((k : ℕ) → k < n → get_or s (i + k) 0 ≡ get_or t (j + k) 0) → le_at s i n ≡ le_at t j n
unfolding le_at
le_at_same s t i j zero h = refl
le_at_same s t i j (suc n) h =
    ap₂ (λ (p q : ℕ). p + q * 2 ^ (8 * n)) (le_at_same s t i j n (λ k l. h k (omega arith))) (h n (omega arith))
