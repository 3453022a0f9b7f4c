-- What the machine counts: the leading zeros of a degree give its bucket, the ones of a tombstone byte its dead edges.
use Rattle.std.specs.Prelude.{◌≡◌, ℕ, zero, suc, ◌+◌, ◌-◌, ◌*◌, ◌/◌, ◌%◌, ◌^◌, ◌<◌, ◌≤◌, true, List, slice_index, slice_index_or}
use Rattle.std.proofs.Common.{sym, ap, ap₂, ◌∙◌, add-zero, zero-add, pow-suc, div-one, arith, add-one}
use Rattle.std.proofs.Math.Nat.{div-div-eq-div-mul}
use Rattle.std.specs.Int.Count.{ones, ones_step, count_leading_zeros}
use Rattle.std.proofs.lemmas.Nat.{leading_top}
use Rattle.lookup.specs.Lookup.{mark_at}
use Rattle.summary.specs.Summary.{in_bucket}
use Rattle.summary.proofs.Laws.Summary.{in_bucket_lem}
use Rattle.summary.specs.Bits.{count_dead}

-- ---- leading zeros

-- "The bucket of a degree comes from its leading zeros"
pub zeros_bucket : (d : ℕ) → 1 ≤ d → d < 2 ^ 64 → (count_leading_zeros 64 d ≤ 63) × (in_bucket (63 - count_leading_zeros 64 d) d ≡ true)
zeros_bucket d a b =
    let (j, sum, low, high) = leading_top 64 d a b in
    let is : 63 - count_leading_zeros 64 d ≡ j = omega arith in
    (omega arith, ap (λ (t : ℕ). in_bucket t d) is ∙ in_bucket_lem j d low (rw (add-one j) high))

-- t marks from bit j of byte b on
marks_ones : (t : ℕ) (s : List ℕ) (b j : ℕ) → j + t ≤ 8 → slice_index s b / 2 ^ j < 2 ^ t → count_dead t s (8 * b + j) ≡ ones (slice_index s b / 2 ^ j)
unfolding count_dead ones
marks_ones zero s b j h l = let z : slice_index_or s b 0 / 2 ^ j ≡ 0 = omega arith in sym (ap ones z)
marks_ones (suc t) s b j h l =
    let byte : (8 * b + j) / 8 ≡ b = omega arith in
    let bit : (8 * b + j) % 8 ≡ j = omega arith in
    let mark : mark_at s (8 * b + j) ≡ slice_index s b / 2 ^ j % 2 = ap₂ (λ (x y : ℕ). slice_index s x / 2 ^ y % 2) byte bit in
    let next : 8 * b + j + 1 ≡ 8 * b + suc j = omega arith in
    let half : slice_index_or s b 0 / 2 ^ suc j ≡ slice_index s b / 2 ^ j / 2 = ap (λ (m : ℕ). slice_index s b / m) (pow-suc 2 j) ∙ sym (div-div-eq-div-mul (slice_index s b) (2 ^ j) 2) in
    let less : slice_index_or s b 0 / 2 ^ j < 2 ^ t * 2 = rw (pow-suc 2 t) at l in
    let ih = marks_ones t s b (suc j) (omega arith) (rw half (omega arith)) in
    ap₂ (λ (x y : ℕ). x + y) mark (ap (count_dead t s) next ∙ ih ∙ ap ones half) ∙ sym (ones_step (slice_index s b / 2 ^ j))

-- "the tombstone count from the ones in each byte": the ones of byte b are the dead edges among its eight; the unused
-- bits of the last byte are 0 (`unused_none`)
pub ones_dead : (s : List ℕ) (b : ℕ) → slice_index s b < 2 ^ 8 → count_dead 8 s (8 * b) ≡ ones (slice_index s b)
ones_dead s b h =
    let one : slice_index_or s b 0 / 2 ^ 0 ≡ slice_index_or s b 0 = div-one (slice_index s b) in
    ap (count_dead 8 s) (sym (add-zero (8 * b))) ∙ marks_ones 8 s b 0 (omega arith) (rw one h) ∙ ap ones one

pub dead_append : (a b : ℕ) (s : List ℕ) (e : ℕ) → count_dead (a + b) s e ≡ count_dead a s e + count_dead b s (e + a)
unfolding count_dead
dead_append zero b s e = ap₂ (λ (x y : ℕ). count_dead x s y) (zero-add b) (sym (add-zero e)) ∙ sym (zero-add _)
dead_append (suc a) b s e =
    let n : suc a + b ≡ suc (a + b) = omega arith in
    let m : e + 1 + a ≡ e + suc a = omega arith in
    let ih = dead_append a b s (e + 1) ∙ ap (λ (t : ℕ). count_dead a s (e + 1) + count_dead b s t) m in
    ap (λ (t : ℕ). count_dead t s e) n ∙ ap (λ (t : ℕ). mark_at s e + t) ih ∙ omega arith
