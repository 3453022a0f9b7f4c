-- The pass over the tombstones: byte by byte, and no unused bit is set.
use Rattle.std.specs.Prelude.{◌≡◌, ℕ, zero, suc, ◌+◌, ◌-◌, ◌*◌, ◌^◌, ◌<◌, ◌≤◌, Bool, true, false, ◌||◌, List, [], length, ◌==◌, count_ones, slice_index, refl}
use Rattle.std.proofs.Common.{sym, ap, ap₂, ◌∙◌, zero-add, add-zero, arith, eq-eqb}
use Rattle.std.proofs.Math.Decide.{ℕ_discrete}
use Rattle.std.proofs.lemmas.Bool.{false≢true}
use Rattle.std.proofs.lemmas.Nat.{ones-le}
use Rattle.lookup.specs.Lookup.{mark_at}
use Rattle.lookup.proofs.Laws.Lookup.{mark_none}
use Rattle.full_check.specs.Full.{dead_from}
use Rattle.summary.specs.Bits.{count_dead}
use Rattle.summary.proofs.Laws.Bits.{ones_dead, dead_append}
use Rattle.summary.specs.Marked.{Counting}

dead_le : (d : ℕ) (s : List ℕ) (e : ℕ) → count_dead d s e ≤ d
unfolding count_dead
dead_le zero s e = omega arith
dead_le (suc d) s e = let h = dead_le d s (e + 1) in omega arith

pub few_ones : (s : List ℕ) (b : ℕ) → slice_index s b < 2 ^ 8 → count_ones (slice_index s b) ≤ 8
few_ones s b h = ones-le 8 (slice_index s b) h

pub counting_start : (s : List ℕ) → Counting s 0 0
unfolding count_dead
counting_start s = record { most = omega arith; dead = refl }

module _ (s : List ℕ) (x b : ℕ) (h : Counting s x b) where
  pub counting_few : x ≤ 8 * b
  counting_few = let d = h.dead in let l = dead_le (8 * b) s 0 in omega arith

  pub counting_on : b < length s → slice_index s b < 2 ^ 8 → Counting s (x + count_ones (slice_index s b)) (b + 1)
  counting_on lt byte =
      let n : 8 * (b + 1) ≡ 8 * b + 8 = omega arith in
      let m : 0 + 8 * b ≡ 8 * b = omega arith in
      record {
        most = omega arith;
        dead = ap₂ (λ (u v : ℕ). u + v) h.dead (sym (ones_dead s b byte) ∙ ap (count_dead 8 s) (sym m)) ∙ sym (dead_append (8 * b) 8 s 0)
            ∙ ap (λ (t : ℕ). count_dead t s 0) (sym n);
      }

  pub counting_end : length s ≤ b → x ≡ count_dead (8 * length s) s 0
  counting_end le = let most = h.most in let e : b ≡ length s = omega arith in h.dead ∙ ap (λ (t : ℕ). count_dead (8 * t) s 0) e

-- where no mark is set, none is counted
none_dead : (d : ℕ) (s : List ℕ) (e : ℕ) → dead_from d s e ≡ false → count_dead d s e ≡ 0
unfolding count_dead dead_from
none_dead zero s e h = refl
none_dead (suc d) s e h =
    elim (ℕ_discrete (mark_at s e) 1) [
      | yes q ↦ absurd (false≢true (sym h ∙ rw (eq-eqb (mark_at s e) 1 q)))
      | no q ↦ let rest = none_dead d s (e + 1) (right (mark_at s e == 1) (dead_from d s (e + 1)) h) in omega arith
    ]
  where
    right : (a b : Bool) → (a || b) ≡ false → b ≡ false
    right true b h = absurd (false≢true (sym h))
    right false b h = h

-- the bits past the last of n edges are unused
pub unused_none : (s : List ℕ) (n : ℕ) → n ≤ 8 * length s → dead_from (8 * length s - n) s n ≡ false → count_dead (8 * length s) s 0 ≡ count_dead n s 0
unused_none s n l h =
    let k : 8 * length s ≡ n + (8 * length s - n) = omega arith in
    let z = none_dead (8 * length s - n) s n h in
    ap (λ (t : ℕ). count_dead t s 0) k ∙ dead_append n (8 * length s - n) s 0
    ∙ ap (λ (t : ℕ). count_dead n s 0 + count_dead (8 * length s - n) s t) (zero-add n) ∙ ap (λ (t : ℕ). count_dead n s 0 + t) z ∙ add-zero _

-- without tombstones every edge is live
pub unmarked : (n e : ℕ) → count_dead n [] e ≡ 0
unfolding count_dead
unmarked zero e = refl
unmarked (suc n) e = let rest = unmarked n (e + 1) in let z = mark_none [] e (omega arith) in omega arith
