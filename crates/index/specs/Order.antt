-- What rules 13, 14 and 37 leave where they are not broken: keys strictly increase, offsets rise from 0 to the partners' length, and
-- the entries of the start index to the edge count.
use Rattle.std.specs.Prelude.{◌≡◌, refl, List, true, not, ◌||◌, ltb, Ok}
use Rattle.std.proofs.Common.{ap, arith}
use Prim.Native.Nat.{ℕ, zero, suc, ◌+◌, ◌-◌, ◌≤◌, ◌<◌}
use Rattle.std.proofs.Math.Dec.{eqb}
use borrow.Author.Tests.{ltb-true, eqb-true, eq-eqb, ne_eqb}
use Rattle.refusal.specs.declared.Refusal.{Refusal}
use Rattle.refusal.proofs.Laws.Check.{pick_fine, and_parts}
use Rattle.frame.specs.Open.{key_at, keys_from, offset_at, offset_good, rising_from}
use Rattle.index.specs.Compare.{tri}
use Rattle.index.specs.Cases.{rising_keys}

-- ---- keys: n of them

abbrev pub KeysRise : List ℕ → ℕ → Type 0
KeysRise s n = (i j : ℕ) → i < j → j < n → key_at s i < key_at s j

-- of d keys from k on, each is above the one before
keys_above : (d : ℕ) (s : List ℕ) (k : ℕ) → keys_from d s k ≡ (Ok tt) → (j : ℕ) → k ≤ j → j < k + d → key_at s (j - 1) < key_at s j
unfolding keys_from
keys_above zero s k e j a b = absurd (omega arith)
keys_above (suc d) s k e j a b =
    let p = pick_fine (ltb (key_at s (k - 1)) (key_at s k)) (keys_from d s (k + 1)) (Refusal.Key k) e in
    let first : key_at s (k - 1) < key_at s k = ltb-true _ _ p.0 in
    let others = keys_above d s (k + 1) p.1 j in
    tri k j (λ lt. others (omega arith) (omega arith)) (λ eq. (rw eq at first)) (λ gt. absurd (omega arith))

pub keys_rise : (s : List ℕ) (n : ℕ) → keys_from (n - 1) s 1 ≡ (Ok tt) → KeysRise s n
keys_rise s n e i zero lt ltn = absurd (omega arith)
keys_rise s n e i (suc j) lt ltn =
    let back : suc j - 1 ≡ j = omega arith in
    let next : key_at s j < key_at s (suc j) = (rw back at (keys_above (n - 1) s 1 e (suc j) (omega arith) (omega arith))) in
    let before = keys_rise s n e i j in
    tri i j (λ l. omega (arith, before l (omega arith))) (λ q. rw q next) (λ g. absurd (omega arith))

-- a smaller key stands before, an equal one is the same
module _ (s : List ℕ) (n : ℕ) (up : KeysRise s n) where
  pub key_before : (i j : ℕ) → i < n → key_at s i < key_at s j → i < j
  key_before i j h lt = tri i j (λ l. l) (λ q. absurd (omega (arith, ap (key_at s) q))) (λ g. absurd (omega (arith, up j i g h)))

  pub key_once : (i j : ℕ) → i < n → j < n → key_at s i ≡ key_at s j → i ≡ j
  key_once i j h g e = tri i j (λ l. absurd (omega (arith, up i j l g))) (λ q. q) (λ l. absurd (omega (arith, up j i l h)))

-- ---- offsets: n + 1 of them, of w bytes, into partners of len bytes; and the entries of the start index, into len edges

pub record OffsetsRise (o : List ℕ) (w n len : ℕ) : Type 0 where
  pub first : offset_at o w 0 ≡ 0
  pub above : (i : ℕ) → i < n → offset_at o w i < offset_at o w (i + 1)
  pub last : offset_at o w n ≡ len
  pub within : (i : ℕ) → i ≤ n → offset_at o w i ≤ len

module _ (told : ℕ → Refusal) (o : List ℕ) (w n len : ℕ) where
  -- of d offsets from i on, each is good
  offsets_good : (d i : ℕ) → rising_from told d o w n len i ≡ (Ok tt) → (j : ℕ) → i ≤ j → j < i + d → offset_good o w n len j ≡ true
  unfolding rising_from
  offsets_good zero i e j a b = absurd (omega arith)
  offsets_good (suc d) i e j a b =
      let p = pick_fine (offset_good o w n len i) (rising_from told d o w n len (i + 1)) (told i) e in
      let others = offsets_good d (i + 1) p.1 j in
      tri i j (λ lt. others (omega arith) (omega arith)) (λ eq. (rw eq at p.0)) (λ gt. absurd (omega arith))

  -- a good offset rises, and a good last one is len
  good_rises : (i : ℕ) → offset_good o w n len i ≡ true → rising_keys o w i ≡ true
  unfolding offset_good
  good_rises i e = (and_parts (rising_keys o w i) (not (eqb i n) || eqb (offset_at o w i) len) e).0

  good_last : offset_good o w n len n ≡ true → offset_at o w n ≡ len
  unfolding offset_good
  good_last e =
      let p = (and_parts (rising_keys o w n) (not (eqb n n) || eqb (offset_at o w n) len) e).1 in
      eqb-true _ _ (rw (eq-eqb n n refl) at p)

  rises_above : (i : ℕ) → rising_keys o w (i + 1) ≡ true → offset_at o w i < offset_at o w (i + 1)
  rises_above i e =
      let d : i + 1 - 1 ≡ i = omega arith in
      ltb-true _ _ (rw (ne_eqb (i + 1) 0 (λ q. omega arith), d) at e)

  -- offset i, d before the last
  within_from : ((i : ℕ) → i < n → offset_at o w i < offset_at o w (i + 1)) → (d i : ℕ) → i + d ≡ n → offset_at o w i ≤ offset_at o w n
  within_from up zero i q = let e : i ≡ n = omega arith in rw e (omega arith)
  within_from up (suc d) i q = omega (arith, up i (omega arith), within_from up d (i + 1) (omega arith))

  pub offsets_rise : rising_from told (n + 1) o w n len 0 ≡ (Ok tt) → OffsetsRise o w n len
  offsets_rise e =
      let good : (i : ℕ) → i ≤ n → offset_good o w n len i ≡ true = λ i h. offsets_good (n + 1) 0 e i (omega arith) (omega arith) in
      let up : (i : ℕ) → i < n → offset_at o w i < offset_at o w (i + 1) = λ i h. rises_above i (good_rises (i + 1) (good (i + 1) (omega arith))) in
      let end : offset_at o w n ≡ len = good_last (good n (omega arith)) in
      record {
        first = eqb-true _ _ (good_rises 0 (good 0 (omega arith)));
        above = up;
        last = end;
        within = λ i h. omega (arith, within_from up (n - i) i (omega arith));
      }
