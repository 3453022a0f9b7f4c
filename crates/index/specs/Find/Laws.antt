-- The laws of the search: by its cases, and what its answer says.
use Rattle.std.specs.Prelude.{◌≡◌, List}
use Rattle.std.proofs.Math.Path.{refl}
use Rattle.std.proofs.Common.{sym, ap, ◌∙◌, arith, pow-suc, lt-ltb, le-ltb}
use Prim.Native.Nat.{ℕ, zero, suc, ◌+◌, ◌-◌, ◌*◌, ◌^◌, ◌≤◌, ◌<◌}
use Rattle.std.proofs.Math.Decide.{dec_lt}
use Rattle.std.specs.declared.cmp.Ordering.{Ordering}
use Rattle.codes.specs.Ids.{order}
use Rattle.codes.specs.Ids.Laws.{less, greater, equal}
use Rattle.frame.specs.Open.{key_at}
use Rattle.index.specs.Compare.{tri}
use Rattle.index.specs.Order.{KeysRise, key_before, key_once}
use Rattle.index.specs.declared.keys.Found.{Found}
use Rattle.index.specs.Find.{middle, narrowed, find_from, find_in, compared_of}

-- ---- by its cases

module _ (s : List ℕ) (k low high c : ℕ) where
  from_none : (d : ℕ) → high ≤ low → find_from d s k low high c ≡ Found.Absent c
  unfolding find_from
  from_none zero h = refl
  from_none (suc d) h = simp (le-ltb low high h)

  module _ (d : ℕ) (h : low < high) where
    from_some : (o : Ordering) → order (key_at s (middle low high)) k ≡ o
        → find_from (suc d) s k low high c ≡ narrowed o (find_from d s k (middle low high + 1) high (c + 1))
        (Found.At (middle low high) (c + 1)) (find_from d s k low (middle low high) (c + 1))
    unfolding find_from
    from_some o e = simp (lt-ltb low high h, e)

    from_less : order (key_at s (middle low high)) k ≡ Ordering.Less → find_from (suc d) s k low high c ≡ find_from d s k (middle low high + 1) high (c + 1)
    unfolding narrowed
    from_less e = from_some Ordering.Less e

    from_equal : order (key_at s (middle low high)) k ≡ Ordering.Equal → find_from (suc d) s k low high c ≡ Found.At (middle low high) (c + 1)
    unfolding narrowed
    from_equal e = from_some Ordering.Equal e

    from_greater : order (key_at s (middle low high)) k ≡ Ordering.Greater → find_from (suc d) s k low high c ≡ find_from d s k low (middle low high) (c + 1)
    unfolding narrowed
    from_greater e = from_some Ordering.Greater e

-- ---- as a loop meets them: c keys have been compared, and the turns that are left give the whole answer

abbrev pub Between : List ℕ → ℕ → ℕ → ℕ → ℕ → ℕ → Type 0
Between s n k low high c = (d : ℕ) × (high - low ≤ d) × (find_from d s k low high c ≡ find_in s n k)

pub search_start : (s : List ℕ) (n k : ℕ) → Between s n k 0 n 0
unfolding find_in
search_start s n k = (n, omega arith, refl)

module _ (s : List ℕ) (n k low high c : ℕ) (l : Between s n k low high c) where
  pub search_end : high ≤ low → Found.Absent c ≡ find_in s n k
  search_end h = sym (from_none s k low high c l.0 h) ∙ l.2

  module _ (h : low < high) where
    some : find_from (suc (l.0 - 1)) s k low high c ≡ find_in s n k
    some = let m = l.1 in let e : l.0 ≡ suc (l.0 - 1) = omega arith in (rw e at l.2)

    pub search_above : order (key_at s (middle low high)) k ≡ Ordering.Less → Between s n k (middle low high + 1) high (c + 1)
    search_above e = let m = l.1 in (l.0 - 1, omega arith, sym (from_less s k low high c (l.0 - 1) h e) ∙ some)

    pub search_here : order (key_at s (middle low high)) k ≡ Ordering.Equal → Found.At (middle low high) (c + 1) ≡ find_in s n k
    search_here e = sym (from_equal s k low high c (l.0 - 1) h e) ∙ some

    pub search_below : order (key_at s (middle low high)) k ≡ Ordering.Greater → Between s n k low (middle low high) (c + 1)
    search_below e = let m = l.1 in (l.0 - 1, omega arith, sym (from_greater s k low high c (l.0 - 1) h e) ∙ some)

-- ---- the count

-- fewer than 2 ^ j keys take at most j comparisons
bound_step : (j d : ℕ) (s : List ℕ) (k : ℕ) → ((low high c : ℕ) → high - low < 2 ^ j → compared_of (find_from d s k low high c) ≤ c + j)
    → (low high c : ℕ) → low < high → high - low < 2 ^ suc j → compared_of (find_from (suc d) s k low high c) ≤ c + suc j
unfolding compared_of
bound_step j d s k ih low high c h b =
    let b' : high - low < 2 ^ j * 2 = rw pow-suc at b in
    tri (key_at s (middle low high)) k
    (λ lt. rw (from_less s k low high c d h (less lt)) (omega (arith, ih (middle low high + 1) high (c + 1) (omega arith))))
    (λ e. rw (from_equal s k low high c d h (equal e)) (omega arith))
    (λ gt. rw (from_greater s k low high c d h (greater gt)) (omega (arith, ih low (middle low high) (c + 1) (omega arith))))

bound_from : (j d : ℕ) (s : List ℕ) (k low high c : ℕ) → high - low < 2 ^ j → compared_of (find_from d s k low high c) ≤ c + j
unfolding compared_of find_from
bound_from j zero s k low high c b = omega arith
bound_from zero (suc d) s k low high c b = rw (from_none s k low high c (suc d) (omega arith)) (omega arith)
bound_from (suc j) (suc d) s k low high c b =
    let ih = bound_from j d s k in
    elim (dec_lt low high) [
      | yes h ↦ bound_step j d s k ih low high c h b
      | no h ↦ rw (from_none s k low high c (suc d) (omega arith)) (omega arith)
    ]

-- "at most 25, and 0 for no keys"
pub find_bound : (s : List ℕ) (n k : ℕ) → n ≤ 2 ^ 24 → compared_of (find_in s n k) ≤ 25
unfolding find_in
find_bound s n k h = omega (arith, bound_from 25 n s k 0 n 0 (omega arith))

pub find_none : (s : List ℕ) (k : ℕ) → find_in s 0 k ≡ Found.Absent 0
unfolding find_in find_from
find_none s k = refl

-- ---- what is found is the key

sound_from : (d : ℕ) (s : List ℕ) (k low high c i e : ℕ) → find_from d s k low high c ≡ Found.At i e → (i < high) × (key_at s i ≡ k)
unfolding find_from
sound_from zero s k low high c i e q = let z : ◌≡◌ {A = ℕ} 0 1 = cc in omega arith
sound_from (suc d) s k low high c i e q =
    let ih = sound_from d s k in
    elim (dec_lt low high) [
      | yes h ↦
          tri (key_at s (middle low high)) k
          (λ lt. ih (middle low high + 1) high (c + 1) i e (sym (from_less s k low high c d h (less lt)) ∙ q))
          (λ eq. let r : Found.At (middle low high) (c + 1) ≡ Found.At i e = sym (from_equal s k low high c d h (equal eq)) ∙ q in
          let v : middle low high ≡ i = cc in (omega arith, (rw v at eq)))
          (λ gt. let r = ih low (middle low high) (c + 1) i e (sym (from_greater s k low high c d h (greater gt)) ∙ q) in (omega arith, r.1))
      | no h ↦
          let r : Found.Absent c ≡ Found.At i e = sym (from_none s k low high c (suc d) (omega arith)) ∙ q in
          let z : ◌≡◌ {A = ℕ} 0 1 = cc in omega arith
    ]

pub find_sound : (s : List ℕ) (n k i c : ℕ) → find_in s n k ≡ Found.At i c → (i < n) × (key_at s i ≡ k)
unfolding find_in
find_sound s n k i c q = sound_from n s k 0 n 0 i c q

-- ---- of keys that strictly increase, one that is there is found

onto : {a b : Found} {i : ℕ} → a ≡ b → (c : ℕ) × (b ≡ Found.At i c) → (c : ℕ) × (a ≡ Found.At i c)
onto p r = (r.0, p ∙ r.1)

module _ (s : List ℕ) (n : ℕ) (up : KeysRise s n) where
  complete_from : (d low high c i : ℕ) → high - low ≤ d → high ≤ n → low ≤ i → i < high
      → (e : ℕ) × (find_from d s (key_at s i) low high c ≡ Found.At i e)
  complete_from zero low high c i b hn li ih = absurd (omega arith)
  complete_from (suc d) low high c i b hn li ih =
      let k = key_at s i in
      let h : low < high = omega arith in
      tri (key_at s (middle low high)) k
      (λ lt. let above = key_before s n up (middle low high) i (omega arith) lt in
      onto (from_less s k low high c d h (less lt)) (complete_from d (middle low high + 1) high (c + 1) i (omega arith) hn (omega arith) ih))
      (λ eq. let here = key_once s n up (middle low high) i (omega arith) (omega arith) eq in
      (c + 1, from_equal s k low high c d h (equal eq) ∙ ap (λ (t : ℕ). Found.At t (c + 1)) here))
      (λ gt. let below = key_before s n up i (middle low high) (omega arith) gt in
      onto (from_greater s k low high c d h (greater gt)) (complete_from d low (middle low high) (c + 1) i (omega arith) (omega arith) li below))

  pub find_complete : (k i : ℕ) → i < n → key_at s i ≡ k → (c : ℕ) × (find_in s n k ≡ Found.At i c)
  unfolding find_in
  find_complete k i h q = (rw q at (complete_from n 0 n 0 i (omega arith) (omega arith) (omega arith) h))

  -- and one that is not found is not there
  pub find_absent : (k c : ℕ) → find_in s n k ≡ Found.Absent c → (i : ℕ) → i < n → key_at s i ≡ k → ⊥
  find_absent k c q i h is =
      let r = find_complete k i h is in
      let w : Found.At i r.0 ≡ Found.Absent c = sym r.1 ∙ q in
      let z : ◌≡◌ {A = ℕ} 0 1 = cc in omega arith
