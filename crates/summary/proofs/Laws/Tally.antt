-- The pass over the groups: degrees one by one, each into its bucket. p the partners, o the offsets of w bytes each.
use Rattle.std.specs.Prelude.{◌≡◌, ℕ, zero, suc, ◌+◌, ◌-◌, ◌<◌, ◌≤◌, Bool, true, false, List, [], ◌∷◌, length, replicate, ◌≢◌, nat_lt, slice_index, slice_index_or, slice_set, refl, Ok, Err}
use Prim.Native.Nat.{max}
use Rattle.std.proofs.Math.Decide.{dec_lt}
use Rattle.std.proofs.Math.Path.{sym, ap}
use Rattle.std.proofs.Common.{ap₂, ◌∙◌, zero-add, add-zero, lt-ltb, le-ltb, get_or-set_same, get_or-set_other}
use Rattle.std.proofs.Math.Nat.{sub-zero}
use native.Mathlib.Omega.{arith}
use Rattle.std.proofs.Math.Decide.{ℕ_discrete}
use Rattle.std.proofs.Math.ListN.{length-set}
use Rattle.std.proofs.lemmas.List.{get_or-replicate}
use Rattle.std.proofs.Math.Seq.{ext_get_or}
use Rattle.base.specs.Pick.{pick}
use Rattle.base.specs.Over.{part}
use Rattle.codes.specs.declared.varint.Unread.{Unread}
use Rattle.codes.specs.Varint.{varint_at, Varint}
use Rattle.frame.specs.Open.{offset_at}
use Rattle.index.specs.Order.{OffsetsRise}
use Rattle.degrees.specs.Degrees.{group_at}
use Rattle.group.specs.Group.{degree_of}
use Rattle.summary.specs.Summary.{largest, in_bucket, bucket, buckets_of}
use Rattle.summary.proofs.Laws.Summary.{bucket_once, bucket_at, length_buckets}
use Rattle.summary.specs.Tally.{degree_told, tally_of, degrees_at}

-- the larger of two numbers
pub max_is : (x y : ℕ) → max x y ≡ pick (nat_lt x y) y x
max_is x y = elim (dec_lt x y) [ yes h ↦ rw (lt-ltb x y h) (omega arith) | no h ↦ rw (le-ltb x y (omega arith)) (omega arith) ]

pub told_is : (x : Varint) (d next : ℕ) → x ≡ Ok (d, next) → d ≡ degree_told x
unfolding degree_told
told_is x d next e = sym (ap degree_told e)

-- a group's, as it is read
pub degree_is : (g : List ℕ) (d next : ℕ) → varint_at g 0 ≡ Ok (d, next) → d ≡ degree_told (degree_of g)
unfolding degree_of
degree_is g d next e = told_is (varint_at g 0) d next e

pub degree_bad : (g : List ℕ) (why : Unread) → varint_at g 0 ≡ Err why → 0 ≡ degree_told (degree_of g)
unfolding degree_of degree_told
degree_bad g why e = sym (ap degree_told e)

pub length_degrees_at : (p o : List ℕ) (w d i : ℕ) → length (degrees_at p o w d i) ≡ d
unfolding degrees_at
length_degrees_at p o w zero i = refl
length_degrees_at p o w (suc d) i = ap suc (length_degrees_at p o w d (i + 1))

pub degrees_at_at : (p o : List ℕ) (w d i j : ℕ) → j < d → slice_index (degrees_at p o w d i) j ≡ degree_told (degree_of (group_at p o w (i + j)))
unfolding degrees_at
degrees_at_at p o w zero i j h = absurd (omega arith)
degrees_at_at p o w (suc d) i zero h = ap (λ (t : ℕ). degree_told (degree_of (group_at p o w t))) (sym (add-zero i))
degrees_at_at p o w (suc d) i (suc j) h =
    let k : i + 1 + j ≡ i + suc j = omega arith in
    degrees_at_at p o w d (i + 1) j (omega arith) ∙ ap (λ (t : ℕ). degree_told (degree_of (group_at p o w t))) k

-- ---- a degree more

bucket_le : (j : ℕ) (ds : List ℕ) → bucket j ds ≤ length ds
unfolding bucket
bucket_le j [] = omega arith
bucket_le j (d ∷ ds) = let h = bucket_le j ds in go (in_bucket j d) h
  where
    go : (b : Bool) → bucket j ds ≤ length ds → pick b 1 0 + bucket j ds ≤ suc (length ds)
    go true h = omega arith
    go false h = omega arith

-- the buckets bs count a degree d of bucket b, and no other bucket does
pub counted : (bs : List ℕ) (d b : ℕ) → b < length bs → in_bucket b d ≡ true → (j : ℕ) → slice_index (slice_set bs b (slice_index bs b + 1)) j ≡ slice_index bs j + pick (in_bucket j d) 1 0
counted bs d b lt q j = elim (ℕ_discrete j b) [
  | yes e ↦ rw (e, get_or-set_same bs b (slice_index bs b + 1) 0 lt, q)
  | no e ↦ rw (get_or-set_other bs b j (slice_index bs b + 1) 0 e, other (in_bucket j d) refl e) (sym (add-zero (slice_index bs j)))
]
  where
    other : (t : Bool) → in_bucket j d ≡ t → (j ≢ b) → in_bucket j d ≡ false
    other true p n = absurd (n (bucket_once j b d p q))
    other false p n = p

-- ---- i of n groups are passed, and the next begins at a: `high` is the largest degree so far, bs the buckets

module _ (p o : List ℕ) (w n : ℕ) where
  abbrev rest : ℕ → List ℕ
  rest i = degrees_at p o w (n - i) i

  pub record Tallying (high : ℕ) (bs : List ℕ) (a i : ℕ) : Type 0 where
    pub most : i ≤ n
    pub place_is : a ≡ offset_at o w i
    pub size : length bs ≡ 64
    pub counts : (j : ℕ) → j < 64 → slice_index bs j + bucket j (rest i) ≡ bucket j (degrees_at p o w n 0)
    pub highest : largest high (rest i) ≡ largest 0 (degrees_at p o w n 0)

  pub tallying_start : offset_at o w 0 ≡ 0 → Tallying 0 (replicate 64 0) 0 0
  tallying_start z = record {
    most = omega arith;
    place_is = sym z;
    size = refl;
    counts = λ j l. rw (get_or-replicate {A = ℕ} 64 j 0 0 l, sub-zero n) (zero-add _);
    highest = rw sub-zero;
  }

  module _ (high : ℕ) (bs : List ℕ) (a i : ℕ) (h : Tallying high bs a i) where
    -- no bucket counts more than all groups
    pub tallying_few : (j : ℕ) → j < 64 → slice_index bs j ≤ n
    tallying_few j l = let c = h.counts j l in let b = bucket_le j (degrees_at p o w n 0) in let k = length_degrees_at p o w n 0 in omega arith

    -- the group lies within the partners
    pub tallying_lies : OffsetsRise o w n (length p) → i < n → {e : ℕ} → e ≡ offset_at o w (i + 1) → (a ≤ e) × (e ≤ length p)
    tallying_lies up lt q =
        let at = h.place_is in
        let rise = up.above i lt in
        let end = up.within (i + 1) (omega arith) in
        (omega arith, omega arith)

    module _ (lt : i < n) (e d : ℕ) (q : e ≡ offset_at o w (i + 1)) (r : d ≡ degree_told (degree_of (part p a e))) where
      -- the degree of group i
      pub tallying_degree : d ≡ degree_told (degree_of (group_at p o w i))
      tallying_degree = r ∙ ap₂ (λ (x y : ℕ). degree_told (degree_of (part p x y))) h.place_is q

      next : rest i ≡ d ∷ rest (i + 1)
      unfolding degrees_at
      next =
          let more : n - i ≡ suc (n - (i + 1)) = omega arith in
          ap (λ (t : ℕ). degrees_at p o w t i) more ∙ ap (λ (t : ℕ). t ∷ degrees_at p o w (n - (i + 1)) (i + 1)) (sym tallying_degree)

      pub tallying_on : {high' : ℕ} (b : ℕ) → b < 64 → in_bucket b d ≡ true → high' ≡ pick (nat_lt high d) d high
          → Tallying high' (slice_set bs b (slice_index bs b + 1)) e (i + 1)
      unfolding bucket largest
      tallying_on b l m u = let size = h.size in record {
        most = omega arith;
        place_is = q;
        size = length-set bs b (slice_index bs b + 1) ∙ size;
        counts = λ j k.
            let c : slice_index_or bs j 0 + bucket j (d ∷ rest (i + 1)) ≡ bucket j (degrees_at p o w n 0) = ap (λ (t : List ℕ). slice_index bs j + bucket j t) (sym next) ∙ h.counts j k in
            let one = counted bs d b (omega arith) m j in
            omega arith;
        highest = ap (λ (t : ℕ). largest t (rest (i + 1))) u ∙ ap (λ (t : List ℕ). largest high t) (sym next) ∙ h.highest;
      }

    pub tallying_end : n ≤ i → record { largest = high; buckets = bs } ≡ tally_of (degrees_at p o w n 0)
    unfolding tally_of degrees_at bucket largest
    tallying_end le =
        let none : n - i ≡ 0 = omega arith in
        let all : List ℕ = degrees_at p o w n 0 in
        let top : high ≡ largest 0 all = ap (λ (t : ℕ). largest high (degrees_at p o w t i)) (sym none) ∙ h.highest in
        let same : bs ≡ buckets_of all =
        ext_get_or 0 bs (buckets_of all) (h.size ∙ sym (length_buckets 64 0 all)) (λ j l.
        let size = h.size in
        let k : j < 64 = omega arith in
        sym (add-zero (slice_index bs j)) ∙ ap (λ (t : ℕ). slice_index bs j + bucket j (degrees_at p o w t i)) (sym none) ∙ h.counts j k
        ∙ sym (bucket_at 64 0 all j k ∙ ap (λ (t : ℕ). bucket t all) (zero-add j))) in
        λ j. record { largest = top j; buckets = same j }
