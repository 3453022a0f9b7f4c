-- The full check by its ways out, as the code meets them.
use Rattle.std.specs.Prelude.{◌≡◌, ℕ, suc, ◌+◌, ◌-◌, ◌≤◌, ◌<◌, Bool, ◌&&◌, ◌||◌, eqb, leb, Result, Ok, Err}
use Rattle.std.proofs.Math.Path.{refl, sym, ap}
use Rattle.std.proofs.Common.{ap₂, ◌∙◌, zero-add, eq-eqb, ne_eqb, leb-true}
use Rattle.std.proofs.Math.Nat.{sub-zero, add-zero}
use native.Mathlib.Omega.{arith}
use mathlib.Core.List.{List, [], ◌∷◌}
use Rattle.std.proofs.Math.Bool.{true, false, not}
use Rattle.std.proofs.Math.ListN.{length}
use Rattle.base.specs.Pick.{pick}
use Rattle.xxh3_spec.specs.Xxh3.{xxh3}
use Rattle.refusal.proofs.Laws.Check.{pick_fine, and_parts}
use Rattle.frame.specs.declared.Row.{Row}
use Rattle.frame.specs.Kind as kind
use Rattle.frame.specs.Frame.{row_at, rows_from, end_from, rows_of, foot_len, body_of, range_of, range_good, ranges}
use Rattle.frame.proofs.Laws.Frame.{rows_on, end_on, rows_none}
use Rattle.frame.specs.Open.Laws.{Frames}
use Rattle.base.specs.Over.{part, length_part}
use Rattle.codes.specs.declared.ids.Id.{Id}
use Rattle.refusal.specs.declared.Refusal.{Refusal}
use Rattle.refusal.specs.Check.{◌⊳◌, Check}
use Rattle.frame.specs.Open.{bytes_at, offset_at, start_at}
use Rattle.index.specs.Order.{OffsetsRise}
use Rattle.group.specs.declared.fault.Fault.{Fault}
use Rattle.group.specs.Fault.{refusal_of}
use Rattle.group.specs.Group.{Decoded, good, group_of, partners_of, verdict_of}
use Rattle.group.proofs.Laws.Group.{answered_good, answered_bad}
use Rattle.group.proofs.Laws.Good.{group_length}
use Rattle.lookup.specs.Lookup.{group_check}
use Rattle.lookup.proofs.Laws.Groups.{check_fine, check_bad}
use Rattle.full_check.specs.declared.groups.Groups.{Groups}
use Rattle.full_check.specs.Full.{sum_good, sums_from, dense_of, group_in, groups_from, degrees_from, dense_from, stray_from, groups_told, groups_seen}

-- ---- the sums: k entries are passed, the next is at i of the footer body b

-- each section ends within so many bytes
unfoldable pub RowsWithin : ℕ → List Row → Type 0
RowsWithin size [] = Unit {0}
RowsWithin size (r ∷ rs) = (r.start + r.len ≤ size) × RowsWithin size rs

pub ranges_within : (size limit : ℕ) (rs : List Row) (floor k : ℕ) → limit ≤ size → ranges limit rs floor k ≡ (Ok tt) → RowsWithin size rs
unfolding ranges RowsWithin
ranges_within size limit [] floor k h e = tt
ranges_within size limit (r ∷ rs) floor k h e =
    let p = pick_fine (range_good limit floor r) (ranges limit rs (r.start + r.len) (k + 1)) (Refusal.Range k) e in
    let w = and_parts (leb floor r.start) (leb (r.start + r.len) limit) p.0 in
    let end = leb-true (r.start + r.len) limit w.1 in
    (omega arith, ranges_within size limit rs (r.start + r.len) (k + 1) h p.1)

module _ (f b : List ℕ) (count : ℕ) where
  pub record Summed (i k : ℕ) : Type 0 where
    pub most : k ≤ count
    pub end : end_from (count - k) b i ≡ end_from count b 2
    pub within : RowsWithin (length f) (rows_from (count - k) b i)
    pub check : sums_from f (rows_from (count - k) b i) k ≡ sums_from f (rows_from count b 2) 0

  pub summed_start : RowsWithin (length f) (rows_from count b 2) → Summed 2 0
  summed_start w = record { most = omega arith; end = rw sub-zero refl; within = rw sub-zero w; check = rw sub-zero refl }

  module _ (i k : ℕ) (h : Summed i k) (lt : k < count) (r : Row) (e : r ≡ row_at b i) where
    rows : rows_from (count - k) b i ≡ r ∷ rows_from (count - (k + 1)) b (i + 28 + r.namelen)
    rows = rows_on b count i k lt r e

    pub summed_within : r.start + r.len ≤ length f
    unfolding RowsWithin
    summed_within = (rw rows at h.within).0

    others : RowsWithin (length f) (rows_from (count - (k + 1)) b (i + 28 + r.namelen))
    unfolding RowsWithin
    others = (rw rows at h.within).1

    sums_here : sums_from f (rows_from count b 2) 0 ≡ pick (sum_good f r) (sums_from f (rows_from (count - (k + 1)) b (i + 28 + r.namelen)) (k + 1)) (Err (Refusal.Sum k))
    unfolding sums_from
    sums_here = sym h.check ∙ ap (λ (t : List Row). sums_from f t k) rows

    module _ {s : ℕ} (g : s ≡ xxh3 (bytes_at f (range_of r))) where
      pub summed_bad : (s ≡ r.sum → ⊥) → Err (Refusal.Sum k) ≡ sums_from f (rows_from count b 2) 0
      summed_bad n = sym (sums_here ∙ rw (ne_eqb (xxh3 (bytes_at f (range_of r))) r.sum (λ q. n (g ∙ q))))

      pub summed_on : s ≡ r.sum → Summed (i + 28 + r.namelen) (k + 1)
      summed_on n = record {
        most = omega arith;
        end = sym (end_on b count i k lt r e) ∙ h.end;
        within = others;
        check = sym (sums_here ∙ rw (eq-eqb (xxh3 (bytes_at f (range_of r))) r.sum (sym g ∙ n)));
      }

  pub summed_end : (i k : ℕ) → Summed i k → count ≤ k → (Ok tt) ≡ sums_from f (rows_from count b 2) 0
  unfolding sums_from
  summed_end i k h le = ap (λ (t : List Row). sums_from f t k) (sym (rows_none b count i k le)) ∙ h.check

-- the sections of a file whose frame is good lie within it
pub frames_inside : (f : List ℕ) → Frames f → RowsWithin (length f) (rows_of (body_of f))
frames_inside f s = ranges_within (length f) (length f - foot_len f) (rows_of (body_of f)) kind.header_size 0 (omega arith) s.apart

-- ---- a group by its answer

-- a good answer is that of partners
pub record Answered (g : Decoded) (d : ℕ) (dense : Bool) : Type 0 where
  pub partners : List Id
  pub is : g ≡ good dense partners
  pub count : length partners ≡ d
  pub degree : length (partners_of g) ≡ d
  pub kind : dense_of g ≡ dense

pub answered : (g : Decoded) (d : ℕ) (dense : Bool) → verdict_of g ≡ Ok (record { degree = d; dense = dense }) → Answered g d dense
unfolding dense_of
answered g d dense e =
    let (is, ok, count) = answered_good g d dense e in
    record { partners = partners_of g; is = is; count = count; degree = count; kind = ap dense_of is }

-- ---- the pass over n groups: i of them are passed, the next begins at a

module _ (p o : List ℕ) (w n : ℕ) (there : Bool) (starts : List ℕ) where
  pub record Walk (i a edges : ℕ) (dense stray : Bool) : Type 0 where
    pub most : i ≤ n
    pub place : a ≡ offset_at o w i
    pub few : edges ≤ a
    pub check : groups_from p o w (n - i) i ≡ groups_from p o w n 0
    pub sum : edges + degrees_from p o w (n - i) i ≡ degrees_from p o w n 0
    pub thick : (dense || dense_from p o w (n - i) i) ≡ dense_from p o w n 0
    pub apart : (stray || (there && stray_from p o w starts (n - i) i edges)) ≡ (there && stray_from p o w starts n 0 0)

  pub walk_start : OffsetsRise o w n (length p) → Walk 0 0 0 false false
  walk_start z = record {
    most = omega arith;
    place = sym z.first;
    few = omega arith;
    check = ap (λ (t : ℕ). groups_from p o w t 0) (sub-zero n);
    sum = zero-add _ ∙ ap (λ (t : ℕ). degrees_from p o w t 0) (sub-zero n);
    thick = ap (λ (t : ℕ). dense_from p o w t 0) (sub-zero n);
    apart = ap (λ (t : ℕ). there && stray_from p o w starts t 0 0) (sub-zero n);
  }

  module _ (z : OffsetsRise o w n (length p)) (i a edges : ℕ) (dense stray : Bool) (h : Walk i a edges dense stray) (lt : i < n) where
    left : n - i ≡ suc (n - (i + 1))
    left = omega arith

    -- there is room for a group
    pub walk_rises : {e : ℕ} → e ≡ offset_at o w (i + 1) → (a ≤ e) × (e ≤ length p)
    walk_rises q = let place = h.place in let up = z.above i lt in let end = z.within (i + 1) (omega arith) in (omega arith, omega arith)

    module _ {e : ℕ} (q : e ≡ offset_at o w (i + 1)) where
      here : group_in p o w i ≡ group_of (part p a e)
      here = ap₂ (λ (x y : ℕ). group_of (part p x y)) (sym h.place) (sym q)

      check_here : groups_from p o w n 0 ≡ group_check i (group_of (part p a e)) ⊳ groups_from p o w (n - (i + 1)) (i + 1)
      unfolding groups_from
      check_here =
          sym h.check ∙ ap (λ (t : ℕ). groups_from p o w t i) left
          ∙ ap (λ (t : Decoded). group_check i t ⊳ groups_from p o w (n - (i + 1)) (i + 1)) here

      sum_here : degrees_from p o w n 0 ≡ edges + (length (partners_of (group_of (part p a e))) + degrees_from p o w (n - (i + 1)) (i + 1))
      unfolding degrees_from
      sum_here =
          sym h.sum ∙ ap (λ (t : ℕ). edges + degrees_from p o w t i) left
          ∙ ap (λ (t : Decoded). edges + (length (partners_of t) + degrees_from p o w (n - (i + 1)) (i + 1))) here

      thick_here : dense_from p o w n 0 ≡ (dense || (dense_of (group_of (part p a e)) || dense_from p o w (n - (i + 1)) (i + 1)))
      unfolding dense_from
      thick_here =
          sym h.thick ∙ ap (λ (t : ℕ). dense || dense_from p o w t i) left
          ∙ ap (λ (t : Decoded). dense || (dense_of t || dense_from p o w (n - (i + 1)) (i + 1))) here

      apart_here : (there && stray_from p o w starts n 0 0)
          ≡ (stray || (there && (not (eqb (start_at starts i) edges) || stray_from p o w starts (n - (i + 1)) (i + 1) (edges + length (partners_of (group_of (part p a e)))))))
      unfolding stray_from
      apart_here =
          sym h.apart ∙ ap (λ (t : ℕ). stray || (there && stray_from p o w starts t i edges)) left
          ∙ ap (λ (t : Decoded). stray || (there && (not (eqb (start_at starts i) edges) || stray_from p o w starts (n - (i + 1)) (i + 1) (edges + length (partners_of t))))) here

      pub walk_bad : (f : Fault) → verdict_of (group_of (part p a e)) ≡ Err f → groups_seen p o w n there starts ≡ Err (refusal_of i f)
      unfolding groups_seen groups_told
      walk_bad f g = rw (check_here, answered_bad (group_of (part p a e)) f g, check_bad i f)

      module _ (d : ℕ) (b : Bool) (g : verdict_of (group_of (part p a e)) ≡ Ok (record { degree = d; dense = b })) where
        -- each partner has nine bytes or more
        pub walk_few : edges + d ≤ e
        walk_few =
            let s = answered (group_of (part p a e)) d b g in
            let long = group_length (part p a e) b s.partners s.is in
            let count = s.count in
            let room = walk_rises q in
            let size = length_part p a e room.1 in
            let few = h.few in
            omega arith

        pub walk_on : {c v : Bool} → c ≡ (dense || b) → v ≡ (stray || (there && not (eqb (start_at starts i) edges))) → Walk (i + 1) e (edges + d) c v
        walk_on {c} {v} k l =
            let s = answered (group_of (part p a e)) d b g in
            let sums = sum_here in
            let degree = s.degree in
            record {
              most = omega arith;
              place = q;
              few = walk_few;
              check = sym (check_here ∙ ap (λ (t : Check). t ⊳ groups_from p o w (n - (i + 1)) (i + 1)) (ap (group_check i) s.is ∙ check_fine i b s.partners));
              sum = omega arith;
              thick = sym
                  (thick_here
                  ∙ ap (λ (t : Bool). dense || (t || dense_from p o w (n - (i + 1)) (i + 1))) s.kind
                  ∙ either_assoc dense b (dense_from p o w (n - (i + 1)) (i + 1))
                  ∙ ap (λ (t : Bool). t || dense_from p o w (n - (i + 1)) (i + 1)) (sym k));
              apart = sym
                  (apart_here
                  ∙ ap (λ (t : ℕ). stray || (there && (not (eqb (start_at starts i) edges) || stray_from p o w starts (n - (i + 1)) (i + 1) (edges + t)))) degree
                  ∙ over_both stray there (not (eqb (start_at starts i) edges)) (stray_from p o w starts (n - (i + 1)) (i + 1) (edges + d))
                  ∙ ap (λ (t : Bool). t || (there && stray_from p o w starts (n - (i + 1)) (i + 1) (edges + d))) (sym l));
            }
          where
            either_assoc : (x y v : Bool) → (x || (y || v)) ≡ ((x || y) || v)
            either_assoc true y v = refl
            either_assoc false y v = refl

            over_both : (x b y v : Bool) → (x || (b && (y || v))) ≡ ((x || (b && y)) || (b && v))
            over_both true b y v = refl
            over_both false true y v = refl
            over_both false false y v = refl

  pub walk_end : (i a edges : ℕ) (dense stray : Bool) → Walk i a edges dense stray → n ≤ i → {v : Bool} → v ≡ (stray || (there && not (eqb (start_at starts n) edges)))
      → Ok (record { edges = edges; dense = dense; stray = v }) ≡ groups_seen p o w n there starts
  unfolding groups_seen groups_told groups_from degrees_from dense_from stray_from
  walk_end i a edges dense stray h le l =
      let none : n - i ≡ 0 = omega arith in
      let c : groups_from p o w n 0 ≡ (Ok tt) = sym h.check ∙ ap (λ (t : ℕ). groups_from p o w t i) none in
      let s : degrees_from p o w n 0 ≡ edges = sym h.sum ∙ ap (λ (t : ℕ). edges + degrees_from p o w t i) none ∙ add-zero edges in
      let t : dense_from p o w n 0 ≡ dense = sym h.thick ∙ ap (λ (u : ℕ). dense || dense_from p o w u i) none ∙ or_false dense in
      let last : i ≡ n = let most = h.most in omega arith in
      let u : (there && stray_from p o w starts n 0 0) ≡ (stray || (there && not (eqb (start_at starts n) edges))) =
      sym h.apart ∙ ap (λ (x : ℕ). stray || (there && stray_from p o w starts x i edges)) none ∙ ap (λ (x : ℕ). stray || (there && not (eqb (start_at starts x) edges))) last in
      rw (c, s, t, u) (ap (told edges dense) l)
    where
      told : ℕ → Bool → Bool → Result Groups Refusal
      told e b v = Ok (record { edges = e; dense = b; stray = v })

      or_false : (b : Bool) → (b || false) ≡ b
      or_false true = refl
      or_false false = refl
