-- What is wrong with a group, in the documents' words: each fault is told exactly where it is the first in reading order.
use Rattle.std.proofs.Math.Path.{◌≡◌, refl, sym, ap, subst}
use Rattle.std.proofs.Common.{◌∙◌, inl, inr, zero-add, le-leb, leb-true, leb-false}
use Rattle.std.specs.Prelude.{◌↔◌, ◌⊎◌, List, Bool, length, get_or, leb, Result, Ok, Err}
use Rattle.std.proofs.Math.Logic.{⊎_elim}
use Prim.Native.Nat.{ℕ, zero, suc, ◌+◌, ◌-◌, ◌^◌, ◌≤◌, ◌<◌}
use native.Mathlib.Omega.{arith}
use Rattle.std.proofs.Math.Decide.{dec_le, dec_lt, ℕ_discrete}
use Rattle.std.proofs.Math.Bool.{true, false}
use Rattle.std.proofs.lemmas.Bool.{lt-leb}
use Rattle.codes.specs.declared.ids.Id.{Id}
use Rattle.codes.specs.Ids.{id_number}
use Rattle.codes.specs.Varint.{varint_at, Varint}
use Rattle.codes.specs.Varint.Laws.{varint_next}
use Rattle.codes.specs.NoNumber.{no_number}
use Rattle.group.specs.declared.fault.Flaw.{Flaw}
use Rattle.group.specs.declared.fault.Fault.{Fault}
use Rattle.group.specs.declared.head.Head.{Head}
use Rattle.group.specs.Fault.{fault_at}
use Rattle.group.specs.Group.{Decoded, good, bad, split_tag, dense_tag, split_step, step_at, cons, walk_from, degree_of, head_of, group_of, Step}
use Rattle.group.specs.Group.Laws.{Headed}
use Rattle.group.proofs.Laws.Group.{split_unread, split_over, split_short, split_good, dense_short, dense_good, step_split, step_dense, step_next, head_unread, head_none, head_short, head_split, head_dense, head_tag, head_is, head_tagged, head_headed, group_walk, group_bad, walk_end, walk_over, walk_bad, walk_low, walk_more}
use Rattle.group.specs.Wrong.{PartnersRise, ReadSoFar, NextPartner, Wrong}

-- ---- such a fault is told

cons_bad : (p : Id) (f : Fault) {w : Decoded} → w ≡ bad f → cons p w ≡ bad f
unfolding cons
cons_bad p f e = rw e

bad_cons : (p : Id) (w : Decoded) (f : Fault) → cons p w ≡ bad f → w ≡ bad f
unfolding cons
bad_cons p (good dense ps) f e = let z : ◌≡◌ {A = ℕ} 0 1 = cc in absurd (omega arith)
bad_cons p (bad x) f e = e

module _ (dense : Bool) (g : List ℕ) (j h low : ℕ) where
  -- what is wrong after partners that rise is wrong with all
  after_rise : (k i hi floor d : ℕ) (f : Fault) → PartnersRise dense g k i hi floor j h low → walk_from dense d g j h low ≡ bad f → walk_from dense (k + d) g i hi floor ≡ bad f
  unfolding PartnersRise
  after_rise zero i hi floor d f r e =
      ap (λ (t : ℕ). walk_from dense t g i hi floor) (zero-add d)
      ∙ (λ t. walk_from dense d g (r.0 t) (r.1 t) (r.2 t))
      ∙ e
  after_rise (suc k) i hi floor d f r e =
      let p = r.0 in
      let n = r.1 in
      let ih = after_rise k n p.hi (suc (id_number p)) d f r.4 e in
      let count : suc k + d ≡ suc (k + d) = omega arith in
      ap (λ (t : ℕ). walk_from dense t g i hi floor) count
      ∙ walk_more dense g i hi floor (k + d) p n r.2 (le-leb floor (id_number p) r.3)
      ∙ cons_bad p f ih

module _ (g : List ℕ) where
  headed_head : (dense : Bool) (d i : ℕ) → Headed g dense d i → head_of g ≡ head_is dense d i
  unfolding degree_of
  headed_head dense d i h = head_tagged dense g d h.tag h.degree h.some h.within h.tagged ∙ ap (head_is dense d) (sym h.place)

  module _ (dense : Bool) (b hi low : ℕ) where
    before_bad : (degree read left : ℕ) (f : Fault) → ReadSoFar g dense b hi low degree read → degree ≡ read + left → walk_from dense left g b hi low ≡ bad f → group_of g ≡ bad f
    before_bad degree read left f s count e =
        group_walk g dense degree s.payload (headed_head dense degree s.payload s.head)
        ∙ ap (λ (t : ℕ). walk_from dense t g s.payload 0 0) count
        ∙ after_rise dense g b hi low read s.payload 0 0 left f s.rise e

    next_bad : (f : Fault) → NextPartner g dense b hi low → ((d : ℕ) → walk_from dense (suc d) g b hi low ≡ bad f) → group_of g ≡ bad f
    next_bad f n e =
        let (d, count) = after n.degree n.read n.more in
        before_bad n.degree n.read (suc d) f n.before count (e d)
      where
        after : (m k : ℕ) → k < m → (d : ℕ) × (m ≡ k + suc d)
        after m k lt = (m - (k + 1), omega arith)

  wrong_told : (w : Flaw) (b : ℕ) → Wrong g w b → group_of g ≡ bad (fault_at w b)
  unfolding Wrong
  wrong_told Flaw.Tag b u = group_bad g (fault_at Flaw.Tag b) (head_tag g u.degree b u.read u.some u.within u.split u.dense)
  wrong_told (Flaw.Number why) b u =
      ⊎_elim
      (λ t. group_bad g (fault_at (Flaw.Number why) 0) (head_unread g why ((no_number g 0 why).1 t.1)) ∙ ap (λ (i : ℕ). bad (fault_at (Flaw.Number why) i)) (sym t.0))
      (λ n.
      next_bad false b n.hi n.low (fault_at (Flaw.Number why) b) n.next
      (λ d. walk_bad false g b n.hi n.low d (fault_at (Flaw.Number why) b) (step_split g b n.hi ∙ split_unread g b n.hi why ((no_number g b why).1 n.unread))))
      u
  wrong_told Flaw.Degree b u =
      group_bad g (fault_at Flaw.Degree 0) (head_none g 0 u.1.0 u.1.1 refl) ∙ ap (λ (i : ℕ). bad (fault_at Flaw.Degree i)) (sym u.0)
  wrong_told Flaw.Order b n =
      next_bad n.dense b n.hi n.low (fault_at Flaw.Order b) n.next
      (λ d. walk_low n.dense g b n.hi n.low d n.partner n.after n.read (lt-leb n.low (id_number n.partner) n.under))
  wrong_told Flaw.Upper b n =
      next_bad false b n.hi n.low (fault_at Flaw.Upper b) n.next
      (λ d. walk_bad false g b n.hi n.low d (fault_at Flaw.Upper b) (step_split g b n.hi ∙ split_over g b n.hi n.difference n.after n.read n.passes))
  wrong_told Flaw.Cut b u =
      ⊎_elim (λ t. group_bad g (fault_at Flaw.Cut b) (head_short g t.degree b t.read t.some t.none))
      (⊎_elim
      (λ n.
      next_bad false b n.hi n.low (fault_at Flaw.Cut b) n.next
      (λ d. walk_bad false g b n.hi n.low d (fault_at Flaw.Cut b) (step_split g b n.hi ∙ split_short g b n.hi n.difference n.after n.read n.fits n.short)))
      (λ n.
      next_bad true b n.hi n.low (fault_at Flaw.Cut b) n.next
      (λ d. walk_bad true g b n.hi n.low d (fault_at Flaw.Cut b) (step_dense g b n.hi ∙ dense_short g b n.short))))
      u
  wrong_told Flaw.Spare b n =
      let spare = n.spare in
      before_bad n.dense b n.hi n.low n.degree n.degree 0 (fault_at Flaw.Spare b) n.before (omega arith)
      (walk_over n.dense g b n.hi n.low (λ e. omega arith))

-- ---- and no other

-- what is wrong at j, where `left` partners are to come
Here : Bool → ℕ → List ℕ → ℕ → ℕ → ℕ → Fault → Type 0
Here dense zero g j h low f = (j ≡ length g → ⊥) × (f ≡ fault_at Flaw.Spare j)
Here dense (suc left) g j h low f =
    (step_at dense g j h ≡ Err f) ⊎ ((p : Id) × (n : ℕ) × (step_at dense g j h ≡ Ok (p, n)) × (id_number p < low) × (f ≡ fault_at Flaw.Order j))

record Stuck (dense : Bool) (d : ℕ) (g : List ℕ) (i hi floor : ℕ) (f : Fault) : Type 0 where
  read : ℕ
  left : ℕ
  place : ℕ
  upper : ℕ
  low : ℕ
  count : d ≡ read + left
  rise : PartnersRise dense g read i hi floor place upper low
  here : Here dense left g place upper low f

stuck : (dense : Bool) (d : ℕ) (g : List ℕ) (i hi floor : ℕ) (f : Fault) → walk_from dense d g i hi floor ≡ bad f → Stuck dense d g i hi floor f
unfolding PartnersRise Here
stuck dense zero g i hi floor f e =
    elim (ℕ_discrete i (length g)) [
      | yes h ↦ let z : ◌≡◌ {A = ℕ} 0 1 = cc (walk_end dense g i hi floor h) in absurd (omega arith)
      | no h ↦ record {
        read = 0;
        left = 0;
        place = i;
        upper = hi;
        low = floor;
        count = omega arith;
        rise = (refl, refl, refl);
        here = let told : bad f ≡ bad (fault_at Flaw.Spare i) = sym e ∙ walk_over dense g i hi floor h in (h, cc);
      }
    ]
stuck dense (suc d) g i hi floor f e = go (step_at dense g i hi) refl (λ p n. stuck dense d g n p.hi (suc (id_number p)) f)
  where
    at_once : Here dense (suc d) g i hi floor f → Stuck dense (suc d) g i hi floor f
    at_once h = record { read = 0; left = suc d; place = i; upper = hi; low = floor; count = omega arith; rise = (refl, refl, refl); here = h }

    by_order : (p : Id) (n : ℕ) → step_at dense g i hi ≡ Ok (p, n) → (t : Bool) → leb floor (id_number p) ≡ t
        → (walk_from dense d g n p.hi (suc (id_number p)) ≡ bad f → Stuck dense d g n p.hi (suc (id_number p)) f) → Stuck dense (suc d) g i hi floor f
    by_order p n q true l ih =
        let s = ih (bad_cons p _ f (sym (walk_more dense g i hi floor d p n q l) ∙ e)) in
        let count = s.count in
        record {
          read = suc s.read;
          left = s.left;
          place = s.place;
          upper = s.upper;
          low = s.low;
          count = omega arith;
          rise = (p, n, q, leb-true floor (id_number p) l, s.rise);
          here = s.here;
        }
    by_order p n q false l ih =
        let told : bad f ≡ bad (fault_at Flaw.Order i) = sym e ∙ walk_low dense g i hi floor d p n q l in
        at_once (inr (p, n, q, leb-false floor (id_number p) l, cc))

    go : (s : Step) → step_at dense g i hi ≡ s
        → ((p : Id) (n : ℕ) → walk_from dense d g n p.hi (suc (id_number p)) ≡ bad f → Stuck dense d g n p.hi (suc (id_number p)) f) → Stuck dense (suc d) g i hi floor f
    go (Ok (p, n)) q ih = by_order p n q (leb floor (id_number p)) refl (ih p n)
    go (Err x) q ih =
        let told : bad x ≡ bad f = sym (walk_bad dense g i hi floor d x q) ∙ e in
        let same : x ≡ f = cc in
        at_once (inl (q ∙ ap Err same))

-- the place after partners lies within the group
rise_within : (dense : Bool) (g : List ℕ) (k i hi floor j h low : ℕ) → i ≤ length g → PartnersRise dense g k i hi floor j h low → j ≤ length g
unfolding PartnersRise
rise_within dense g zero i hi floor j h low b r = let same = r.0 in omega arith
rise_within dense g (suc k) i hi floor j h low b r =
    rise_within dense g k r.1 r.0.hi (suc (id_number r.0)) j h low (step_next dense g i hi r.0 r.1 r.2).1 r.4

before_within : (g : List ℕ) (dense : Bool) (b hi low degree read : ℕ) → ReadSoFar g dense b hi low degree read → b ≤ length g
before_within g dense b hi low degree read s =
    let place = s.head.place in
    let tag = s.head.within in
    rise_within dense g read s.payload 0 0 b hi low (omega arith) s.rise

module _ (g : List ℕ) where
  abbrev WrongBy : Fault → Type 0
  WrongBy f = Wrong g f.flaw f.at

  -- a fault that is that flaw at that place
  is : {f : Fault} (w : Flaw) (b : ℕ) → f ≡ fault_at w b → Wrong g w b → WrongBy f
  is w b e u = subst WrongBy (sym e) u

  step_wrong : (dense : Bool) (j h low : ℕ) (f : Fault) → NextPartner g dense j h low → step_at dense g j h ≡ Err f → WrongBy f
  unfolding Wrong
  step_wrong true j h low f n e =
      elim (dec_le (j + 16) (length g)) [
        | yes r ↦ let z : ◌≡◌ {A = ℕ} 0 1 = cc (step_dense g j h, dense_good g j r) in absurd (omega arith)
        | no r ↦
            let told : Err f ≡ Err (fault_at Flaw.Cut j) = sym e ∙ step_dense g j h ∙ dense_short g j (omega arith) in
            let same : f ≡ fault_at Flaw.Cut j = cc in
            is Flaw.Cut j same (inr (inr (record { hi = h; low = low; next = n; short = omega arith })))
      ]
  step_wrong false j h low f n e = go (varint_at g j) refl
    where
      s : split_step g j h ≡ Err f
      s = sym (step_split g j h) ∙ e

      go : (t : Varint) → varint_at g j ≡ t → WrongBy f
      go (Err why) q =
          let told : Err f ≡ Err (fault_at (Flaw.Number why) j) = sym s ∙ split_unread g j h why q in
          let same : f ≡ fault_at (Flaw.Number why) j = cc in
          is (Flaw.Number why) j same (inr (record { hi = h; low = low; next = n; unread = (no_number g j why).0 q }))
      go (Ok (v, m)) q =
          elim (dec_lt (h + v) (2 ^ 64)) [
            | no r ↦
                let told : Err f ≡ Err (fault_at Flaw.Upper j) = sym s ∙ split_over g j h v m q (omega arith) in
                let same : f ≡ fault_at Flaw.Upper j = cc in
                is Flaw.Upper j same (record { hi = h; low = low; next = n; difference = v; after = m; read = q; passes = omega arith })
            | yes r ↦ elim (dec_le (m + 8) (length g)) [
              | yes l ↦ let z : ◌≡◌ {A = ℕ} 0 1 = cc (split_good g j h v m q r l, s) in absurd (omega arith)
              | no l ↦
                  let told : Err f ≡ Err (fault_at Flaw.Cut j) = sym s ∙ split_short g j h v m q r (omega arith) in
                  let same : f ≡ fault_at Flaw.Cut j = cc in
                  is Flaw.Cut j same (inr (inl (record { hi = h; low = low; next = n; difference = v; after = m; read = q; fits = r; short = omega arith })))
            ]
          ]

  here_wrong : (dense : Bool) (left j h low degree read : ℕ) (f : Fault) → ReadSoFar g dense j h low degree read → degree ≡ read + left → Here dense left g j h low f → WrongBy f
  unfolding Here Wrong
  here_wrong dense zero j h low degree read f b count t =
      let within = before_within g dense j h low degree read b in
      let other = t.0 in
      let all : degree ≡ read = omega arith in
      is Flaw.Spare j t.1 (record { dense = dense; hi = h; low = low; degree = degree; before = subst (λ (r : ℕ). ReadSoFar g dense j h low degree r) (sym all) b; spare = under j (length g) within other })
    where
      under : (m n : ℕ) → m ≤ n → (m ≡ n → ⊥) → m < n
      under m n l e = elim (dec_lt m n) [
        | yes q ↦ q
        | no q ↦ absurd (e (omega arith))
      ]
  here_wrong dense (suc left) j h low degree read f b count t =
      let n : NextPartner g dense j h low = record { degree = degree; read = read; before = b; more = omega arith } in
      ⊎_elim (λ e. step_wrong dense j h low f n e)
      (λ o. is Flaw.Order j o.4 (record { dense = dense; hi = h; low = low; next = n; partner = o.0; after = o.1; read = o.2; under = o.3 }))
      t

  head_wrong : (f : Fault) → head_of g ≡ Err f → WrongBy f
  unfolding Wrong
  head_wrong f e = go (varint_at g 0) refl
    where
      go : (t : Varint) → varint_at g 0 ≡ t → WrongBy f
      go (Err why) q =
          let told : Err f ≡ Err (fault_at (Flaw.Number why) 0) = sym e ∙ head_unread g why q in
          let same : f ≡ fault_at (Flaw.Number why) 0 = cc in
          is (Flaw.Number why) 0 same (inl (refl, (no_number g 0 why).0 q))
      go (Ok (d, n)) q =
          elim (ℕ_discrete d 0) [
            | yes z ↦
                let told : Err f ≡ Err (fault_at Flaw.Degree 0) = sym e ∙ head_none g d n q z in
                let same : f ≡ fault_at Flaw.Degree 0 = cc in
                is Flaw.Degree 0 same (refl, (n, q ∙ ap (λ (x : ℕ). Ok (x, n)) z))
            | no z ↦ elim (dec_lt n (length g)) [
              | no h ↦
                  let told : Err f ≡ Err (fault_at Flaw.Cut n) = sym e ∙ head_short g d n q z (omega arith) in
                  let same : f ≡ fault_at Flaw.Cut n = cc in
                  is Flaw.Cut n same (inl (record { degree = d; read = q; some = z; none = omega arith }))
              | yes h ↦ elim (ℕ_discrete (get_or g n 0) split_tag) [
                | yes t ↦ let w : ◌≡◌ {A = ℕ} 0 1 = cc (head_split g d n q z h t) in absurd (omega arith)
                | no t ↦ elim (ℕ_discrete (get_or g n 0) dense_tag) [
                  | yes u ↦ let w : ◌≡◌ {A = ℕ} 0 1 = cc (head_dense g d n q z h u) in absurd (omega arith)
                  | no u ↦
                      let told : Err f ≡ Err (fault_at Flaw.Tag n) = sym e ∙ head_tag g d n q z h t u in
                      let same : f ≡ fault_at Flaw.Tag n = cc in
                      is Flaw.Tag n same (record { degree = d; read = q; some = z; within = h; split = t; dense = u })
                ]
              ]
            ]
          ]

  told_wrong : (f : Fault) → group_of g ≡ bad f → WrongBy f
  told_wrong f e = go (head_of g) refl
    where
      walk : (dense : Bool) (d i : ℕ) → head_of g ≡ head_is dense d i → WrongBy f
      walk dense d i q =
          let s = stuck dense d g i 0 0 f (sym (group_walk g dense d i q) ∙ e) in
          here_wrong dense s.left s.place s.upper s.low d s.read f
          (record { payload = i; head = head_headed g dense d i q; rise = s.rise }) s.count s.here

      go : (h : Result Head Fault) → head_of g ≡ h → WrongBy f
      go (Ok (Head.Split d i)) q = walk false d i q
      go (Ok (Head.Dense d i)) q = walk true d i q
      go (Err x) q =
          let told : bad x ≡ bad f = sym (group_bad g x q) ∙ e in
          let same : x ≡ f = cc in
          head_wrong f (q ∙ ap Err same)

  -- a flaw is told at a byte exactly if it is there
  pub wrong_exactly : (w : Flaw) (b : ℕ) → (group_of g ≡ bad (fault_at w b)) ↔ Wrong g w b
  wrong_exactly w b = (told_wrong (fault_at w b), wrong_told g w b)

  next_within : (dense : Bool) (b hi low : ℕ) → NextPartner g dense b hi low → b ≤ length g
  next_within dense b hi low n = before_within g dense b hi low n.degree n.read n.before

  -- and the byte lies in the group, or right after it where the group ends too early
  pub wrong_within : (w : Flaw) (b : ℕ) → Wrong g w b → b ≤ length g
  unfolding Wrong degree_of
  wrong_within Flaw.Tag b u = let within = u.within in omega arith
  wrong_within (Flaw.Number why) b u = ⊎_elim (λ t. let first = t.0 in omega arith) (λ n. next_within false b n.hi n.low n.next) u
  wrong_within Flaw.Degree b u = let first = u.0 in omega arith
  wrong_within Flaw.Order b n = next_within n.dense b n.hi n.low n.next
  wrong_within Flaw.Upper b n = next_within false b n.hi n.low n.next
  wrong_within Flaw.Cut b u =
      ⊎_elim (λ t. (varint_next g 0 t.degree b t.read).1)
      (⊎_elim (λ n. next_within false b n.hi n.low n.next) (λ n. next_within true b n.hi n.low n.next)) u
  wrong_within Flaw.Spare b n = let spare = n.spare in omega arith
