-- The laws of a group: by its cases, as the code meets them, and what a good walk is made of.
use Rattle.std.specs.Prelude.{◌≡◌, refl, Bool, length, get_or, ltb, leb, Result, Ok, Err, MatchResult, IsErrAnd, is_ok}
use Rattle.std.proofs.Math.Path.{sym, ap}
use Rattle.std.proofs.Common.{ap₂, ◌∙◌, zero-add, length-append}
use Prim.Native.Nat.{ℕ, suc, ◌+◌, ◌-◌, ◌*◌, ◌^◌, ◌≤◌, ◌<◌}
use Rattle.std.proofs.Math.Nat.{sub-zero}
use native.Mathlib.Omega.{arith}
use Rattle.std.proofs.Math.Decide.{dec_le, dec_lt, ℕ_discrete}
use mathlib.Core.List.{List, [], ◌∷◌, ◌++◌}
use Rattle.std.proofs.Math.Bool.{true, false}
use borrow.Author.Tests.{lt-ltb, le-ltb, le-leb, lt-leb, leb-true, eq-eqb, ne_eqb}
use Rattle.std.specs.Ordering.{is_lt, ordering_then, nat_cmp}
use Rattle.base.specs.Pick.{pick}
use Rattle.codes.specs.declared.ids.Id.{Id}
use Rattle.codes.specs.declared.varint.Unread.{Unread}
use Rattle.codes.specs.Little.{le_at}
use Rattle.codes.specs.Ids.{halves_at, id_number, id_bytes}
use Rattle.codes.specs.Ids.Laws.{above_upper, above_under, above_lower, length_id_bytes}
use Rattle.codes.specs.Varint.{varint_at, Varint}
use Rattle.codes.specs.Varint.Laws.{varint_next}
use Rattle.group.specs.declared.fault.Flaw.{Flaw}
use Rattle.group.specs.declared.fault.Fault.{Fault}
use Rattle.group.specs.declared.head.Head.{Head}
use Rattle.group.specs.declared.Group.{Group}
use Rattle.group.specs.Fault.{fault_at}
use Rattle.group.specs.Group.{Decoded, good, bad, onVarint, split_step, dense_step, step_at, on_step, cons, walk_from, floor_of, degree_of, head_of, on_head, group_of, is_good, partners_of, bytes_of, verdict_of, GroupVerdict, Step}
use Rattle.group.specs.Group.Laws.{tag_of, Headed}

-- ---- a varint that is read with a fault in the place of why there is none

-- the fault is told for an Err
pub told_for : {X E F : Type 0} (P : E → F → Type 0) (s : Result X E) (r : Result X F) (f : F) → MatchResult s (λ x. r ≡ Ok x) (λ e. IsErrAnd r (P e)) → r ≡ Err f
    → (e : E) × (s ≡ Err e) × P e f
told_for {X} {E} {F} P (Ok x) r f m q = let z : ◌≡◌ {A = Result X F} (Ok x) (Err f) = sym m ∙ q in let o : ◌≡◌ {A = ℕ} 0 1 = cc in absurd (omega arith)
told_for {X} {E} {F} P (Err e) r f m q = (e, refl, rw q at m)

-- and what is read is read as it is
pub read_for : {X E F : Type 0} (P : E → Type 0) (s : Result X E) (r : Result X F) (x : X) → MatchResult s (λ y. r ≡ Ok y) P → is_ok r ≡ is_ok s → r ≡ Ok x → s ≡ Ok x
read_for {X} {E} {F} P (Ok y) r x m k q = let z : ◌≡◌ {A = Result X F} (Ok y) (Ok x) = sym m ∙ q in let o : y ≡ x = cc in ap Ok o
read_for {X} {E} {F} P (Err e) r x m k q = let z : true ≡ false = sym (ap is_ok q) ∙ k in let o : ◌≡◌ {A = ℕ} 0 1 = cc in absurd (omega arith)

-- ---- a partner of a split group

module _ (g : List ℕ) (i hi : ℕ) where
  pub split_unread : (why : Unread) → varint_at g i ≡ Err why → split_step g i hi ≡ Err (fault_at (Flaw.Number why) i)
  unfolding split_step onVarint
  split_unread why e = rw e

  module _ (v n : ℕ) (e : varint_at g i ≡ Ok (v, n)) where
    pub split_over : 2 ^ 64 ≤ hi + v → split_step g i hi ≡ Err (fault_at Flaw.Upper i)
    unfolding split_step onVarint
    split_over h = rw e (simp (le-ltb (hi + v) (2 ^ 64) h))

    pub split_short : hi + v < 2 ^ 64 → length g < n + 8 → split_step g i hi ≡ Err (fault_at Flaw.Cut i)
    unfolding split_step onVarint
    split_short h s = rw e (simp (lt-ltb (hi + v) (2 ^ 64) h, lt-leb (n + 8) (length g) s))

    pub split_good : hi + v < 2 ^ 64 → n + 8 ≤ length g → split_step g i hi ≡ Ok (record { hi = hi + v; lo = le_at g n 8 }, n + 8)
    unfolding split_step onVarint
    split_good h s = rw e (simp (lt-ltb (hi + v) (2 ^ 64) h, le-leb (n + 8) (length g) s))

-- two partners with their places are one
pub same_step : (p q : Id) (m n : ℕ) → ◌≡◌ {A = Step} (Ok (p, m)) (Ok (q, n)) → (p ≡ q) × (m ≡ n)
same_step p q m n e =
    let t : ◌≡◌ {A = Id × ℕ} (p, m) (q, n) = cc in (ap (λ (x : Id × ℕ). x.0) t, ap (λ (x : Id × ℕ). x.1) t)

-- a partner that was read, by the varint before it
pub record SplitRead (g : List ℕ) (i hi : ℕ) (p : Id) (m v n : ℕ) : Type 0 where
  pub fits : hi + v < 2 ^ 64
  pub room : n + 8 ≤ length g
  pub partner : p ≡ record { hi = hi + v; lo = le_at g n 8 }
  pub place : m ≡ n + 8

module _ (g : List ℕ) (i hi : ℕ) (p : Id) (m : ℕ) (e : split_step g i hi ≡ Ok (p, m)) where
  pub split_read : (v n : ℕ) → varint_at g i ≡ Ok (v, n) → SplitRead g i hi p m v n
  split_read v n q =
      elim (dec_lt (hi + v) (2 ^ 64)) [
        | yes h ↦ elim (dec_le (n + 8) (length g)) [
          | yes s ↦
              let r = same_step _ _ _ _ (sym e ∙ split_good g i hi v n q h s) in
              record { fits = h; room = s; partner = r.0; place = r.1 }
          | no s ↦
              let r : ◌≡◌ {A = Step} (Err (fault_at Flaw.Cut i)) (Ok (p, m)) = sym (split_short g i hi v n q h (omega arith)) ∙ e in
              let z : ◌≡◌ {A = ℕ} 0 1 = cc in absurd (omega arith)
        ]
        | no h ↦
            let r : ◌≡◌ {A = Step} (Err (fault_at Flaw.Upper i)) (Ok (p, m)) = sym (split_over g i hi v n q (omega arith)) ∙ e in
            let z : ◌≡◌ {A = ℕ} 0 1 = cc in absurd (omega arith)
      ]

  -- there was a varint
  pub split_varint : (v : ℕ) × (n : ℕ) × (varint_at g i ≡ Ok (v, n))
  split_varint = go (varint_at g i) refl
    where
      go : (t : Varint) → varint_at g i ≡ t → (v : ℕ) × (n : ℕ) × (varint_at g i ≡ Ok (v, n))
      go (Ok (v, n)) q = (v, n, q)
      go (Err why) q =
          let r : ◌≡◌ {A = Step} (Err (fault_at (Flaw.Number why) i)) (Ok (p, m)) = sym (split_unread g i hi why q) ∙ e in
          let z : ◌≡◌ {A = ℕ} 0 1 = cc in absurd (omega arith)

-- ---- a partner of a dense group

pub dense_short : (g : List ℕ) (i : ℕ) → length g < i + 16 → dense_step g i ≡ Err (fault_at Flaw.Cut i)
unfolding dense_step
dense_short g i h = simp (lt-leb (i + 16) (length g) h)

pub dense_good : (g : List ℕ) (i : ℕ) → i + 16 ≤ length g → dense_step g i ≡ Ok (halves_at g i, i + 16)
unfolding dense_step
dense_good g i h = simp (le-leb (i + 16) (length g) h)

pub dense_read : (g : List ℕ) (i : ℕ) (p : Id) (m : ℕ) → dense_step g i ≡ Ok (p, m) → (i + 16 ≤ length g) × (p ≡ halves_at g i) × (m ≡ i + 16)
dense_read g i p m e =
    elim (dec_le (i + 16) (length g)) [
      | yes h ↦ let r = same_step _ _ _ _ (sym e ∙ dense_good g i h) in (h, r.0, r.1)
      | no h ↦
          let r : ◌≡◌ {A = Step} (Err (fault_at Flaw.Cut i)) (Ok (p, m)) = sym (dense_short g i (omega arith)) ∙ e in
          let z : ◌≡◌ {A = ℕ} 0 1 = cc in absurd (omega arith)
    ]

-- ---- a partner of either sort

pub step_split : (g : List ℕ) (i hi : ℕ) → step_at false g i hi ≡ split_step g i hi
unfolding step_at
step_split g i hi = refl

pub step_dense : (g : List ℕ) (i hi : ℕ) → step_at true g i hi ≡ dense_step g i
unfolding step_at
step_dense g i hi = refl

-- the id that was read is the partner
pub dense_at : (g : List ℕ) (i hi : ℕ) {p : Id} → p ≡ halves_at g i → i + 16 ≤ length g → step_at true g i hi ≡ Ok (p, i + 16)
dense_at g i hi e h = step_dense g i hi ∙ dense_good g i h ∙ ap (λ (t : Id). Ok (t, i + 16)) (sym e)

-- a partner has nine bytes or more, and the place after it lies within the group
pub step_next : (dense : Bool) (g : List ℕ) (i hi : ℕ) (p : Id) (n : ℕ) → step_at dense g i hi ≡ Ok (p, n) → (i + 9 ≤ n) × (n ≤ length g)
step_next true g i hi p n e =
    let (room, is, place) = dense_read g i p n (sym (step_dense g i hi) ∙ e) in (omega arith, omega arith)
step_next false g i hi p n e =
    let s : split_step g i hi ≡ Ok (p, n) = sym (step_split g i hi) ∙ e in
    let (v, m, q) = split_varint g i hi p n s in
    let r = split_read g i hi p n s v m q in
    let place = r.place in
    let room = r.room in
    let after = varint_next g i v m q in
    (omega arith, omega arith)

-- ---- order

-- the order of the halves is that of the numbers
less_number : (m n : ℕ) → is_lt (nat_cmp m n) ≡ ltb m n
less_number m n =
    elim (dec_lt m n) [
      | yes h ↦ simp (lt-ltb m n h)
      | no h ↦ elim (ℕ_discrete m n) [
        | yes e ↦ simp (le-ltb m n (omega arith), eq-eqb m n e)
        | no e ↦ simp (le-ltb m n (omega arith), ne_eqb m n e)
      ]
    ]

pub less_id : (a b : Id) → a.lo < 2 ^ 64 → b.lo < 2 ^ 64 → is_lt (ordering_then (nat_cmp a.hi b.hi) (nat_cmp a.lo b.lo)) ≡ ltb (id_number a) (id_number b)
less_id a b la lb =
    elim (dec_lt a.hi b.hi) [
      | yes h ↦ simp (lt-ltb a.hi b.hi h) (sym (above_upper a b h la))
      | no h ↦ elim (dec_lt b.hi a.hi) [
        | yes k ↦ simp (le-ltb a.hi b.hi (omega arith), ne_eqb a.hi b.hi (λ e. omega arith)) (sym (above_under a b k lb))
        | no k ↦ let e : a.hi ≡ b.hi = omega arith in simp (le-ltb a.hi b.hi (omega arith), eq-eqb a.hi b.hi e) (rw (above_lower a b e) (less_number a.lo b.lo))
      ]
    ]

-- the first partner is not below the floor, and another is not where it is above the last one
pub above_first : (k : ℕ) (last p : Id) → k ≡ 0 → leb (floor_of k last) (id_number p) ≡ true
unfolding floor_of
above_first k last p h = simp (eq-eqb k 0 h) (le-leb 0 (id_number p) (omega arith))

pub above_next : (k : ℕ) (last p : Id) → (k ≡ 0 → ⊥) → leb (floor_of k last) (id_number p) ≡ ltb (id_number last) (id_number p)
unfolding floor_of
above_next k last p h = simp (ne_eqb k 0 h)

-- ---- what stands before the partners

module _ (g : List ℕ) where
  pub head_unread : (why : Unread) → varint_at g 0 ≡ Err why → head_of g ≡ Err (fault_at (Flaw.Number why) 0)
  unfolding head_of degree_of onVarint
  head_unread why e = rw e

  module _ (d n : ℕ) (e : varint_at g 0 ≡ Ok (d, n)) where
    pub head_none : d ≡ 0 → head_of g ≡ Err (fault_at Flaw.Degree 0)
    unfolding head_of degree_of onVarint
    head_none h = rw e (simp (eq-eqb d 0 h))

    module _ (some : d ≡ 0 → ⊥) where
      pub head_short : length g ≤ n → head_of g ≡ Err (fault_at Flaw.Cut n)
      unfolding head_of degree_of onVarint
      head_short h = rw e (simp (ne_eqb d 0 some, le-leb (length g) n h))

      module _ (h : n < length g) where
        pub head_split : get_or g n 0 ≡ 0x01 → head_of g ≡ Ok (Head.Split d (n + 1))
        unfolding head_of degree_of onVarint
        head_split t = rw e (simp (ne_eqb d 0 some, lt-leb (length g) n h, eq-eqb (get_or g n 0) 0x01 t))

        pub head_dense : get_or g n 0 ≡ 0x10 → head_of g ≡ Ok (Head.Dense d (n + 1))
        unfolding head_of degree_of onVarint
        head_dense t =
            rw e (simp (ne_eqb d 0 some, lt-leb (length g) n h, ne_eqb (get_or g n 0) 0x01 (λ q. omega arith), eq-eqb (get_or g n 0) 0x10 t))

        pub head_tag : (get_or g n 0 ≡ 0x01 → ⊥) → (get_or g n 0 ≡ 0x10 → ⊥) → head_of g ≡ Err (fault_at Flaw.Tag n)
        unfolding head_of degree_of onVarint
        head_tag a b = rw e (simp (ne_eqb d 0 some, lt-leb (length g) n h, ne_eqb (get_or g n 0) 0x01 a, ne_eqb (get_or g n 0) 0x10 b))

-- the head of partners: the degree d, the tag, and the place i where the payload begins
abbrev pub head_is : Bool → ℕ → ℕ → Result Head Fault
head_is dense d i = pick dense (Ok (Head.Dense d i)) (Ok (Head.Split d i))

-- a degree d, and a tag after it
pub head_tagged : (dense : Bool) (g : List ℕ) (d n : ℕ) → varint_at g 0 ≡ Ok (d, n) → 1 ≤ d → n < length g → get_or g n 0 ≡ tag_of dense → head_of g ≡ head_is dense d (n + 1)
head_tagged true g d n e some h t = head_dense g d n e (λ z. omega arith) h t
head_tagged false g d n e some h t = head_split g d n e (λ z. omega arith) h t

walks : Result Head Fault → Bool
walks (Ok (Head.Split d i)) = true
walks (Ok (Head.Dense d i)) = true
walks (Err f) = false

walks_is : (dense : Bool) (d i : ℕ) → walks (head_is dense d i) ≡ true
unfolding walks
walks_is true d i = refl
walks_is false d i = refl

is_split : (dense : Bool) (c j d i : ℕ) → Ok (Head.Split c j) ≡ head_is dense d i → (dense ≡ false) × (c ≡ d) × (j ≡ i)
is_split true c j d i e = let z : ◌≡◌ {A = ℕ} 0 1 = cc in absurd (omega arith)
is_split false c j d i e = (refl, cc, cc)

is_dense_lem : (dense : Bool) (c j d i : ℕ) → Ok (Head.Dense c j) ≡ head_is dense d i → (dense ≡ true) × (c ≡ d) × (j ≡ i)
is_dense_lem true c j d i e = (refl, cc, cc)
is_dense_lem false c j d i e = let z : ◌≡◌ {A = ℕ} 0 1 = cc in absurd (omega arith)

-- what was read before the partners
pub head_headed : (g : List ℕ) (dense : Bool) (d i : ℕ) → head_of g ≡ head_is dense d i → Headed g dense d i
unfolding walks degree_of
head_headed g dense d i e = go (varint_at g 0) refl
  where
    not : (f : Fault) → head_of g ≡ Err f → Headed g dense d i
    not f q =
        let t : false ≡ true = ap walks (sym q ∙ e) ∙ walks_is dense d i in
        let z : ◌≡◌ {A = ℕ} 0 1 = cc in absurd (omega arith)

    go : (t : Varint) → varint_at g 0 ≡ t → Headed g dense d i
    go (Err why) q = not (fault_at (Flaw.Number why) 0) (head_unread g why q)
    go (Ok (c, n)) q =
        elim (ℕ_discrete c 0) [
          | yes z ↦ not (fault_at Flaw.Degree 0) (head_none g c n q z)
          | no z ↦ elim (dec_lt n (length g)) [
            | no h ↦ not (fault_at Flaw.Cut n) (head_short g c n q z (omega arith))
            | yes h ↦ elim (ℕ_discrete (get_or g n 0) 0x01) [
              | yes t ↦
                  let (k, same, place) = is_split dense c (n + 1) d i (sym (head_split g c n q z h t) ∙ e) in
                  record { some = omega arith; tag = n; degree = cc; tagged = rw k t; within = h; place = sym place }
              | no t ↦ elim (ℕ_discrete (get_or g n 0) 0x10) [
                | yes u ↦
                    let (k, same, place) = is_dense_lem dense c (n + 1) d i (sym (head_dense g c n q z h u) ∙ e) in
                    record { some = omega arith; tag = n; degree = cc; tagged = rw k u; within = h; place = sym place }
                | no u ↦ not (fault_at Flaw.Tag n) (head_tag g c n q z h t u)
              ]
            ]
          ]
        ]

-- the group by its head
module _ (g : List ℕ) where
  pub group_walk : (dense : Bool) (d i : ℕ) → head_of g ≡ head_is dense d i → group_of g ≡ walk_from dense d g i 0 0
  unfolding group_of on_head
  group_walk true d i e = rw e
  group_walk false d i e = rw e

  pub group_bad : (f : Fault) → head_of g ≡ Err f → group_of g ≡ bad f
  unfolding group_of on_head
  group_bad f e = rw e

-- ---- the walk by its cases

module _ (dense : Bool) (g : List ℕ) (i hi floor : ℕ) where
  pub walk_end : i ≡ length g → walk_from dense 0 g i hi floor ≡ good dense []
  unfolding walk_from
  walk_end h = simp (eq-eqb i (length g) h)

  pub walk_over : (i ≡ length g → ⊥) → walk_from dense 0 g i hi floor ≡ bad (fault_at Flaw.Spare i)
  unfolding walk_from
  walk_over h = simp (ne_eqb i (length g) h)

  module _ (d : ℕ) where
    pub walk_bad : (f : Fault) → step_at dense g i hi ≡ Err f → walk_from dense (suc d) g i hi floor ≡ bad f
    unfolding walk_from on_step
    walk_bad f e = rw e

    module _ (p : Id) (n : ℕ) (e : step_at dense g i hi ≡ Ok (p, n)) where
      pub walk_low : leb floor (id_number p) ≡ false → walk_from dense (suc d) g i hi floor ≡ bad (fault_at Flaw.Order i)
      unfolding walk_from on_step
      walk_low h = rw (e, h)

      pub walk_more : leb floor (id_number p) ≡ true → walk_from dense (suc d) g i hi floor ≡ cons p (walk_from dense d g n p.hi (suc (id_number p)))
      unfolding walk_from on_step
      walk_more h = rw (e, h)

-- ---- a good walk, taken apart

cons_good : (p : Id) (w : Decoded) (b : Bool) (ps : List Id) → cons p w ≡ good b ps → (qs : List Id) × (w ≡ good b qs) × (ps ≡ p ∷ qs)
unfolding cons
cons_good p (good c qs) b ps e = let same : c ≡ b = cc in (qs, ap (λ (t : Bool). good t qs) same, cc)
cons_good p (bad f) b ps e = let z : ◌≡◌ {A = ℕ} 0 1 = cc in absurd (omega arith)

-- its first partner and the others
pub record Turn (dense : Bool) (d : ℕ) (g : List ℕ) (i hi floor : ℕ) (b : Bool) (ps : List Id) : Type 0 where
  pub partner : Id
  pub next : ℕ
  pub others : List Id
  pub step : step_at dense g i hi ≡ Ok (partner, next)
  pub order : floor ≤ id_number partner
  pub rest : walk_from dense d g next partner.hi (suc (id_number partner)) ≡ good b others
  pub all : ps ≡ partner ∷ others

module _ (dense : Bool) (g : List ℕ) (i hi floor : ℕ) (b : Bool) (ps : List Id) where
  pub good_turn : (d : ℕ) → walk_from dense (suc d) g i hi floor ≡ good b ps → Turn dense d g i hi floor b ps
  good_turn d e = go (step_at dense g i hi) refl
    where
      low : (p : Id) (n : ℕ) → step_at dense g i hi ≡ Ok (p, n) → (t : Bool) → leb floor (id_number p) ≡ t → Turn dense d g i hi floor b ps
      low p n q true l =
          let w = walk_from dense d g n p.hi (suc (id_number p)) in
          let (qs, r, all) = cons_good p w b ps (sym (walk_more dense g i hi floor d p n q l) ∙ e) in
          record { partner = p; next = n; others = qs; step = q; order = leb-true floor (id_number p) l; rest = r; all = all }
      low p n q false l =
          let r : bad (fault_at Flaw.Order i) ≡ good b ps = sym (walk_low dense g i hi floor d p n q l) ∙ e in
          let z : ◌≡◌ {A = ℕ} 0 1 = cc in absurd (omega arith)

      go : (t : Step) → step_at dense g i hi ≡ t → Turn dense d g i hi floor b ps
      go (Ok (p, n)) q = low p n q (leb floor (id_number p)) refl
      go (Err f) q =
          let r : bad f ≡ good b ps = sym (walk_bad dense g i hi floor d f q) ∙ e in
          let z : ◌≡◌ {A = ℕ} 0 1 = cc in absurd (omega arith)

  -- and its end
  pub good_end : walk_from dense 0 g i hi floor ≡ good b ps → (i ≡ length g) × (b ≡ dense) × (ps ≡ [])
  good_end e =
      elim (ℕ_discrete i (length g)) [
        | yes h ↦ let r = sym (walk_end dense g i hi floor h) ∙ e in (h, cc, cc)
        | no h ↦
            let r : bad (fault_at Flaw.Spare i) ≡ good b ps = sym (walk_over dense g i hi floor h) ∙ e in
            let z : ◌≡◌ {A = ℕ} 0 1 = cc in absurd (omega arith)
      ]

-- ---- what is answered

pub answer_good : (dense : Bool) (ps : List Id) → verdict_of (good dense ps) ≡ Ok (record { degree = length ps; dense = dense })
unfolding verdict_of
answer_good dense ps = refl

pub answer_bad : (f : Fault) → verdict_of (bad f) ≡ Err f
unfolding verdict_of
answer_bad f = refl

pub partners_good : (dense : Bool) (ps : List Id) → partners_of (good dense ps) ≡ ps
unfolding partners_of
partners_good dense ps = refl

pub good_good : (dense : Bool) (ps : List Id) → is_good (good dense ps) ≡ true
unfolding is_good
good_good dense ps = refl

-- a good answer is that of partners, and their number
pub answered_good : (w : Decoded) (n : ℕ) (dense : Bool) → verdict_of w ≡ Ok (record { degree = n; dense = dense })
    → (w ≡ good dense (partners_of w)) × (is_good w ≡ true) × (length (partners_of w) ≡ n)
unfolding verdict_of partners_of is_good
answered_good (good b ps) n dense e =
    let same : ◌≡◌ {A = Group} (record { degree = length ps; dense = b }) (record { degree = n; dense = dense }) = cc in
    (ap (λ (v : Group). good v.dense ps) same, refl, ap (λ (v : Group). v.degree) same)
answered_good (bad f) n dense e = let z : ◌≡◌ {A = ℕ} 0 1 = cc in absurd (omega arith)

-- and a bad one is that of a fault
pub answered_bad : (w : Decoded) (f : Fault) → verdict_of w ≡ Err f → w ≡ bad f
unfolding verdict_of
answered_bad (good dense ps) f e = let z : ◌≡◌ {A = ℕ} 0 1 = cc in absurd (omega arith)
answered_bad (bad x) f e = cc

-- what is good has partners
pub good_is : (w : Decoded) → is_good w ≡ true → (dense : Bool) × (w ≡ good dense (partners_of w))
unfolding is_good partners_of
good_is (good dense ps) e = (dense, refl)
good_is (bad f) e = let z : ◌≡◌ {A = ℕ} 0 1 = cc in absurd (omega arith)

pub not_bad : {w : Decoded} {f : Fault} → is_good w ≡ true → w ≡ bad f → ⊥
unfolding is_good
not_bad h e = let z : ◌≡◌ {A = ℕ} 0 1 = cc (ap is_good e) in omega arith

pub length_bytes_of : (ps : List Id) → length (bytes_of ps) ≡ 16 * length ps
unfolding bytes_of
length_bytes_of [] = refl
length_bytes_of (p ∷ ps) = rw length-append (omega (arith, length_bytes_of ps, length_id_bytes p))

-- ---- as a check meets them: k of the partners were good, and the answer is that of the rest with k more

counted : ℕ → GroupVerdict → GroupVerdict
counted k (Ok v) = Ok (record { degree = k + v.degree; dense = v.dense })
counted k (Err f) = Err f

counted_none : (r : GroupVerdict) → counted 0 r ≡ r
unfolding counted
counted_none (Ok v) = ap (λ (t : ℕ). Ok (record { degree = t; dense = v.dense })) (zero-add v.degree)
counted_none (Err f) = refl

counted_cons : (k : ℕ) (p : Id) (w : Decoded) → counted k (verdict_of (cons p w)) ≡ counted (k + 1) (verdict_of w)
unfolding counted verdict_of cons
counted_cons k p (good dense ps) = ap (λ (t : ℕ). Ok (record { degree = t; dense = dense })) (omega arith)
counted_cons k p (bad f) = refl

module _ (dense : Bool) (g : List ℕ) (at degree : ℕ) where
  abbrev pub answered : GroupVerdict
  answered = verdict_of (walk_from dense degree g at 0 0)

  pub Checked : (i k hi floor : ℕ) → Type 0
  Checked i k hi floor = answered ≡ counted k (verdict_of (walk_from dense (degree - k) g i hi floor))

  pub check_start : Checked at 0 0 0
  unfolding Checked
  check_start = rw sub-zero (sym (counted_none answered))

  module _ (i k hi floor : ℕ) (l : Checked i k hi floor) where
    module _ (h : degree ≤ k) where
      check_last : answered ≡ counted k (verdict_of (walk_from dense 0 g i hi floor))
      unfolding Checked
      check_last = let z : degree - k ≡ 0 = omega arith in (rw z at l)

      pub check_end : k ≤ degree → i ≡ length g → answered ≡ Ok (record { degree = degree; dense = dense })
      unfolding counted verdict_of
      check_end m e =
          check_last ∙ ap (λ (w : Decoded). counted k (verdict_of w)) (walk_end dense g i hi floor e)
          ∙ ap (λ (t : ℕ). Ok (record { degree = t; dense = dense })) (omega arith)

      pub check_over : (i ≡ length g → ⊥) → answered ≡ Err (fault_at Flaw.Spare i)
      unfolding counted verdict_of
      check_over e = check_last ∙ ap (λ (w : Decoded). counted k (verdict_of w)) (walk_over dense g i hi floor e)

    module _ (h : k < degree) where
      check_rest : answered ≡ counted k (verdict_of (walk_from dense (suc (degree - (k + 1))) g i hi floor))
      unfolding Checked
      check_rest = let e : degree - k ≡ suc (degree - (k + 1)) = omega arith in (rw e at l)

      pub check_bad : (f : Fault) → step_at dense g i hi ≡ Err f → answered ≡ Err f
      unfolding counted verdict_of
      check_bad f e = check_rest ∙ ap (λ (w : Decoded). counted k (verdict_of w)) (walk_bad dense g i hi floor (degree - (k + 1)) f e)

      module _ (p : Id) (n : ℕ) (e : step_at dense g i hi ≡ Ok (p, n)) where
        pub check_low : leb floor (id_number p) ≡ false → answered ≡ Err (fault_at Flaw.Order i)
        unfolding counted verdict_of
        check_low q = check_rest ∙ ap (λ (w : Decoded). counted k (verdict_of w)) (walk_low dense g i hi floor (degree - (k + 1)) p n e q)

        pub check_more : leb floor (id_number p) ≡ true → Checked n (k + 1) p.hi (suc (id_number p))
        unfolding Checked
        check_more q =
            check_rest ∙ ap (λ (w : Decoded). counted k (verdict_of w)) (walk_more dense g i hi floor (degree - (k + 1)) p n e q)
            ∙ counted_cons k p (walk_from dense (degree - (k + 1)) g n p.hi (suc (id_number p)))

pub floor_first : (k : ℕ) (last : Id) → k ≡ 0 → floor_of k last ≡ 0
unfolding floor_of
floor_first k last h = simp (eq-eqb k 0 h)

pub floor_next : (k : ℕ) (last : Id) → (k ≡ 0 → ⊥) → floor_of k last ≡ suc (id_number last)
unfolding floor_of
floor_next k last h = simp (ne_eqb k 0 h)

-- ---- as a fill meets them: the rest of a good group is good

module _ (g : List ℕ) (i hi floor : ℕ) where
  -- of a split group, the varint at i is v, and n the place after it
  pub record Filled (d v n : ℕ) : Type 0 where
    pub fits : hi + v < 2 ^ 64
    pub room : n + 8 ≤ length g
    pub partner : Id
    pub upper : partner.hi ≡ hi + v
    pub lower : partner.lo ≡ le_at g n 8
    pub rest : is_good (walk_from false d g (n + 8) (hi + v) (suc (id_number partner))) ≡ true
    pub bytes : bytes_of (partners_of (walk_from false (suc d) g i hi floor))
        ≡ id_bytes partner ++ bytes_of (partners_of (walk_from false d g (n + 8) (hi + v) (suc (id_number partner))))

  module _ (d : ℕ) (ok : is_good (walk_from false (suc d) g i hi floor) ≡ true) where
    pub fill_turn : (v n : ℕ) → varint_at g i ≡ Ok (v, n) → Filled d v n
    unfolding bytes_of
    fill_turn v n q =
        let (b, is) = good_is (walk_from false (suc d) g i hi floor) ok in
        let t = good_turn false g i hi floor b (partners_of (walk_from false (suc d) g i hi floor)) d is in
        let p = t.partner in
        let s = split_read g i hi p t.next (sym (step_split g i hi) ∙ t.step) v n q in
        let place = s.place in
        let same = s.partner in
        let up : p.hi ≡ hi + v = ap (λ (x : Id). x.hi) same in
        let rest : walk_from false d g (n + 8) (hi + v) (suc (id_number p)) ≡ good b t.others =
        sym (ap₂ (λ (m h : ℕ). walk_from false d g m h (suc (id_number p))) place up) ∙ t.rest in
        record {
          fits = s.fits;
          room = s.room;
          partner = p;
          upper = up;
          lower = ap (λ (x : Id). x.lo) same;
          rest = ap is_good rest ∙ good_good b t.others;
          bytes = ap bytes_of t.all ∙ ap (λ (x : List Id). id_bytes p ++ bytes_of x) (sym (ap partners_of rest ∙ partners_good b t.others));
        }

    pub fill_read : (why : Unread) → varint_at g i ≡ Err why → ⊥
    fill_read why q = not_bad ok (walk_bad false g i hi floor d (fault_at (Flaw.Number why) i) (step_split g i hi ∙ split_unread g i hi why q))

  -- nothing is left
  pub fill_end : bytes_of (partners_of (walk_from false 0 g i hi floor)) ≡ []
  unfolding bytes_of partners_of
  fill_end =
      elim (ℕ_discrete i (length g)) [
        | yes h ↦ rw (walk_end false g i hi floor h)
        | no h ↦ rw (walk_over false g i hi floor h)
      ]
