-- A group found by going on from its first edge: where it ends, and what it costs.
use Rattle.std.specs.Prelude.{◌≡◌, ℕ, ◌+◌, ◌-◌, ◌*◌, ◌≤◌, ◌<◌, List, [], ◌∷◌, ◌++◌, Bool, true, false, length, get_or, take, drop, eqb}
use Rattle.std.proofs.Common.{sym, ap, ap₂, subst, ◌∙◌, zero-add, append-nil, eqb-true}
use Rattle.std.proofs.Math.Nat.{sub-zero}
use native.Mathlib.Omega.{arith}
use Rattle.std.proofs.Math.Seq.{append_snoc}
use Rattle.std.proofs.lemmas.Bool.{eqb-false}
use Rattle.batch.specs.Batch.{partners_in}
use Rattle.base.specs.Pick.{pick}
use Rattle.base.specs.Over.{part}
use Rattle.codes.specs.declared.ids.Id.{Id}
use Rattle.codes.specs.Ids.{id_number}
use Rattle.codes.specs.Varint.{var_bytes}
use Rattle.batch.specs.declared.Edge.{Edge}
use Rattle.batch_groups.specs.Groups.{none, groups_of, GroupEnd, Grouped}
use Rattle.batch_groups.proofs.Laws.Groups.{SameKey, OtherKey, same_none, same_more, group_end, begin_run, other_none, other_key}
use Rattle.write_image.specs.Image.{split_cost, dense_by, is_dense, group_bytes}
use Rattle.write_image.specs.Image.Laws.{Rise, rise_on, run_rises, partners_out, partners_snoc, length_partners_in, cost_none, cost_on, cost_most, dense_is, length_group}
use Rattle.write_group.specs.declared.Span.{Span}

-- the group that begins at edge i of the edges es
pub record Spans (es : List Edge) (i : ℕ) (s : Span) : Type 0 where
  -- it ends before edge `end`
  pub ends : GroupEnd es i s.end
  -- "each upper varint's length plus 8, summed"
  pub costs : s.cost ≡ split_cost 0 (partners_in (part es i s.end))

-- the bytes of a group of that degree and split cost, in a file of that many keys: degree, tag and payload
abbrev pub group_size : ℕ → ℕ → ℕ → ℕ
group_size keys degree cost = length (var_bytes degree) + 1 + pick (dense_by keys degree cost) (16 * degree) cost

module _ (es : List Edge) (i : ℕ) (s : Span) (h : Spans es i s) (keys : ℕ) where
  abbrev ps : List Id
  ps = partners_in (part es i s.end)

  degree_is : length ps ≡ s.end - i
  degree_is = length_partners_in es i s.end h.ends.within

  pub span_few : s.cost ≤ 18 * (s.end - i)
  span_few = omega (arith, h.costs, cost_most 0 ps, degree_is)

  pub span_dense : dense_by keys (s.end - i) s.cost ≡ is_dense keys (partners_in (part es i s.end))
  span_dense = sym (dense_is keys ps ∙ ap₂ (dense_by keys) degree_is (sym h.costs))

  pub span_size : group_size keys (s.end - i) s.cost ≡ length (group_bytes keys (partners_in (part es i s.end)))
  span_size =
      sym
      (length_group keys ps
      ∙ ap (λ (b : Bool). length (var_bytes (length ps)) + 1 + pick b (16 * length ps) (split_cost 0 ps)) (sym span_dense)
      ∙ ap₂ (λ (d c : ℕ). length (var_bytes d) + 1 + pick (dense_by keys (s.end - i) s.cost) (16 * d) c) degree_is (sym h.costs))

-- ---- where it ends

-- edge j, whose key is compared with that of edge i
module _ (es : List Edge) (i j : ℕ) (above : i < j) (h : j < length es) (x : Edge) (e : x ≡ get_or es j none) (key : Id) (k : key ≡ (get_or es i none).key) where
  key_is : id_number key ≡ id_number (get_or es i none).key
  key_is = ap id_number k

  here : id_number x.key ≡ id_number (get_or es j none).key
  here = ap (λ (t : Edge). id_number t.key) e

  other : eqb (id_number x.key) (id_number key) ≡ false → OtherKey (id_number (get_or es i none).key) (drop j es)
  other n = other_key es _ j h (λ z. eqb-false _ _ n (here ∙ z ∙ sym key_is))

  still : SameKey (id_number (get_or es i none).key) (take (j - (i + 1)) (drop (i + 1) es)) → eqb (id_number x.key) (id_number key) ≡ true
      → SameKey (id_number (get_or es i none).key) (take (j + 1 - (i + 1)) (drop (i + 1) es))
  still s n = same_more es i j above h s (sym here ∙ eqb-true _ _ n ∙ key_is)

-- the edges from i up to j are of one key
pub record Same (es : List Edge) (i j : ℕ) : Type 0 where
  pub above : i < j
  pub within : j ≤ length es
  pub same : SameKey (id_number (get_or es i none).key) (take (j - (i + 1)) (drop (i + 1) es))

pub same_first : (es : List Edge) (i : ℕ) → i < length es → Same es i (i + 1)
same_first es i h = record { above = omega arith; within = omega arith; same = same_none es i }

module _ (es : List Edge) (i j : ℕ) (s : Same es i j) where
  -- no edge is left
  pub same_end : j ≡ length es → GroupEnd es i j
  same_end z = group_end es i j s.above s.within s.same (other_none es _ j z)

  -- edge j
  module _ (h : j < length es) (x : Edge) (e : x ≡ get_or es j none) (key : Id) (k : key ≡ (get_or es i none).key) where
    pub same_other : eqb (id_number x.key) (id_number key) ≡ false → GroupEnd es i j
    same_other n = group_end es i j s.above s.within s.same (other es i j s.above h x e key k n)

    pub same_on : eqb (id_number x.key) (id_number key) ≡ true → Same es i (j + 1)
    same_on n =
        let a = s.above in
        record { above = omega arith; within = omega arith; same = still es i j a h x e key k s.same n }

-- ---- what it costs

-- the edges from i up to j are of one key; their split cost is `cost`, and `hi` is the upper half after which the next
-- partner is written. What follows them, ps, adds its own cost.
pub record Going (es : List Edge) (i j hi cost : ℕ) : Type 0 where
  pub from : i ≤ j
  pub within : j ≤ length es
  pub same : SameKey (id_number (get_or es i none).key) (take (j - (i + 1)) (drop (i + 1) es))
  pub rise : (ps : List Id) → Rise 0 (partners_in (part es i j) ++ ps) → Rise hi ps
  pub sum : (ps : List Id) → split_cost 0 (partners_in (part es i j) ++ ps) ≡ cost + split_cost hi ps

module _ (es : List Edge) (i j hi cost : ℕ) (g : Going es i j hi cost) where
  going_cost : cost ≡ split_cost 0 (partners_in (part es i j))
  going_cost =
      let n = cost_none hi in
      let s = g.sum [] in
      let q = ap (split_cost 0) (append-nil (partners_in (part es i j))) in
      omega arith

  pub going_most : cost ≤ 18 * (j - i)
  going_most = omega (arith, going_cost, cost_most 0 (partners_in (part es i j)), length_partners_in es i j g.within)

  ends : i < j → OtherKey (id_number (get_or es i none).key) (drop j es) → Spans es i (record { end = j; cost = cost })
  ends h o = record { ends = group_end es i j h g.within g.same o; costs = going_cost }

  -- no edge is left
  pub going_end : i < j → j ≡ length es → Spans es i (record { end = j; cost = cost })
  going_end h z = ends h (other_none es _ j z)

  -- edge j
  module _ (h : j < length es) (x : Edge) (e : x ≡ get_or es j none) where
    longer : partners_in (part es i (j + 1)) ≡ partners_in (part es i j) ++ (x.partner ∷ [])
    longer =
        partners_snoc es i j g.from h
        ∙ ap (λ (t : Edge). partners_in (part es i j) ++ (t.partner ∷ [])) (sym e)

    -- with others after it
    on : (ps : List Id) → partners_in (part es i (j + 1)) ++ ps ≡ partners_in (part es i j) ++ (x.partner ∷ ps)
    on ps = ap (λ (t : List Id). t ++ ps) longer ∙ append_snoc (partners_in (part es i j)) x.partner ps

    next : SameKey (id_number (get_or es i none).key) (take (j + 1 - (i + 1)) (drop (i + 1) es))
        → (m : ℕ) → m ≡ length (var_bytes (x.partner.hi - hi)) + 8 → Going es i (j + 1) x.partner.hi (cost + m)
    next s m v =
        let f = g.from in
        record {
          from = omega arith;
          within = omega arith;
          same = s;
          rise = λ ps r. (rise_on hi x.partner ps (g.rise (x.partner ∷ ps) (subst (Rise 0) (on ps) r))).1;
          sum = λ ps. let w = g.sum (x.partner ∷ ps) in let c = cost_on hi x.partner ps in ap (split_cost 0) (on ps) ∙ omega arith;
        }

    -- its key is compared with the group's
    module _ (above : i < j) (key : Id) (k : key ≡ (get_or es i none).key) where
      pub going_other : eqb (id_number x.key) (id_number key) ≡ false → Spans es i (record { end = j; cost = cost })
      going_other n = ends above (other es i j above h x e key k n)

      module _ (n : eqb (id_number x.key) (id_number key) ≡ true) where
        longer_same : SameKey (id_number (get_or es i none).key) (take (j + 1 - (i + 1)) (drop (i + 1) es))
        longer_same = still es i j above h x e key k g.same n

        pub going_up : Grouped 0 (groups_of (drop i es)) → hi ≤ x.partner.hi
        going_up o =
            let r : Rise 0 (partners_in (part es i (j + 1))) = run_rises (get_or es i none).key (part es i (j + 1)) (begin_run es i (j + 1) (omega arith) (omega arith) longer_same o) in
            (rise_on hi x.partner [] (g.rise (x.partner ∷ []) (subst (Rise 0) longer r))).0

        pub going_on : (m : ℕ) → m ≡ length (var_bytes (x.partner.hi - hi)) + 8 → Going es i (j + 1) x.partner.hi (cost + m)
        going_on m v = next longer_same m v

-- the first edge
module _ (es : List Edge) (i : ℕ) (h : i < length es) (x : Edge) (e : x ≡ get_or es i none) where
  start : Going es i i 0 0
  unfolding SameKey
  start =
      let z : i - (i + 1) ≡ 0 = omega arith in
      let q = partners_out es i i (omega arith) in
      record {
        from = omega arith;
        within = omega arith;
        same = rw z tt;
        rise = λ ps r. (rw q at r);
        sum = λ ps. rw q (sym (zero-add (split_cost 0 ps)));
      }

  pub going_first : (m : ℕ) → m ≡ length (var_bytes x.partner.hi) + 8 → Going es i (i + 1) x.partner.hi m
  going_first m v =
      subst (Going es i (i + 1) x.partner.hi) (zero-add m)
      (next es i i 0 0 start h x e (same_none es i) m (v ∙ ap (λ (t : ℕ). length (var_bytes t) + 8) (sym (sub-zero x.partner.hi))))
