-- The check of a batch, case by case; and a batch without fault has its edges in order.
use Rattle.std.proofs.Math.Path.{◌≡◌, sym, ap}
use Rattle.std.specs.Prelude.{refl, List, [], ◌∷◌, ◌++◌, Bool, length, get_or, ltb, Ok, Err}
use Rattle.std.proofs.Common.{◌∙◌, add-zero, inl, inr, true≢false}
use Prim.Native.Nat.{ℕ, zero, suc, ◌+◌, ◌-◌, ◌^◌, ◌≤◌, ◌<◌}
use native.Mathlib.Omega.{arith}
use Rattle.std.proofs.Math.Decide.{dec_lt}
use Rattle.std.proofs.Math.Bool.{true, false}
use borrow.Author.Tests.{lt-ltb, le-ltb, le-leb, lt-leb, eq-eqb, ne_eqb, ltb-true}
use Rattle.base.specs.Pick.{pick}
use Rattle.base.specs.Bytes.{Bytes}
use Rattle.std.specs.declared.cmp.Ordering.{Ordering}
use Rattle.codes.specs.Ids.{order, halves_at, id_number}
use Rattle.codes.specs.Ids.Laws.{less, greater, equal, be_at_lt}
use Rattle.codes.specs.Little.Laws.{le_at_lt}
use Rattle.refusal.specs.declared.Refusal.{Refusal}
use Rattle.batch.specs.declared.Edge.{Edge}
use Rattle.batch.specs.Batch.{edge_at, edges_at, place, before, in_order, is_edge, fault_from, batch_check, headed, record_count, edges_of}
use Rattle.batch_groups.specs.Groups.{none, IdFits, Before, First, Ordered}

-- the order of two numbers, back
tri {ℓ} : {X : Type ℓ} (m n : ℕ) → (m < n → X) → (m ≡ n → X) → (n < m → X) → X
tri m n f g h = elim (dec_lt m n) [ yes a ↦ f a | no a ↦ elim (dec_lt n m) [ yes b ↦ h b | no b ↦ g (omega arith) ] ]

pub less_back : (m n : ℕ) → order m n ≡ Ordering.Less → m < n
less_back m n e = tri m n (λ a. a) (λ a. let q = equal a in let z : ◌≡◌ {A = ℕ} 0 1 = cc in absurd (omega arith)) (λ a. let q = greater a in let z : ◌≡◌ {A = ℕ} 0 1 = cc in absurd (omega arith))

pub equal_back : (m n : ℕ) → order m n ≡ Ordering.Equal → m ≡ n
equal_back m n e = tri m n (λ a. let q = less a in let z : ◌≡◌ {A = ℕ} 0 1 = cc in absurd (omega arith)) (λ a. a) (λ a. let q = greater a in let z : ◌≡◌ {A = ℕ} 0 1 = cc in absurd (omega arith))

pub greater_back : (m n : ℕ) → order m n ≡ Ordering.Greater → n < m
greater_back m n e = tri m n (λ a. let q = less a in let z : ◌≡◌ {A = ℕ} 0 1 = cc in absurd (omega arith)) (λ a. let q = equal a in let z : ◌≡◌ {A = ℕ} 0 1 = cc in absurd (omega arith)) (λ a. a)

module _ (a b : Edge) where
  pub before_less : id_number a.key < id_number b.key → before a b ≡ true
  unfolding before
  before_less h = simp (lt-ltb (id_number a.key) (id_number b.key) h)

  pub before_greater : id_number b.key < id_number a.key → before a b ≡ false
  unfolding before
  before_greater h = simp (le-ltb (id_number a.key) (id_number b.key) (omega arith), ne_eqb (id_number a.key) (id_number b.key) (λ q. omega arith))

  pub before_equal : id_number a.key ≡ id_number b.key → before a b ≡ ltb (id_number a.partner) (id_number b.partner)
  unfolding before
  before_equal h = simp (le-ltb (id_number a.key) (id_number b.key) (omega arith), eq-eqb (id_number a.key) (id_number b.key) h)

order_next : (s : List ℕ) (e : ℕ) → 0 < e → in_order s e ≡ before (edge_at s (place (e - 1))) (edge_at s (place e))
unfolding in_order
order_next s e h = let q : e ≡ suc (e - 1) = omega arith in
    let z : in_order s (suc (e - 1)) ≡ before (edge_at s (place (e - 1))) (edge_at s (place (suc (e - 1)))) = refl in
    ap (in_order s) q ∙ z ∙ ap (λ (t : ℕ). before (edge_at s (place (e - 1))) (edge_at s (place t))) (sym q)

module _ (s : List ℕ) (e : ℕ) where
  pub fault_end : place e ≡ length s → fault_from 0 s e ≡ (Ok tt)
  unfolding fault_from
  fault_end h = simp (eq-eqb (place e) (length s) h)

  pub fault_rest : (place e ≡ length s → ⊥) → fault_from 0 s e ≡ Err (Refusal.Batch (place e))
  unfolding fault_from
  fault_rest h = simp (ne_eqb (place e) (length s) h)

  module _ (d : ℕ) where
    pub fault_kind : is_edge (get_or s (place e) 0) ≡ false → fault_from (suc d) s e ≡ Err (Refusal.Batch (place e))
    unfolding fault_from
    fault_kind h = rw h

    pub fault_order : is_edge (get_or s (place e) 0) ≡ true → in_order s e ≡ false → fault_from (suc d) s e ≡ Err (Refusal.Unordered (place e))
    unfolding fault_from
    fault_order h g = rw (h, g)

    pub fault_next : is_edge (get_or s (place e) 0) ≡ true → in_order s e ≡ true → fault_from (suc d) s e ≡ fault_from d s (e + 1)
    unfolding fault_from
    fault_next h g = rw (h, g)

module _ (s : List ℕ) where
  pub head_short : length s < 50 → batch_check s ≡ Err (Refusal.Batch 0)
  unfolding batch_check headed
  head_short h = simp (lt-leb 50 (length s) h)

  module _ (h : 50 ≤ length s) where
    pub head_kind : (get_or s 0 0 ≡ 3 → ⊥) → batch_check s ≡ Err (Refusal.Batch 0)
    unfolding batch_check headed
    head_kind g = simp (le-leb 50 (length s) h, ne_eqb (get_or s 0 0) 3 g)

    pub head_way : get_or s 0 0 ≡ 3 → 1 < get_or s 1 0 → batch_check s ≡ Err (Refusal.Batch 0)
    unfolding batch_check headed
    head_way g k = simp (le-leb 50 (length s) h, eq-eqb (get_or s 0 0) 3 g, lt-leb (get_or s 1 0) 1 (omega arith))

    pub head_good : get_or s 0 0 ≡ 3 → get_or s 1 0 ≤ 1 → batch_check s ≡ fault_from (record_count s) s 0
    unfolding batch_check headed
    head_good g k = simp (le-leb 50 (length s) h, eq-eqb (get_or s 0 0) 3 g, le-leb (get_or s 1 0) 1 k)

-- ---- the edges of a batch by their number

pub length_edges_at : (d : ℕ) (s : List ℕ) (e : ℕ) → length (edges_at d s e) ≡ d
unfolding edges_at
length_edges_at zero s e = refl
length_edges_at (suc d) s e = ap suc (length_edges_at d s (e + 1))

pub edges_count : (s : List ℕ) → length (edges_of s) ≡ record_count s
unfolding edges_of
edges_count s = length_edges_at (record_count s) s 0

-- the last of them
pub edges_last : (d : ℕ) (s : List ℕ) (e : ℕ) → edges_at (suc d) s e ≡ edges_at d s e ++ (edge_at s (place (e + d)) ∷ [])
unfolding edges_at
edges_last zero s e = ap (λ (t : ℕ). edge_at s (place t) ∷ []) (sym (add-zero e))
edges_last (suc d) s e =
    let q : e + 1 + d ≡ e + suc d = omega arith in
    ap (λ (t : List Edge). edge_at s (place e) ∷ t)
    (edges_last d s (e + 1) ∙ ap (λ (t : ℕ). edges_at d s (e + 1) ++ (edge_at s (place t) ∷ [])) q)

edges_at_lem : (d : ℕ) (s : List ℕ) (e k : ℕ) → k < d → get_or (edges_at d s e) k none ≡ edge_at s (place (e + k))
unfolding edges_at
edges_at_lem zero s e k h = absurd (omega arith)
edges_at_lem (suc d) s e zero h = ap (λ (t : ℕ). edge_at s (place t)) (sym (add-zero e))
edges_at_lem (suc d) s e (suc k) h =
    let q : e + 1 + k ≡ e + suc k = omega arith in edges_at_lem d s (e + 1) k (omega arith) ∙ ap (λ (t : ℕ). edge_at s (place t)) q

pub of_batch : (s : List ℕ) (e : ℕ) → e < length (edges_of s) → (e < record_count s) × (get_or (edges_of s) e none ≡ edge_at s (place e))
unfolding edges_of
of_batch s e h =
    let l : e < record_count s = omega (arith, edges_count s) in
    let q : 0 + e ≡ e = omega arith in
    (l, edges_at_lem (record_count s) s 0 e l ∙ ap (λ (t : ℕ). edge_at s (place t)) q)

-- ---- a batch without fault is in order

before_true : (a b : Edge) → before a b ≡ true → Before a b
before_true a b e =
    tri (id_number a.key) (id_number b.key) (λ l. inl l)
    (λ q. inr (q, ltb-true (id_number a.partner) (id_number b.partner) (sym (before_equal a b q) ∙ e)))
    (λ g. let q = before_greater a b g in let z : true ≡ false = sym e ∙ q in absurd (true≢false z))

pub fault_inv : (d : ℕ) (s : List ℕ) (e : ℕ) → fault_from (suc d) s e ≡ (Ok tt) → (is_edge (get_or s (place e) 0) ≡ true) × (in_order s e ≡ true) × (fault_from d s (e + 1) ≡ (Ok tt))
fault_inv d s e f = go (is_edge (get_or s (place e) 0)) refl (in_order s e) refl
  where
    go : (a : Bool) → is_edge (get_or s (place e) 0) ≡ a → (b : Bool) → in_order s e ≡ b → (is_edge (get_or s (place e) 0) ≡ true) × (in_order s e ≡ true) × (fault_from d s (e + 1) ≡ (Ok tt))
    go true p true q = (p, q, sym (fault_next s e d p q) ∙ f)
    go true p false q = let r = fault_order s e d p q in let z : ◌≡◌ {A = ℕ} 0 1 = cc in absurd (omega arith)
    go false p b q = let r = fault_kind s e d p in let z : ◌≡◌ {A = ℕ} 0 1 = cc in absurd (omega arith)

module _ (s : List ℕ) (b : Bytes s) where
  fits_at : (i : ℕ) → IdFits (halves_at s i)
  unfolding halves_at
  fits_at i = (be_at_lt s b i 8, be_at_lt s b (i + 8) 8)

  edge_fits : (i : ℕ) → IdFits (edge_at s i).key × IdFits (edge_at s i).partner × ((edge_at s i).log < 2 ^ 64)
  unfolding edge_at
  edge_fits i = (fits_at (i + 1), fits_at (i + 17), le_at_lt s b (i + 33) 8)

  pub ordered : (d e : ℕ) → fault_from d s e ≡ (Ok tt) → Ordered (edges_at d s e)
  unfolding Ordered First edges_at
  ordered zero e f = tt
  ordered (suc zero) e f = let h = edge_fits (place e) in (h.0, h.1, h.2, tt, tt)
  ordered (suc (suc d)) e f =
      let h = edge_fits (place e) in
      let i = fault_inv (suc d) s e f in
      let k = fault_inv d s (e + 1) i.2 in
      let z : e + 1 - 1 ≡ e = omega arith in
      let q : before (edge_at s (place e)) (edge_at s (place (e + 1))) ≡ true =
      sym (order_next s (e + 1) (omega arith) ∙ ap (λ (t : ℕ). before (edge_at s (place t)) (edge_at s (place (e + 1)))) z) ∙ k.1 in
      (h.0, h.1, h.2, before_true (edge_at s (place e)) (edge_at s (place (e + 1))) q, ordered (suc d) (e + 1) i.2)

  pub batch_ordered : batch_check s ≡ (Ok tt) → Ordered (edges_of s)
  unfolding batch_check edges_of
  batch_ordered f = go (headed s) f
    where
      go : (h : Bool) → pick h (fault_from (record_count s) s 0) (Err (Refusal.Batch 0)) ≡ (Ok tt) → Ordered (edges_of s)
      go true q = ordered (record_count s) 0 q
      go false q = let z : ◌≡◌ {A = ℕ} 0 1 = cc in absurd (omega arith)

pub fine_long : (s : List ℕ) → batch_check s ≡ (Ok tt) → 50 ≤ length s
fine_long s f = elim (dec_lt (length s) 50) [
  | yes h ↦ let q = head_short s h in let z : ◌≡◌ {A = ℕ} 0 1 = cc in absurd (omega arith)
  | no h ↦ omega arith
]
