-- The laws of the check's answer: case by case, and a record further.
use Rattle.std.proofs.Math.Path.{◌≡◌, refl, sym, ap}
use Rattle.std.proofs.Common.{ap₂, ◌∙◌, zero-add, add-one}
use Prim.Native.Nat.{ℕ, zero, suc, ◌+◌, ◌-◌, ◌<◌, ◌≤◌}
use Rattle.std.proofs.Math.Nat.{add-zero}
use native.Mathlib.Omega.{arith}
use Rattle.std.specs.Prelude.{List, [], ◌∷◌, ◌++◌, Bool, ◌||◌, length, get_or, Ok, Err}
use Rattle.std.proofs.Math.Bool.{true, false}
use Rattle.std.proofs.Math.Seq.{append_snoc}
use Rattle.std.proofs.Math.Dec.{eqb}
use borrow.Author.Tests.{eq-eqb, ne_eqb, lt-ltb, le-ltb}
use Rattle.base.specs.Pick.{pick}
use Rattle.std.specs.declared.cmp.Ordering.{Ordering}
use Rattle.codes.specs.Ids.{id_number, order}
use Rattle.refusal.specs.declared.Refusal.{Refusal}
use Rattle.batch.specs.declared.Edge.{Edge}
use Rattle.batch.specs.Batch.{edge_at, edges_at, edges_of, record_count, place, before, in_order, fault_from, batch_check}
use Rattle.batch_groups.specs.Groups.{any_dead, groups_of}
use Rattle.batch_groups.proofs.Laws.Groups.{count_one, count_last, count_empty, dead_empty, dead_last}
use Rattle.batch_groups.proofs.Laws.Order.{less_back, equal_back, greater_back, before_less, before_greater, before_equal, edges_last}
use Rattle.batch_faults.specs.declared.Follow.{Follow}
use Rattle.batch_faults.specs.declared.Tally.{Tally}
use Rattle.batch_faults.specs.Tally.{follow_by, follow_at, tally_by, tally_of, Clean}
use Rattle.refusal.specs.Check.{Check}

-- ---- two edges

module _ (a b : Edge) where
  pub key_less : order (id_number a.key) (id_number b.key) ≡ Ordering.Less → Follow.New ≡ follow_by a b
  unfolding follow_by
  key_less q =
      let l = less_back (id_number a.key) (id_number b.key) q in
      simp (before_less a b l, ne_eqb (id_number a.key) (id_number b.key) (λ z. omega arith))

  pub key_greater : order (id_number a.key) (id_number b.key) ≡ Ordering.Greater → Follow.Wrong ≡ follow_by a b
  unfolding follow_by
  key_greater q = simp (before_greater a b (greater_back (id_number a.key) (id_number b.key) q))

  module _ (q : order (id_number a.key) (id_number b.key) ≡ Ordering.Equal) where
    same : id_number a.key ≡ id_number b.key
    same = equal_back (id_number a.key) (id_number b.key) q

    pub partner_less : order (id_number a.partner) (id_number b.partner) ≡ Ordering.Less → Follow.Same ≡ follow_by a b
    unfolding follow_by
    partner_less r =
        simp
        (before_equal a b same, lt-ltb (id_number a.partner) (id_number b.partner) (less_back _ _ r), eq-eqb (id_number a.key) (id_number b.key) same)

    not_less : id_number b.partner ≤ id_number a.partner → Follow.Wrong ≡ follow_by a b
    unfolding follow_by
    not_less l = simp (before_equal a b same, le-ltb (id_number a.partner) (id_number b.partner) l)

    pub partner_equal : order (id_number a.partner) (id_number b.partner) ≡ Ordering.Equal → Follow.Wrong ≡ follow_by a b
    partner_equal r = not_less (omega (arith, equal_back (id_number a.partner) (id_number b.partner) r))

    pub partner_greater : order (id_number a.partner) (id_number b.partner) ≡ Ordering.Greater → Follow.Wrong ≡ follow_by a b
    partner_greater r = not_less (omega (arith, greater_back (id_number a.partner) (id_number b.partner) r))

  -- what an answer says of the order, and of a key more
  record By (f : Follow) : Type 0 where
    wrong : f ≡ Follow.Wrong → before a b ≡ false
    new : f ≡ Follow.New → (before a b ≡ true) × (eqb (id_number a.key) (id_number b.key) ≡ false)
    again : f ≡ Follow.Same → (before a b ≡ true) × (eqb (id_number a.key) (id_number b.key) ≡ true)

  by : By (follow_by a b)
  unfolding follow_by
  by = go (before a b) refl (eqb (id_number a.key) (id_number b.key)) refl
    where
      go : (x : Bool) → before a b ≡ x → (y : Bool) → eqb (id_number a.key) (id_number b.key) ≡ y → By (pick x (pick y Follow.Same Follow.New) Follow.Wrong)
      go true p true q = record {
        wrong = λ f. let z : ◌≡◌ {A = ℕ} 0 1 = cc in absurd (omega arith);
        new = λ f. let z : ◌≡◌ {A = ℕ} 0 1 = cc in absurd (omega arith);
        again = λ f. (p, q);
      }
      go true p false q = record {
        wrong = λ f. let z : ◌≡◌ {A = ℕ} 0 1 = cc in absurd (omega arith);
        new = λ f. (p, q);
        again = λ f. let z : ◌≡◌ {A = ℕ} 0 1 = cc in absurd (omega arith);
      }
      go false p y q = record {
        wrong = λ f. p;
        new = λ f. let z : ◌≡◌ {A = ℕ} 0 1 = cc in absurd (omega arith);
        again = λ f. let z : ◌≡◌ {A = ℕ} 0 1 = cc in absurd (omega arith);
      }

-- ---- edge e of a batch

pub follow_first : (s : List ℕ) (e : ℕ) → e ≡ 0 → Follow.New ≡ follow_at s e
unfolding follow_at
follow_first s e h = rw h

pub follow_next : (s : List ℕ) (e : ℕ) → 0 < e → follow_at s e ≡ follow_by (edge_at s (place (e - 1))) (edge_at s (place e))
unfolding follow_at
follow_next s e h =
    let q : e ≡ suc (e - 1) = omega arith in
    let z : follow_at s (suc (e - 1)) ≡ follow_by (edge_at s (place (e - 1))) (edge_at s (place (suc (e - 1)))) = refl in
    ap (follow_at s) q ∙ z ∙ ap (λ (t : ℕ). follow_by (edge_at s (place (e - 1))) (edge_at s (place t))) (sym q)

-- one edge more
module _ (s : List ℕ) where
  edges_more : (e : ℕ) → edges_at (e + 1) s 0 ≡ edges_at e s 0 ++ (edge_at s (place e) ∷ [])
  edges_more e =
      ap (λ (t : ℕ). edges_at t s 0) (add-one e) ∙ edges_last e s 0 ∙ ap (λ (t : ℕ). edges_at e s 0 ++ (edge_at s (place t) ∷ [])) (zero-add e)

  pub count_start : 0 ≡ length (groups_of (edges_at 0 s 0))
  unfolding edges_at
  count_start = sym count_empty

  pub dead_start : false ≡ any_dead (edges_at 0 s 0)
  unfolding edges_at
  dead_start = sym dead_empty

  keys_first : length (groups_of (edges_at (0 + 1) s 0)) ≡ length (groups_of (edges_at 0 s 0)) + 1
  unfolding edges_at
  keys_first = let z = count_empty in count_one (edge_at s (place 0)) ∙ omega arith

  keys_more : (e : ℕ) (b : Bool) → eqb (id_number (edge_at s (place e)).key) (id_number (edge_at s (place (suc e))).key) ≡ b
      → length (groups_of (edges_at (suc e + 1) s 0)) ≡ length (groups_of (edges_at (suc e) s 0)) + pick b 0 1
  keys_more e b q =
      let x : Edge = edge_at s (place e) in
      let y : Edge = edge_at s (place (suc e)) in
      let l : edges_at (suc e) s 0 ≡ edges_at e s 0 ++ (x ∷ []) = ap (λ (t : ℕ). edges_at t s 0) (sym (add-one e)) ∙ edges_more e in
      ap (λ (t : List Edge). length (groups_of t)) (edges_more (suc e) ∙ ap (λ (t : List Edge). t ++ (y ∷ [])) l ∙ append_snoc (edges_at e s 0) x (y ∷ []))
      ∙ count_last (edges_at e s 0) x y
      ∙ ap₂ (λ (t : List Edge) (c : Bool). length (groups_of t) + pick c 0 1) (sym l) q

  pub dead_next : (e : ℕ) → any_dead (edges_at (e + 1) s 0) ≡ (any_dead (edges_at e s 0) || eqb (get_or s (place e) 0) 2)
  unfolding edge_at
  dead_next e = ap any_dead (edges_more e) ∙ dead_last (edges_at e s 0) (edge_at s (place e))

  -- what the answer says of edge e: of its order, and of the keys with it
  pub record Follows (e : ℕ) (f : Follow) : Type 0 where
    pub wrong : f ≡ Follow.Wrong → in_order s e ≡ false
    pub new : f ≡ Follow.New → (in_order s e ≡ true) × (length (groups_of (edges_at (e + 1) s 0)) ≡ length (groups_of (edges_at e s 0)) + 1)
    pub same_key : f ≡ Follow.Same → (in_order s e ≡ true) × (length (groups_of (edges_at (e + 1) s 0)) ≡ length (groups_of (edges_at e s 0)))

  pub follows : (e : ℕ) → Follows e (follow_at s e)
  unfolding follow_at in_order
  follows zero = record {
    wrong = λ f. let z : ◌≡◌ {A = ℕ} 0 1 = cc in absurd (omega arith);
    new = λ f. (refl, keys_first);
    same_key = λ f. let z : ◌≡◌ {A = ℕ} 0 1 = cc in absurd (omega arith);
  }
  follows (suc e) =
      let b = by (edge_at s (place e)) (edge_at s (place (suc e))) in
      record {
        wrong = λ f. b.wrong f;
        new = λ f. let p = b.new f in (p.0, keys_more e false p.1);
        same_key = λ f. let p = b.again f in (p.0, keys_more e true p.1 ∙ add-zero (length (groups_of (edges_at (suc e) s 0))));
      }

-- ---- the answer

pub tally_bad : (c : Check) (es : List Edge) (r : Refusal) → c ≡ Err r → Err r ≡ tally_by c es
unfolding tally_by
tally_bad c es r e = rw e

pub tally_fine : (c : Check) (es : List Edge) (keys : ℕ) (dead : Bool) → c ≡ (Ok tt) → keys ≡ length (groups_of es) → dead ≡ any_dead es → Ok (record { keys = keys; dead = dead }) ≡ tally_by c es
unfolding tally_by
tally_fine c es keys dead e k d = rw e (cc)

module _ (s : List ℕ) where
  pub tally_head : (r : Refusal) → batch_check s ≡ Err r → Err r ≡ tally_of s
  unfolding tally_of
  tally_head r e = tally_bad (batch_check s) (edges_of s) r e

  pub tally_rest : batch_check s ≡ fault_from (record_count s) s 0 → tally_by (fault_from (record_count s) s 0) (edges_at (record_count s) s 0) ≡ tally_of s
  unfolding tally_of edges_of
  tally_rest e = ap (λ (t : Check). tally_by t (edges_at (record_count s) s 0)) (sym e)

-- and back
pub fine_is : (s : List ℕ) (keys : ℕ) (dead : Bool) → tally_of s ≡ Ok (record { keys = keys; dead = dead }) → Clean s keys dead
unfolding tally_of tally_by
fine_is s keys dead e = go (batch_check s) refl e
  where
    go : (c : Check) → batch_check s ≡ c → tally_by c (edges_of s) ≡ Ok (record { keys = keys; dead = dead }) → Clean s keys dead
    go (Ok _) p q =
        let z : ◌≡◌ {A = Tally} (record { keys = keys; dead = dead }) (record { keys = length (groups_of (edges_of s)); dead = any_dead (edges_of s) }) = cc in
        record { check = p; keys_are = ap (λ (t : Tally). t.keys) z; dead_is = ap (λ (t : Tally). t.dead) z }
    go (Err r) p q = let z : ◌≡◌ {A = ℕ} 0 1 = cc in absurd (omega arith)

pub bad_is : (s : List ℕ) (r : Refusal) → tally_of s ≡ Err r → batch_check s ≡ Err r
unfolding tally_of tally_by
bad_is s r e = go (batch_check s) refl e
  where
    go : (c : Check) → batch_check s ≡ c → tally_by c (edges_of s) ≡ Err r → batch_check s ≡ Err r
    go (Ok _) p q = let z : ◌≡◌ {A = ℕ} 0 1 = cc in absurd (omega arith)
    go (Err t) p q = p ∙ cc
