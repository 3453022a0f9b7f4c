-- A batch without fault is the bytes of its heading and its edges.
use Rattle.std.proofs.Math.Path.{◌≡◌, refl, sym, ap, ap₂}
use Rattle.std.proofs.Common.{◌∙◌, add-one, drop_of_length-le, drop-cons, drop-drop, take-add}
use Prim.Native.Nat.{ℕ, zero, suc, ◌+◌, ◌*◌, ◌≤◌, ◌<◌}
use native.Mathlib.Omega.{arith}
use mathlib.Core.List.{List, [], ◌∷◌, ◌++◌}
use Rattle.std.specs.Prelude.{Bool, ◌&&◌, Ok, Err}
use Rattle.std.proofs.Math.Bool.{true, false}
use Rattle.std.proofs.lemmas.Bool.{false≢true}
use Rattle.std.proofs.Math.ListN.{length, get_or, take, drop, take-append-drop}
use Rattle.std.proofs.Math.Dec.{leb, eqb}
use borrow.Author.Tests.{eqb-true, leb-true}
use Rattle.base.specs.Pick.{pick}
use Rattle.base.specs.Bytes.{Bytes}
use Rattle.codes.specs.Stood.{le_same, id_same}
use Rattle.refusal.specs.declared.Refusal.{Refusal}
use Rattle.refusal.proofs.Laws.Check.{and_parts}
use Rattle.batch.specs.Batch.{edge_at, edges_at, place, is_edge, fault_from, batch_check, headed, record_count, edges_of, heading_of, heading_bytes, edge_bytes, records_of, batch_bytes}
use Rattle.batch_groups.proofs.Laws.Order.{fault_inv}

module _ (s : List ℕ) (b : Bytes s) where
  -- one part after the other
  two : (i n m : ℕ) → take n (drop i s) ++ take m (drop (i + n) s) ≡ take (n + m) (drop i s)
  two i n m = sym (take-add n m (drop i s) ∙ ap (λ (t : List ℕ). take n (drop i s) ++ take m t) (drop-drop n i s))

  kind_is : (k : ℕ) → is_edge k ≡ true → pick (eqb k 2) 2 1 ≡ k
  kind_is k h = go (eqb k 2) refl
    where
      go : (t : Bool) → eqb k 2 ≡ t → pick (eqb k 2) 2 1 ≡ k
      go true p = rw p (sym (eqb-true k 2 p))
      go false p = rw p (one (eqb k 1) refl)
        where
          one : (t : Bool) → eqb k 1 ≡ t → 1 ≡ k
          one true q = sym (eqb-true k 1 q)
          one false q = absurd (false≢true (rw (q, p) at h))

  first : (i n : ℕ) → i < length s → take (suc n) (drop i s) ≡ get_or s i 0 ∷ take n (drop (i + 1) s)
  first i n h =
      let d : drop i s ≡ get_or s i 0 ∷ drop (i + 1) s = drop-cons s i 0 h ∙ ap (λ (t : ℕ). get_or s i 0 ∷ drop t s) (sym (add-one i)) in
      ap (take (suc n)) d

  record_same : (i : ℕ) → i + 41 ≤ length s → is_edge (get_or s i 0) ≡ true → edge_bytes (edge_at s i) ≡ take 41 (drop i s)
  unfolding edge_bytes edge_at
  record_same i h k =
      let a = id_same s b (i + 1) (omega arith) in
      let c = id_same s b (i + 17) (omega arith) in
      let d = le_same s b 8 (i + 33) (omega arith) in
      let p : i + 17 + 16 ≡ i + 33 = omega arith in
      let q : i + 1 + 16 ≡ i + 17 = omega arith in
      let x : take 16 (drop (i + 17) s) ++ take 8 (drop (i + 33) s) ≡ take 24 (drop (i + 17) s) = ap (λ (t : ℕ). take 16 (drop (i + 17) s) ++ take 8 (drop t s)) (sym p) ∙ two (i + 17) 16 8 in
      let y : take 16 (drop (i + 1) s) ++ take 24 (drop (i + 17) s) ≡ take 40 (drop (i + 1) s) = ap (λ (t : ℕ). take 16 (drop (i + 1) s) ++ take 24 (drop t s)) (sym q) ∙ two (i + 1) 16 24 in
      rw (kind_is (get_or s i 0) k, a, c, d, x, y) (sym (first i 40 (omega arith)))

  records_same : (d e : ℕ) → fault_from d s e ≡ (Ok tt) → place e + 41 * d ≤ length s → records_of (edges_at d s e) ≡ drop (place e) s
  unfolding records_of edges_at fault_from
  records_same zero e f h = go (eqb (place e) (length s)) refl
    where
      go : (t : Bool) → eqb (place e) (length s) ≡ t → [] ≡ drop (place e) s
      go true p = let q = eqb-true (place e) (length s) p in sym (drop_of_length-le s {i = place e} (omega arith))
      go false p = let r : Err (Refusal.Batch (place e)) ≡ (Ok tt) = rw p at f in let z : ◌≡◌ {A = ℕ} 0 1 = cc in absurd (omega arith)
  records_same (suc d) e f h =
      let i = fault_inv d s e f in
      let p : place e + 41 ≡ place (e + 1) = omega arith in
      ap₂ (λ (u v : List ℕ). u ++ v) (record_same (place e) (omega arith) i.0) (records_same d (e + 1) i.2 (omega arith) ∙ ap (λ (t : ℕ). drop t s) (sym p) ∙ sym (drop-drop 41 (place e) s))
      ∙ take-append-drop 41 (drop (place e) s)

  heading_same : 50 ≤ length s → get_or s 0 0 ≡ 3 → heading_bytes (heading_of s) ≡ take 50 s
  unfolding heading_bytes heading_of
  heading_same h k =
      ap (λ (t : ℕ). t ∷ get_or s 1 0 ∷ take 48 (drop 2 s)) (sym k)
      ∙ sym (first 0 49 (omega arith) ∙ ap (λ (t : List ℕ). get_or s 0 0 ∷ t) (first 1 48 (omega arith)))

  -- what a batch without fault is made of
  pub batch_same : batch_check s ≡ (Ok tt) → batch_bytes (heading_of s) (edges_of s) ≡ s
  unfolding batch_check batch_bytes edges_of headed
  batch_same f = go (headed s) refl f
    where
      go : (t : Bool) → headed s ≡ t → pick t (fault_from (record_count s) s 0) (Err (Refusal.Batch 0)) ≡ (Ok tt) → heading_bytes (heading_of s) ++ records_of (edges_of s) ≡ s
      go true h q =
          let u = and_parts (leb 50 (length s)) (eqb (get_or s 0 0) 3 && leb (get_or s 1 0) 1) h in
          let v = and_parts (eqb (get_or s 0 0) 3) (leb (get_or s 1 0) 1) u.1 in
          let l : 50 ≤ length s = leb-true 50 (length s) u.0 in
          let m : place 0 + 41 * record_count s ≤ length s = omega arith in
          ap₂ (λ (x y : List ℕ). x ++ y) (heading_same l (eqb-true (get_or s 0 0) 3 v.0)) (records_same (record_count s) 0 q m) ∙ take-append-drop 50 s
      go false h q = let z : ◌≡◌ {A = ℕ} 0 1 = cc in absurd (omega arith)
