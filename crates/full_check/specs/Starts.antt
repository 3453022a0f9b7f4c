-- The start index against the degrees: rule 23 finds no stray entry exactly if each says how many edges stand before its group.
use Rattle.std.specs.Prelude.{◌≡◌, refl, ◌↔◌, List, [], Bool, true, false, not, ◌&&◌, ◌||◌, eqb, Ok, Err}
use Rattle.std.proofs.Math.Path.{sym, ap}
use Rattle.std.proofs.Common.{◌∙◌, zero-add, eqb-true, eq-eqb}
use Prim.Native.Nat.{ℕ, zero, suc, ◌+◌, ◌/◌, ◌≤◌}
use Rattle.std.proofs.Math.Nat.{add-zero}
use native.Mathlib.Omega.{arith}
use Rattle.std.specs.Bool.{beq}
use Rattle.std.proofs.Math.ListN.{length}
use Rattle.std.proofs.lemmas.Bool.{not-false}
use Rattle.refusal.specs.declared.Refusal.{Refusal}
use Rattle.refusal.specs.Check.{refuse, Check}
use Rattle.refusal.proofs.Laws.Check.{fine_parts, fine_both, fine_then, good_parts, good_fine}
use Rattle.frame.specs.Frame.{flag}
use Rattle.frame.specs.Open.{Known, start_at}
use Rattle.group.specs.Group.{partners_of}
use Rattle.full_check.specs.Full.{group_in, groups_from, degrees_from, dense_from, stray_from, marks_of, data_good, stray_in, edges_check}

or_parts : (a b : Bool) → (a || b) ≡ false → (a ≡ false) × (b ≡ false)
or_parts true b e = let z : ◌≡◌ {A = ℕ} 0 1 = cc in absurd (omega arith)
or_parts false b e = (refl, e)

-- p the partners, o the offsets of w bytes each, s the start index
module _ (p o : List ℕ) (w : ℕ) (s : List ℕ) where
  -- of d groups from group i on, before which there are e edges
  abbrev Told : ℕ → ℕ → ℕ → Type 0
  Told d i e = (j : ℕ) → j ≤ d → start_at s (i + j) ≡ e + degrees_from p o w j i

  first_is : (i e : ℕ) → not (eqb (start_at s i) e) ≡ false → start_at s i ≡ e
  first_is i e h = eqb-true _ _ (not-false _ h)

  at_first : (i e : ℕ) → start_at s i ≡ e → start_at s (i + 0) ≡ e + degrees_from p o w 0 i
  unfolding degrees_from
  at_first i e h = ap (start_at s) (add-zero i) ∙ h ∙ sym (add-zero e)

  told_from : (d i e : ℕ) → stray_from p o w s d i e ≡ false → Told d i e
  unfolding stray_from degrees_from
  told_from zero i e h zero l = at_first i e (first_is i e h)
  told_from zero i e h (suc j) l = absurd (omega arith)
  told_from (suc d) i e h zero l = at_first i e (first_is i e (or_parts (not (eqb (start_at s i) e)) _ h).0)
  told_from (suc d) i e h (suc j) l =
      let deg : ℕ = length (partners_of (group_in p o w i)) in
      let ih = told_from d (i + 1) (e + deg) (or_parts (not (eqb (start_at s i) e)) _ h).1 j (omega arith) in
      let at : i + suc j ≡ i + 1 + j = omega arith in
      ap (start_at s) at ∙ ih ∙ omega arith

  from_told : (d i e : ℕ) → Told d i e → stray_from p o w s d i e ≡ false
  unfolding stray_from degrees_from
  from_told zero i e h = let q : start_at s i ≡ e = ap (start_at s) (sym (add-zero i)) ∙ h 0 (omega arith) ∙ add-zero e in rw (eq-eqb (start_at s i) e q)
  from_told (suc d) i e h =
      let deg : ℕ = length (partners_of (group_in p o w i)) in
      let q : start_at s i ≡ e = ap (start_at s) (sym (add-zero i)) ∙ h 0 (omega arith) ∙ add-zero e in
      rw (eq-eqb (start_at s i) e q)
      (from_told d (i + 1) (e + deg) (λ j l. let at : i + 1 + j ≡ i + suc j = omega arith in ap (start_at s) at ∙ h (suc j) (omega arith) ∙ omega arith))

  -- of all n groups
  pub stray_none : (n : ℕ) → (stray_from p o w s n 0 0 ≡ false) ↔ ((j : ℕ) → j ≤ n → start_at s j ≡ degrees_from p o w j 0)
  stray_none n = (
    λ h j l. ap (start_at s) (sym (zero-add j)) ∙ told_from n 0 0 h j l ∙ zero-add _,
    λ h. from_told n 0 0 (λ j l. ap (start_at s) (zero-add j) ∙ h j l ∙ sym (zero-add _)),
  )

-- ---- of what is known of a file: the full check of its edges passes exactly if it passes without the start index, and each entry says
-- how many edges stand before its group

abbrev pub hidden : Known → Known
hidden k = record {
  keys = k.keys;
  offsets = k.offsets;
  partners = k.partners;
  logs = k.logs;
  dead = k.dead;
  indexed = false;
  starts = [];
  keycount = k.keycount;
  edgecount = k.edgecount;
  bits = k.bits;
}

data_by : (flags edges : ℕ) (s : List ℕ) (sum : ℕ) (dense stray : Bool) → (data_good flags edges s sum dense stray ≡ true) ↔ ((data_good flags edges s sum dense false ≡ true) × (stray ≡ false))
unfolding data_good
data_by flags edges s sum dense stray =
    go (eqb sum edges) (beq (flag 1 flags) (marks_of s edges).dead) (beq (flag 2 flags) dense) (not (marks_of s edges).unused) stray
  where
    clash : {A : Type 0} → false ≡ true → A
    clash e = let z : ◌≡◌ {A = ℕ} 0 1 = cc in absurd (omega arith)

    go : (a b c d v : Bool) → ((a && (b && (c && (d && not v)))) ≡ true) ↔ (((a && (b && (c && (d && true)))) ≡ true) × (v ≡ false))
    go true true true true true = (λ e. clash e, λ e. clash (sym e.1))
    go true true true true false = (λ e. (refl, refl), λ e. refl)
    go true true true false v = (λ e. clash e, λ e. clash e.0)
    go true true false d v = (λ e. clash e, λ e. clash e.0)
    go true false c d v = (λ e. clash e, λ e. clash e.0)
    go false b c d v = (λ e. clash e, λ e. clash e.0)

stray_exactly : (k : Known) → (stray_in k ≡ false) ↔ (k.indexed ≡ true → (j : ℕ) → j ≤ k.keycount → start_at k.starts j ≡ degrees_from k.partners k.offsets (k.bits / 8) j 0)
stray_exactly k = go k.indexed
  where
    all : (stray_from k.partners k.offsets (k.bits / 8) k.starts k.keycount 0 0 ≡ false)
        ↔ ((j : ℕ) → j ≤ k.keycount → start_at k.starts j ≡ degrees_from k.partners k.offsets (k.bits / 8) j 0)
    all = stray_none k.partners k.offsets (k.bits / 8) k.starts k.keycount

    go : (b : Bool) → ((b && stray_from k.partners k.offsets (k.bits / 8) k.starts k.keycount 0 0) ≡ false)
        ↔ (b ≡ true → (j : ℕ) → j ≤ k.keycount → start_at k.starts j ≡ degrees_from k.partners k.offsets (k.bits / 8) j 0)
    go true = (λ e m. all.0 e, λ h. all.1 (h refl))
    go false = (λ e m. let z : ◌≡◌ {A = ℕ} 0 1 = cc in absurd (omega arith), λ h. refl)

pub edges_exactly : (flags : ℕ) (k : Known)
    → (edges_check flags k ≡ (Ok tt))
    ↔ ((edges_check flags (hidden k) ≡ (Ok tt))
    × (k.indexed ≡ true → (j : ℕ) → j ≤ k.keycount → start_at k.starts j ≡ degrees_from k.partners k.offsets (k.bits / 8) j 0))
unfolding edges_check
edges_exactly flags k =
    let w : ℕ = k.bits / 8 in
    let n : ℕ = k.keycount in
    let groups : Check = groups_from k.partners k.offsets w n 0 in
    let d = data_by flags k.edgecount k.dead (degrees_from k.partners k.offsets w n 0) (dense_from k.partners k.offsets w n 0) (stray_in k) in (
      λ e.
          let x = fine_parts groups _ e in
          let y = d.0 (good_parts Refusal.Data _ x.1) in
          (fine_both x.0 (good_fine Refusal.Data y.0), (stray_exactly k).0 y.1),
      λ h.
          let x = fine_parts groups _ h.0 in
          fine_both x.0 (good_fine Refusal.Data (d.1 (good_parts Refusal.Data _ x.1, (stray_exactly k).1 h.1))),
    )

-- and a stray entry, where all groups are good, is told by 23
pub stray_told : (flags : ℕ) (k : Known) → groups_from k.partners k.offsets (k.bits / 8) k.keycount 0 ≡ (Ok tt) → stray_in k ≡ true → edges_check flags k ≡ Err Refusal.Data
unfolding edges_check
stray_told flags k fine e =
    fine_then _ fine ∙ go (data_good flags k.edgecount k.dead (degrees_from k.partners k.offsets (k.bits / 8) k.keycount 0) (dense_from k.partners k.offsets (k.bits / 8) k.keycount 0) (stray_in k)) refl
  where
    go : (b : Bool) → data_good flags k.edgecount k.dead (degrees_from k.partners k.offsets (k.bits / 8) k.keycount 0) (dense_from k.partners k.offsets (k.bits / 8) k.keycount 0) (stray_in k) ≡ b
        → refuse Refusal.Data (not b) ≡ Err Refusal.Data
    go true g = let x = ((data_by flags k.edgecount k.dead (degrees_from k.partners k.offsets (k.bits / 8) k.keycount 0) (dense_from k.partners k.offsets (k.bits / 8) k.keycount 0) (stray_in k)).0 g).1 in let z : ◌≡◌ {A = ℕ} 0 1 = cc (e, x) in absurd (omega arith)
    go false g = refl
