-- Rules 14, 15, 23 and 37 of the writer's sections: offsets, fences, marks, start index.
use Rattle.std.specs.Prelude.{◌≡◌, List, [], ◌∷◌, ◌++◌, Bool, not, ◌||◌, length, get_or, ltb, eqb, Ok, Err}
use Rattle.std.proofs.Math.Path.{refl, ap₂}
use Rattle.std.proofs.Common.{sym, ap, ◌∙◌, zero-add, length-append}
use Prim.Native.Nat.{ℕ, zero, suc, ◌+◌, ◌-◌, ◌*◌, ◌/◌, ◌^◌, ◌≤◌, ◌<◌}
use native.Mathlib.Omega.{arith}
use Rattle.std.proofs.Math.Bool.{true, false}
use Rattle.std.proofs.Math.ListN.{get_or-eq_default}
use Rattle.std.proofs.Math.Seq.{append_snoc}
use borrow.Author.Tests.{lt-ltb, eq-eqb, ne_eqb, eqb-true}
use Rattle.batch.specs.Batch.{marks_in}
use Rattle.base.specs.Pick.{pick}
use Rattle.codes.specs.Ids.{id_number}
use Rattle.refusal.specs.declared.Refusal.{Refusal}
use Rattle.refusal.proofs.Laws.Check.{fine_pick, and_both}
use Rattle.frame.specs.Kind as kind
use Rattle.frame.specs.Open.{offset_at, offset_good, rising_from, offsets_check, start_at, starts_check}
use Rattle.batch.specs.declared.Edge.{Edge}
use Rattle.batch_groups.specs.Groups.{any_dead, Group, flat, Grouped}
use Rattle.write_image.specs.Image.{partner_bytes, offset_bytes, tomb_bytes, start_bytes}
use Rattle.write_image.specs.Image.Laws.{length_tombs, start_first, start_next, start_last}
use Rattle.full_check.specs.Full.{dead_from}
use Rattle.demand2.proofs.Laws.Rows.{length_marks_in, marks_at}
use Rattle.demand2.proofs.Laws.Contents.{offset_rises, offset_first, offset_last, tombs, mark_is}

-- ---- groups by their number

pub cut_at : (l : List Group) (i : ℕ) → i < length l → (gs : List Group) × (g : Group) × (hs : List Group) × (l ≡ gs ++ g ∷ hs) × (length gs ≡ i)
cut_at [] i h = absurd (omega arith)
cut_at (x ∷ l) zero h = ([], x, l, refl, refl)
cut_at (x ∷ l) (suc i) h = let (gs, g, hs, e, q) = cut_at l i (omega arith) in (x ∷ gs, g, hs, ap (λ (t : List Group). x ∷ t) e, ap suc q)

-- ---- rules 14 and 37: numbers that rise from 0 to the last

module _ (told : ℕ → Refusal) (os : List ℕ) (w n len : ℕ) (start : offset_at os w 0 ≡ 0) (rises : (i : ℕ) → i < n → offset_at os w i < offset_at os w (i + 1)) (end : offset_at os w n ≡ len) where
  good : (i : ℕ) → i ≤ n → offset_good os w n len i ≡ true
  unfolding offset_good
  good i h = and_both (first i h) (last (eqb i n) refl)
    where
      first : (i : ℕ) → i ≤ n → pick (eqb i 0) (eqb (offset_at os w i) 0) (ltb (offset_at os w (i - 1)) (offset_at os w i)) ≡ true
      first zero h = eq-eqb (offset_at os w 0) 0 start
      first (suc i) h =
          let back : suc i - 1 ≡ i = omega arith in
          let next : i + 1 ≡ suc i = omega arith in
          let up : offset_at os w i < offset_at os w (suc i) = rw next at (rises i (omega arith)) in
          ap₂ (λ (x : Bool) (y : ℕ). pick x (eqb (offset_at os w (suc i)) 0) (ltb (offset_at os w y) (offset_at os w (suc i)))) (ne_eqb (suc i) 0 (λ q. omega arith)) back
          ∙ lt-ltb (offset_at os w i) (offset_at os w (suc i)) up

      last : (b : Bool) → eqb i n ≡ b → (not b || eqb (offset_at os w i) len) ≡ true
      last true q =
          let z : i ≡ n = eqb-true i n q in
          eq-eqb (offset_at os w i) len (ap (offset_at os w) z ∙ end)
      last false q = refl

  fine_from : (d i : ℕ) → i + d ≡ n + 1 → rising_from told d os w n len i ≡ (Ok tt)
  unfolding rising_from
  fine_from zero i h = refl
  fine_from (suc d) i h = fine_pick (Err (told i)) (good i (omega arith)) (fine_from d (i + 1) (omega arith))

  rising_fine : rising_from told (n + 1) os w n len 0 ≡ (Ok tt)
  rising_fine = fine_from (n + 1) 0 (zero-add (n + 1))

module _ (all : List Group) (w : ℕ) (small : length (partner_bytes (length all) all) < 2 ^ (8 * w)) where
  pub offsets_fine : offsets_check (offset_bytes w (length all) 0 all) w (length all) (length (partner_bytes (length all) all)) ≡ (Ok tt)
  offsets_fine =
      rising_fine Refusal.Offset (offset_bytes w (length all) 0 all) w (length all) (length (partner_bytes (length all) all)) (offset_first all w small)
      (λ i h. let (gs, g, hs, e, q) = cut_at all i h in let up = offset_rises all w small gs g hs e in rw (← q) up)
      (offset_last all w small)

-- a group has an edge
group_edge : (gs : List Group) (g : Group) (hs : List Group) (floor : ℕ) → Grouped floor (gs ++ g ∷ hs) → length g.edges ≡ 0 → ⊥
unfolding Grouped
group_edge [] g hs floor o = o.2
group_edge (x ∷ gs) g hs floor o = group_edge gs g hs (suc (id_number x.key)) o.4

module _ (all : List Group) (o : Grouped 0 all) (small : length (flat all) < 2 ^ 64) where
  pub starts_fine : starts_check (start_bytes all) (length all) (length (flat all)) ≡ (Ok tt)
  starts_fine =
      rising_fine Refusal.Start (start_bytes all) kind.start_size (length all) (length (flat all)) (start_first all small)
      (λ i h.
      let (gs, g, hs, e, q) = cut_at all i h in
      let more = start_next all small gs g hs e in
      let some : 1 ≤ length g.edges = let no = group_edge gs g hs 0 (rw e at o) in omega arith in
      let up : start_at (start_bytes all) (length gs) < start_at (start_bytes all) (length gs + 1) = omega arith in
      rw (← q) up)
      (start_last all small)

-- ---- rule 23: marks

module _ (es : List Edge) where
  -- one of d marks from mark e on
  some_from : ℕ → List Bool → ℕ → Bool
  some_from zero ds e = false
  some_from (suc d) ds e = get_or ds e false || some_from d ds (e + 1)

  dead_some : (d e : ℕ) → e + d ≤ 8 * ((length es + 7) / 8) → dead_from d (tombs es) e ≡ some_from d (marks_in es) e
  unfolding dead_from some_from
  dead_some zero e h = refl
  dead_some (suc d) e h = ap₂ (λ (x y : Bool). x || y) (mark_is es e (omega arith)) (dead_some d (e + 1) (omega arith))

  -- past the last edge there is no mark
  some_past : (d e : ℕ) → length es ≤ e → some_from d (marks_in es) e ≡ false
  unfolding some_from
  some_past zero e h = refl
  some_past (suc d) e h =
      let l = length_marks_in es in
      ap₂ (λ (x y : Bool). x || y) (get_or-eq_default (marks_in es) false {n = e} (omega arith)) (some_past d (e + 1) (omega arith))

-- the marks of all edges, from the edges xs on
some_all : (es xs ys : List Edge) → es ≡ xs ++ ys → some_from es (length ys) (marks_in es) (length xs) ≡ any_dead ys
unfolding some_from any_dead
some_all es xs [] e = refl
some_all es xs (y ∷ ys) e =
    let e' : es ≡ (xs ++ (y ∷ [])) ++ ys = e ∙ sym (append_snoc xs y ys) in
    let i : length (xs ++ (y ∷ [])) ≡ length xs + 1 = length-append xs (y ∷ []) in
    let m : get_or (marks_in es) (length xs) false ≡ y.dead = ap (λ (t : List Edge). get_or (marks_in t) (length xs) false) e ∙ marks_at xs y ys in
    ap₂ (λ (x z : Bool). x || z) m (ap (some_from es (length ys) (marks_in es)) (sym i) ∙ some_all es (xs ++ (y ∷ [])) ys e')

pub dead_back : (es : List Edge) → dead_from (length es) (tombs es) 0 ≡ any_dead es
dead_back es = dead_some es (length es) 0 (omega arith) ∙ some_all es [] es refl

pub unused_back : (es : List Edge) → dead_from (8 * length (tombs es) - length es) (tombs es) (length es) ≡ false
unused_back es = go (any_dead es) refl
  where
    go : (b : Bool) → any_dead es ≡ b → dead_from (8 * length (tombs es) - length es) (tombs es) (length es) ≡ false
    go true q =
        let t : tombs es ≡ tomb_bytes es = ap (λ (x : Bool). pick x (tomb_bytes es) []) q in
        let l : length (tombs es) ≡ (length es + 7) / 8 = ap length t ∙ length_tombs es in
        dead_some es (8 * length (tombs es) - length es) (length es) (omega arith) ∙ some_past es (8 * length (tombs es) - length es) (length es) (omega arith)
    go false q =
        let t : tombs es ≡ [] = ap (λ (x : Bool). pick x (tomb_bytes es) []) q in
        let l : 8 * length (tombs es) - length es ≡ 0 = let z : length (tombs es) ≡ 0 = ap length t in omega arith in
        dead_some es (8 * length (tombs es) - length es) (length es) (omega arith) ∙ some_past es (8 * length (tombs es) - length es) (length es) (omega arith)
