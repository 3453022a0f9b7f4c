-- The full check of a file that opens, from the answers of its parts.
use Rattle.std.specs.Prelude.{◌≡◌, refl, ℕ, zero, suc, ◌+◌, ◌-◌, ◌*◌, ◌/◌, List, [], Bool, true, false, not, ◌&&◌, eqb, Result, Ok, Err}
use Rattle.std.proofs.Math.Path.{sym, ap}
use Rattle.std.proofs.Common.{◌∙◌, arith, ne_eqb}
use Rattle.std.specs.Bool.{beq}
use Rattle.base.specs.Pick.{pick}
use Rattle.refusal.specs.declared.Refusal.{Refusal}
use Rattle.refusal.specs.Check.{◌⊳◌, refuse, Check}
use Rattle.refusal.proofs.Laws.Check.{fine_parts, bad_then, fine_then}
use Rattle.frame.specs.declared.Opened.{Opened}
use Rattle.frame.specs.Frame.{rows_of, flag, flags_of, body_of}
use Rattle.frame.specs.Open.{known_of, record_of, bytes_at, file_check, opening, open_of}
use Rattle.frame.proofs.Laws.Open.{opens_record}
use Rattle.lookup.specs.Lookup.{mark_at}
use Rattle.lookup.proofs.Laws.Lookup.{mark_none}
use Rattle.full_check.specs.declared.groups.Groups.{Groups}
use Rattle.full_check.specs.declared.marks.Marks.{Marks}
use Rattle.full_check.specs.Full.{sums_from, dead_from, marks_of, data_good, edges_check, full_check, groups_told, groups_seen, checked_of}

-- ---- tombstones

-- without them every edge is live
pub dead_none : (d e : ℕ) → dead_from d [] e ≡ false
unfolding dead_from
dead_none zero e = refl
dead_none (suc d) e = rw (ne_eqb (mark_at [] e) 1 (λ q. let z = mark_none [] e (omega arith) in omega arith)) (dead_none d (e + 1))

module _ (x : List ℕ) (n : ℕ) where
  pub marks_there : {b : Bool} → b ≡ true → marks_of x n ≡ marks_of (pick b x []) n
  marks_there e = rw e

  pub marks_none : {b : Bool} → b ≡ false → record { dead = false; unused = false } ≡ marks_of (pick b x []) n
  marks_none e = rw e (λ i. record { dead = sym (dead_none n 0) i; unused = sym (dead_none (8 * 0 - n) n) i })

-- rule 23 from what was read
pub data_is : (flags e : ℕ) (s : List ℕ) (sum : ℕ) (dense stray : Bool) {g : ℕ} {m : Marks} {t u : Bool} → g ≡ flags → m ≡ marks_of s e
    → t ≡ (eqb sum e && (beq (flag 1 g) m.dead && (beq (flag 2 g) dense && (not m.unused && not stray)))) → t ≡ u → data_good flags e s sum dense stray ≡ u
unfolding data_good
data_is flags e s sum dense stray p q r v =
    (λ i. eqb sum e && (beq (flag 1 (sym p i)) (sym q i).dead && (beq (flag 2 (sym p i)) dense && (not (sym q i).unused && not stray)))) ∙ sym r ∙ v

-- ---- the groups' answer, taken apart

told_refused : (c : Check) (s : ℕ) (d v : Bool) (r : Refusal) → groups_told c s d v ≡ Err r → c ≡ Err r
unfolding groups_told
told_refused (Ok _) s d v r e = let z : ◌≡◌ {A = ℕ} 0 1 = cc in absurd (omega arith)
told_refused (Err q) s d v r e = cc

told_good : (c : Check) (s : ℕ) (d v : Bool) (t : ℕ) (b u : Bool) → groups_told c s d v ≡ Ok (record { edges = t; dense = b; stray = u }) → (c ≡ (Ok tt)) × (s ≡ t) × (d ≡ b) × (v ≡ u)
unfolding groups_told
told_good (Ok _) s d v t b u e =
    let same : ◌≡◌ {A = Groups} (record { edges = s; dense = d; stray = v }) (record { edges = t; dense = b; stray = u }) = cc in
    (refl, ap (λ (g : Groups). g.edges) same, ap (λ (g : Groups). g.dense) same, ap (λ (g : Groups). g.stray) same)
told_good (Err q) s d v t b u e = let z : ◌≡◌ {A = ℕ} 0 1 = cc in absurd (omega arith)

-- ---- groups, then rule 23

module _ (flags : ℕ) (f : List ℕ) (o : Opened) where
  abbrev groups : Result Groups Refusal
  groups = groups_seen (bytes_at f o.partners) (bytes_at f o.offsets) (o.bits / 8) o.keycount o.indexed (pick o.indexed (bytes_at f o.starts) [])

  abbrev pub tombstones : List ℕ
  tombstones = pick o.marked (bytes_at f o.dead) []

  pub edges_refused : (r : Refusal) → groups ≡ Err r → edges_check flags (known_of f o) ≡ Err r
  unfolding edges_check known_of groups_seen
  edges_refused r e = bad_then _ (told_refused _ _ _ _ r e)

  module _ (s : ℕ) (d v : Bool) (e : groups ≡ Ok (record { edges = s; dense = d; stray = v })) where
    parts : edges_check flags (known_of f o) ≡ refuse Refusal.Data (not (data_good flags o.edgecount tombstones s d v))
    unfolding edges_check known_of groups_seen
    parts =
        let t = told_good _ _ _ _ s d v e in
        fine_then _ t.0 ∙ (λ i. refuse Refusal.Data (not (data_good flags o.edgecount tombstones (t.1 i) (t.2 i) (t.3 i))))

    pub edges_good : data_good flags o.edgecount tombstones s d v ≡ true → (Ok tt) ≡ edges_check flags (known_of f o)
    edges_good q = sym (parts ∙ rw q)

    pub edges_bad : data_good flags o.edgecount tombstones s d v ≡ false → Err Refusal.Data ≡ edges_check flags (known_of f o)
    edges_bad q = sym (parts ∙ rw q)

-- ---- the whole check

open_refused : (c : Check) (o : Opened) (r : Refusal) → opening c o ≡ Err r → c ≡ Err r
unfolding opening
open_refused (Ok _) o r e = let z : ◌≡◌ {A = ℕ} 0 1 = cc in absurd (omega arith)
open_refused (Err q) o r e = cc

open_fine : (c : Check) (o p : Opened) → opening c o ≡ Ok p → c ≡ (Ok tt)
unfolding opening
open_fine (Ok _) o p e = refl
open_fine (Err q) o p e = let z : ◌≡◌ {A = ℕ} 0 1 = cc in absurd (omega arith)

module _ (f : List ℕ) where
  pub full_unopened : (r : Refusal) → open_of f ≡ Err r → full_check f ≡ Err r
  unfolding open_of full_check
  full_unopened r e = bad_then _ (open_refused (file_check f) (record_of f) r e)

  module _ (o : Opened) (e : open_of f ≡ Ok o) where
    pub full_opened : full_check f ≡ sums_from f (rows_of (body_of f)) 0 ⊳ edges_check (flags_of f) (known_of f o)
    unfolding open_of full_check
    full_opened =
        fine_then _ (open_fine (file_check f) (record_of f) o e)
        ∙ ap (λ (t : Opened). sums_from f (rows_of (body_of f)) 0 ⊳ edges_check (flags_of f) (known_of f t)) (opens_record f o e)

    pub checked_good : full_check f ≡ (Ok tt) → checked_of f ≡ Ok o
    unfolding checked_of opening
    checked_good q = rw q (ap Ok (opens_record f o e))

  pub checked_bad : (r : Refusal) → full_check f ≡ Err r → checked_of f ≡ Err r
  unfolding checked_of opening
  checked_bad r q = rw q

  -- from what the checked record says
  pub checked_refused : (r : Refusal) → checked_of f ≡ Err r → full_check f ≡ Err r
  unfolding checked_of
  checked_refused r e = open_refused (full_check f) (record_of f) r e

  pub checked_fine : (o : Opened) → checked_of f ≡ Ok o → full_check f ≡ (Ok tt)
  unfolding checked_of
  checked_fine o e = open_fine (full_check f) (record_of f) o e

  -- a file that passes opens to the same record
  pub checked_opened : (o : Opened) → checked_of f ≡ Ok o → open_of f ≡ Ok o
  unfolding checked_of open_of opening full_check
  checked_opened o e =
      let all = checked_fine o e in
      let file = (fine_parts (file_check f) _ all).0 in
      let good : Ok (record_of f) ≡ Ok o = sym (rw all) ∙ e in
      rw file good

  pub fine_checked : full_check f ≡ (Ok tt) → checked_of f ≡ Ok (record_of f)
  unfolding checked_of opening
  fine_checked e = rw e
