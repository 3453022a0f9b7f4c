-- Which refusals of a lookup are opening's, and when a lookup tells a fault of a group, 14 at it or 19, exactly.
use Rattle.std.specs.Prelude.{◌≡◌, refl, ◌↔◌, ℕ, List, [], ◌∷◌, Bool, true, false, Ok, Err}
use Rattle.std.proofs.Common.{sym, ap, ◌∙◌, arith}
use Rattle.std.proofs.Math.Logic.Iff.{trans as iff_trans}
use Rattle.refusal.specs.declared.Refusal.{Refusal}
use Rattle.refusal.specs.Refusal.{number_of}
use Rattle.refusal.proofs.Laws.Check.{listed, numbers_bad, not_given}
use Rattle.frame.specs.declared.Opened.{Opened}
use Rattle.frame.specs.Given.{opening_numbers}
use Rattle.frame.proofs.Laws.Given.{opening_numbers_lem}
use Rattle.frame.specs.Open.{known_of, record_of, record_good, file_check, open_of}
use Rattle.frame.proofs.Laws.Open.{opens_fine, opens_record, opens_refused}
use Rattle.group.specs.declared.fault.Fault.{Fault}
use Rattle.group.specs.Fault.{refusal_of}
use Rattle.group.proofs.Laws.Fault.{fault_apart}
use Rattle.lookup.specs.Lookup.{Rooms, refused, look_in, look_with, look_of}
use Rattle.lookup.specs.Given.{look_numbers, FaultIn, UnplacedIn, MisplacedIn}
use Rattle.lookup.proofs.Laws.Given.{look_numbers_lem, look_fault, look_misplaced, look_unplaced}
use Rattle.reader.proofs.Laws.Look.{with_bad, with_good, of_refused, of_good}
use Rattle.frame.specs.Opening.{Opening}

module _ (full : Bool) (rooms : Rooms) (key : ℕ) (f : List ℕ) where
  -- a refusal that no lookup gives after opening is a lookup's exactly if it is opening's
  pub look_opening : (r : Refusal) → listed (number_of r) look_numbers ≡ false → (look_of full rooms key f ≡ refused r) ↔ (file_check f ≡ Err r)
  look_opening r h = (λ e. go (open_of f) refl e, λ e. of_refused full rooms key f r ((opens_refused f r).1 e))
    where
      go : (x : Opening) → open_of f ≡ x → look_of full rooms key f ≡ refused r → file_check f ≡ Err r
      go (Ok o) q e = let z : ◌≡◌ {A = ℕ} 0 1 = cc (look_numbers_lem full rooms (known_of f o) key r (sym (of_good full rooms key f o q) ∙ e), h) in absurd (omega arith)
      go (Err s) q e =
          let d : refused s ≡ refused r = sym (of_refused full rooms key f s q) ∙ e in
          let same : s ≡ r = cc in (opens_refused f r).0 (q ∙ ap Err same)

  -- a refusal that opening never gives: the file opens, and the lookup in it is refused so
  look_of_told : (r : Refusal) → (file_check f ≡ Err r → ⊥) → (look_of full rooms key f ≡ refused r) ↔ ((file_check f ≡ (Ok tt)) × (look_in full rooms (known_of f (record_of f)) key ≡ refused r))
  look_of_told r never = (
    λ e. go (open_of f) refl e,
    λ h. of_good full rooms key f (record_of f) ((opens_fine f).1 h.0) ∙ h.1,
  )
    where
      go : (x : Opening) → open_of f ≡ x → look_of full rooms key f ≡ refused r → (file_check f ≡ (Ok tt)) × (look_in full rooms (known_of f (record_of f)) key ≡ refused r)
      go (Ok o) q e =
          let same : record_of f ≡ o = opens_record f o q in
          let told : look_in full rooms (known_of f o) key ≡ refused r = sym (of_good full rooms key f o q) ∙ e in
          ((opens_fine f).0 (q ∙ ap Ok (sym same)), rw same told)
      go (Err s) q e =
          let d : refused s ≡ refused r = sym (of_refused full rooms key f s q) ∙ e in
          let same : s ≡ r = cc in
          absurd (never ((opens_refused f r).0 (q ∙ ap Err same)))

  -- by a record, whoever filled it, a refusal that is not 21: 21 passes
  look_with_told : (o : Opened) (r : Refusal) → (Refusal.Record ≡ r → ⊥) → (look_with full rooms key f o ≡ refused r) ↔ ((record_good f o ≡ true) × (look_in full rooms (known_of f o) key ≡ refused r))
  look_with_told o r never = (
    λ e. go (record_good f o) refl e,
    λ h. with_good full rooms key f o h.0 ∙ h.1,
  )
    where
      go : (t : Bool) → record_good f o ≡ t → look_with full rooms key f o ≡ refused r → (record_good f o ≡ true) × (look_in full rooms (known_of f o) key ≡ refused r)
      go true q e = (q, sym (with_good full rooms key f o q) ∙ e)
      go false q e =
          let d : refused Refusal.Record ≡ refused r = sym (with_bad full rooms key f o q) ∙ e in
          let same : Refusal.Record ≡ r = cc in
          absurd (never same)

  both : {A B C : Type 0} → B ↔ C → (A × B) ↔ (A × C)
  both is = (λ h. (h.0, is.0 h.1), λ h. (h.0, is.1 h.1))

  -- a fault of group i, which is that of the key
  pub look_of_fault : (i : ℕ) (fault : Fault) → (look_of full rooms key f ≡ refused (refusal_of i fault)) ↔ ((file_check f ≡ (Ok tt)) × FaultIn (known_of f (record_of f)) key i fault)
  look_of_fault i fault =
      iff_trans (look_of_told (refusal_of i fault) (fault_apart i fault opening_numbers (opening_numbers_lem f) refl))
      (both (look_fault full rooms (known_of f (record_of f)) key i fault))

  pub look_with_fault : (o : Opened) (i : ℕ) (fault : Fault) → (look_with full rooms key f o ≡ refused (refusal_of i fault)) ↔ ((record_good f o ≡ true) × FaultIn (known_of f o) key i fault)
  look_with_fault o i fault =
      iff_trans
      (look_with_told o (refusal_of i fault) (λ e. fault_apart i fault (21 ∷ []) (numbers_bad (21 ∷ []) Refusal.Record refl) refl (ap Err e)))
      (both (look_fault full rooms (known_of f o) key i fault))

  -- 19 of a file, and by a record; 14 by a record
  pub look_of_unplaced : (i : ℕ) → (look_of full rooms key f ≡ refused (Refusal.Degrees i)) ↔ ((file_check f ≡ (Ok tt)) × ((full ≡ true) × UnplacedIn (known_of f (record_of f)) key i))
  look_of_unplaced i =
      iff_trans (look_of_told (Refusal.Degrees i) (not_given opening_numbers (opening_numbers_lem f) (Refusal.Degrees i) refl)) (both (look_unplaced full rooms (known_of f (record_of f)) key i))

  pub look_with_unplaced : (o : Opened) (i : ℕ) → (look_with full rooms key f o ≡ refused (Refusal.Degrees i)) ↔ ((record_good f o ≡ true) × ((full ≡ true) × UnplacedIn (known_of f o) key i))
  look_with_unplaced o i =
      iff_trans (look_with_told o (Refusal.Degrees i) (λ e. let z : ◌≡◌ {A = ℕ} 0 1 = cc in omega arith)) (both (look_unplaced full rooms (known_of f o) key i))

  pub look_with_misplaced : (o : Opened) (i : ℕ) → (look_with full rooms key f o ≡ refused (Refusal.Offset i)) ↔ ((record_good f o ≡ true) × MisplacedIn (known_of f o) key i)
  look_with_misplaced o i =
      iff_trans (look_with_told o (Refusal.Offset i) (λ e. let z : ◌≡◌ {A = ℕ} 0 1 = cc in omega arith)) (both (look_misplaced full rooms (known_of f o) key i))
