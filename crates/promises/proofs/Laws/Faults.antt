-- "Say what is wrong with a group": each number of a group's faults is given by every call on the file exactly where that fault is the
-- first in the order of checks, at the byte inside the group, with the group beside it.
use Rattle.std.specs.Prelude.{◌≡◌, refl, ◌↔◌, ℕ, ◌+◌, List, [], ◌∷◌, Bool, true, Ok, Err}
use Rattle.std.proofs.Common.{sym, ◌∙◌, arith}
use Rattle.std.proofs.Math.Logic.Iff.{trans as iff_trans}
use Rattle.refusal.specs.declared.Refusal.{Refusal}
use Rattle.refusal.specs.Refusal.{number_of, is_gone}
use Rattle.refusal.proofs.Laws.Refusal.{not_gone}
use Rattle.frame.specs.declared.Opened.{Opened}
use Rattle.frame.specs.Frame.{record_of}
use Rattle.frame.specs.Open.{Known, key_at, known_of, bytes_at, record_good, file_check, open_of}
use Rattle.frame.proofs.Laws.Open.{opens_fine, opens_refused}
use Rattle.frame.specs.Given.{opening_numbers}
use Rattle.frame.proofs.Laws.Given.{opening_numbers_lem}
use Rattle.index.specs.Find.Laws.{find_sound, find_complete}
use Rattle.group.specs.declared.fault.Flaw.{Flaw}
use Rattle.group.specs.declared.fault.Fault.{Fault}
use Rattle.group.specs.Fault.{fault_at, refusal_of, number_for}
use Rattle.group.proofs.Laws.Fault.{fault_number, fault_place, fault_beside, fault_unlisted, fault_apart}
use Rattle.group.proofs.Laws.Wrong.{wrong_exactly}
use Rattle.lookup.specs.Lookup.{Rooms, refused, look_of, look_with}
use Rattle.lookup.specs.Given.{FaultIn}
use Rattle.reader.specs.Header.{header_of}
use Rattle.reader.proofs.Laws.Header.{header_opening}
use Rattle.reader.proofs.Laws.Opened.{opened_keys, opened_offsets}
use Rattle.reader.proofs.Laws.Given.{look_of_fault, look_with_fault, look_of_unplaced, look_with_unplaced, look_with_misplaced}
use Rattle.full_check.specs.Full.{full_check, checked_of}
use Rattle.full_check.specs.Given.{FaultFirst, full_fault}
use Rattle.readout.specs.ReadOut.{read_out_of}
use Rattle.readout.specs.ReadOut.Laws.{read_full}
use Rattle.summary.specs.Summary.{summarised_of}
use Rattle.summary.proofs.Laws.Promise.{summary_refuses}
use Rattle.listing.specs.List.{listed_of}
use Rattle.listing.proofs.Laws.List.{list_opening}
use Rattle.promises.specs.Given.{Gives}
use Rattle.promises.proofs.Laws.Given.{gives_is, checked_is}
use Rattle.promises.specs.Faults.{WrongAsked, WrongIn, WrongChecked, Faulty, Kept}

module _ (f : List ℕ) (i : ℕ) (w : Flaw) (b : ℕ) where
  abbrev fault : Fault
  fault = fault_at w b

  abbrev told : Refusal
  told = refusal_of i fault

  found_in : (k : Known) (key : ℕ) → FaultIn k key i fault ↔ WrongIn k key i w b
  found_in k key = (
    λ t. record { compared = t.compared; found = t.found; rises = t.rises; inside = t.inside; group = (wrong_exactly _ w b).0 t.group },
    λ t. record { compared = t.compared; found = t.found; rises = t.rises; inside = t.inside; group = (wrong_exactly _ w b).1 t.group },
  )

  -- a group of a file that opens lies within the partners
  asked : (key : ℕ) → ((file_check f ≡ (Ok tt)) × FaultIn (known_of f (record_of f)) key i fault) ↔ WrongAsked f key i w b
  unfolding known_of
  asked key = (
    λ h. record { opens = (opens_fine f).1 h.0; compared = h.1.compared; found = h.1.found; wrong = (wrong_exactly _ w b).0 h.1.group },
    λ t.
        let up = opened_offsets f (record_of f) t.opens in
        let lt = (find_sound (bytes_at f (record_of f).keys) (record_of f).keycount key i t.compared t.found).0 in
        let rise = up.above i lt in
        let end = up.within (i + 1) (omega arith) in
        ((opens_fine f).0 t.opens, record { compared = t.compared; found = t.found; rises = omega arith; inside = end; group = (wrong_exactly _ w b).1 t.wrong }),
  )

  by_record : (o : Opened) (key : ℕ) → ((record_good f o ≡ true) × FaultIn (known_of f o) key i fault) ↔ ((record_good f o ≡ true) × WrongIn (known_of f o) key i w b)
  by_record o key = (λ h. (h.0, (found_in (known_of f o) key).0 h.1), λ h. (h.0, (found_in (known_of f o) key).1 h.1))

  first : FaultFirst f i fault ↔ WrongChecked f i w b
  first = (
    λ t.
        let h = t.groups.within in record {
          opens = (opens_fine f).1 t.opens;
          sums = t.summed;
          within = omega arith;
          before = λ j l. t.groups.before j (omega arith) l;
          wrong = (wrong_exactly _ w b).0 t.groups.fault;
        },
    λ t.
        let h = t.within in record {
          opens = (opens_fine f).0 t.opens;
          summed = t.sums;
          groups = record { least = omega arith; within = omega arith; before = λ j l m. t.before j m; fault = (wrong_exactly _ w b).1 t.wrong };
        },
  )

  unopened : file_check f ≡ Err told → ⊥
  unopened = fault_apart i fault opening_numbers (opening_numbers_lem f) refl

  -- the number and both places tell the fault
  gives_fault : {A : Type 0} (refusing : Refusal → A) (a : A) → Gives refusing a (number_for w) b i ↔ (a ≡ refusing told)
  gives_fault refusing a =
      iff_trans (
        λ g. record {
          refusal = g.refusal;
          is = g.is;
          number = g.number ∙ sym (fault_number i fault);
          place = g.place ∙ sym (fault_place i fault);
          beside = g.beside ∙ sym (fault_beside i fault);
        },
        λ g. record {
          refusal = g.refusal;
          is = g.is;
          number = g.number ∙ fault_number i fault;
          place = g.place ∙ fault_place i fault;
          beside = g.beside ∙ fault_beside i fault;
        },
      )
      (gives_is refusing a told)

  not_room : number_of told ≡ 20 → ⊥
  not_room e = let z : ◌≡◌ {A = ℕ} 0 1 = cc (fault_unlisted i fault (20 ∷ []) refl, e) in omega arith

  pub faulty : Faulty f i w b (number_for w)
  faulty =
      let full = iff_trans (full_fault f i fault) first in record {
        lookup = λ full rooms key. iff_trans (gives_fault refused (look_of full rooms key f)) (iff_trans (look_of_fault full rooms key f i fault) (asked key));
        lookup_with = λ full rooms key o. iff_trans (gives_fault refused (look_with full rooms key f o)) (iff_trans (look_with_fault full rooms key f o i fault) (by_record o key));
        check = iff_trans (gives_fault Err (full_check f)) full;
        checked = iff_trans (gives_fault Err (checked_of f)) (iff_trans (checked_is f told) full);
        read_out = λ room. iff_trans (gives_fault Err (read_out_of f room)) (iff_trans (read_full f room told not_room) full);
        summary = iff_trans (gives_fault Err (summarised_of f)) (iff_trans (summary_refuses f told) full);
        opening = λ g. unopened ((opens_refused f told).0 ((gives_fault Err (open_of f)).0 g));
        header = λ g. unopened ((header_opening f told).0 ((gives_fault Err (header_of f)).0 g));
        sections = λ room g. unopened ((list_opening f room told not_room).0 ((gives_fault Err (listed_of f room)).0 g));
      }

-- both users are told the same: a fault of group i that the full check tells is told by a lookup of that group's key, in any room
pub same_fault : (f : List ℕ) (i : ℕ) (w : Flaw) (b : ℕ) → Gives Err (full_check f) (number_for w) b i
    → (full : Bool) (rooms : Rooms) → Gives refused (look_of full rooms (key_at (bytes_at f (record_of f).keys) i) f) (number_for w) b i
same_fault f i w b g full rooms =
    let t = (faulty f i w b).check.0 g in
    let keys = bytes_at f (record_of f).keys in
    let n = (record_of f).keycount in
    let (c, at) = find_complete keys n (opened_keys f (record_of f) t.opens) (key_at keys i) i t.within refl in
    ((faulty f i w b).lookup full rooms (key_at keys i)).1 (record { opens = t.opens; compared = c; found = at; wrong = t.wrong })

pub kept : (f : List ℕ) (i : ℕ) → Kept f i
kept f i = record {
  offsets = λ full rooms key o. iff_trans (gives_is refused (look_with full rooms key f o) (Refusal.Offset i)) (look_with_misplaced full rooms key f o i);
  degrees = λ full rooms key. iff_trans (gives_is refused (look_of full rooms key f) (Refusal.Degrees i)) (look_of_unplaced full rooms key f i);
  degrees_with = λ full rooms key o. iff_trans (gives_is refused (look_with full rooms key f o) (Refusal.Degrees i)) (look_with_unplaced full rooms key f o i);
}

-- a number that is given no longer is given by no call
never_gone : {A : Type 0} (refusing : Refusal → A) (a : A) (n p s : ℕ) → is_gone n ≡ true → Gives refusing a n p s → ⊥
never_gone refusing a n p s e g = let z : ◌≡◌ {A = ℕ} 0 1 = cc (not_gone g.refusal, g.number, e) in omega arith

pub never_17 : {A : Type 0} (refusing : Refusal → A) (a : A) (p s : ℕ) → Gives refusing a 17 p s → ⊥
never_17 refusing a p s = never_gone refusing a 17 p s refl

pub never_18 : {A : Type 0} (refusing : Refusal → A) (a : A) (p s : ℕ) → Gives refusing a 18 p s → ⊥
never_18 refusing a p s = never_gone refusing a 18 p s refl
