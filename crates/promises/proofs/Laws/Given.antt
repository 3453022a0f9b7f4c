-- Refusals by document 01's numbers and places, and that a refusal of opening is every call's on the file.
use Rattle.std.specs.Prelude.{◌≡◌, refl, ◌↔◌, ℕ, List, true, false, Err}
use Rattle.std.proofs.Common.{sym, ap, ◌∙◌, arith}
use Rattle.std.proofs.Math.Logic.Iff.{trans as iff_trans}
use Rattle.refusal.specs.declared.Refusal.{Refusal}
use Rattle.refusal.specs.Refusal.{number_of, place_of, beside_of}
use Rattle.refusal.proofs.Laws.Refusal.{told_once}
use Rattle.refusal.proofs.Laws.Check.{listed}
use Rattle.frame.specs.Open.{file_check, open_of}
use Rattle.frame.specs.Given.{opening_numbers}
use Rattle.frame.proofs.Laws.Open.{opens_refused}
use Rattle.lookup.specs.Lookup.{refused, look_of}
use Rattle.lookup.specs.Given.{look_numbers}
use Rattle.reader.specs.Header.{header_of}
use Rattle.reader.proofs.Laws.Header.{header_opening}
use Rattle.reader.proofs.Laws.Given.{look_opening}
use Rattle.full_check.specs.Full.{full_check, checked_of}
use Rattle.full_check.specs.Checked.{checked_bad, checked_refused}
use Rattle.full_check.specs.Given.{full_opening}
use Rattle.readout.specs.ReadOut.{read_out_of}
use Rattle.readout.specs.ReadOut.Laws.{read_full}
use Rattle.summary.specs.Summary.{summarised_of}
use Rattle.summary.proofs.Laws.Promise.{summary_refuses}
use Rattle.listing.specs.List.{listed_of}
use Rattle.listing.proofs.Laws.List.{list_opening}
use Rattle.promises.specs.Given.{Gives, Every}
use Rattle.refusal.specs.Check.{Check}

-- number and places tell which it is
pub gives_is : {A : Type 0} (refusing : Refusal → A) (a : A) (r : Refusal) → Gives refusing a (number_of r) (place_of r) (beside_of r) ↔ (a ≡ refusing r)
gives_is refusing a r = (λ g. g.is ∙ ap refusing (told_once g.refusal r g.number g.place g.beside), λ e. record { refusal = r; is = e; number = refl; place = refl; beside = refl })

-- of a check: one number and one place, and one beside it
pub gives_one : (c : Check) (n m p q s t : ℕ) → Gives Err c n p s → Gives Err c m q t → (n ≡ m) × (p ≡ q) × (s ≡ t)
gives_one c n m p q s t a b =
    let same : Err a.refusal ≡ Err b.refusal = sym a.is ∙ b.is in
    let one : a.refusal ≡ b.refusal = cc in
    (sym a.number ∙ ap number_of one ∙ b.number, sym a.place ∙ ap place_of one ∙ b.place, sym a.beside ∙ ap beside_of one ∙ b.beside)

-- the full check's answers are one
pub checked_is : (f : List ℕ) (r : Refusal) → (checked_of f ≡ Err r) ↔ (full_check f ≡ Err r)
checked_is f r = (checked_refused f r, checked_bad f r)

-- a number of opening is not 20
not_room : (r : Refusal) → listed (number_of r) opening_numbers ≡ true → number_of r ≡ 20 → ⊥
not_room r o e = let z : ◌≡◌ {A = ℕ} 0 1 = cc in omega arith

-- a refusal of opening whose number no lookup gives after it, so every one but 14, is every call's
pub every : (f : List ℕ) (r : Refusal) → listed (number_of r) opening_numbers ≡ true → listed (number_of r) look_numbers ≡ false → {A : Type 0} → (file_check f ≡ Err r) ↔ A → Every f (number_of r) (place_of r) (beside_of r) A
every f r o l is =
    let full = iff_trans (full_opening f r o) is in record {
      opening = iff_trans (gives_is Err (open_of f) r) (iff_trans (opens_refused f r) is);
      header = iff_trans (gives_is Err (header_of f) r) (iff_trans (header_opening f r) is);
      lookup = λ full rooms key. iff_trans (gives_is refused (look_of full rooms key f) r) (iff_trans (look_opening full rooms key f r l) is);
      check = iff_trans (gives_is Err (full_check f) r) full;
      checked = iff_trans (gives_is Err (checked_of f) r) (iff_trans (checked_is f r) full);
      read_out = λ room. iff_trans (gives_is Err (read_out_of f room) r) (iff_trans (read_full f room r (not_room r o)) full);
      summary = iff_trans (gives_is Err (summarised_of f) r) (iff_trans (summary_refuses f r) full);
      sections = λ room. iff_trans (gives_is Err (listed_of f room) r) (iff_trans (list_opening f room r (not_room r o)) is);
    }
