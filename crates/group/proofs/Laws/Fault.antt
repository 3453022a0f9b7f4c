-- The laws of a fault's refusal, for callers that do not look at single faults.
use Rattle.std.specs.Prelude.{◌≡◌, refl, ℕ, ◌-◌, List, [], ◌∷◌, true, false, get_or, Err}
use Rattle.std.proofs.Common.{sym, ap, ◌∙◌}
use Rattle.codes.specs.declared.varint.Unread.{Unread}
use Rattle.refusal.specs.declared.Refusal.{Refusal}
use Rattle.refusal.specs.Refusal.{number_of, place_of, beside_of}
use Rattle.refusal.proofs.Laws.Check.{listed, none_in, none_listed, Numbers, not_given}
use Rattle.group.specs.declared.fault.Flaw.{Flaw}
use Rattle.group.specs.declared.fault.Fault.{Fault}
use Rattle.group.specs.Fault.{fault_at, flaw_of, refusal_of, number_for}
use Rattle.refusal.specs.Check.{Check}

-- the flaws, and their numbers in the same order
flaws : List Flaw
flaws = Flaw.Tag ∷ Flaw.Degree ∷ Flaw.Order ∷ Flaw.Upper ∷ Flaw.Cut ∷ Flaw.Spare ∷ Flaw.Number Unread.Cut ∷ Flaw.Number Unread.Long ∷ Flaw.Number Unread.Large ∷ []

abbrev pub fault_numbers : List ℕ
fault_numbers = 16 ∷ 28 ∷ 29 ∷ 30 ∷ 31 ∷ 32 ∷ 33 ∷ 34 ∷ 35 ∷ []

-- the place of a number among them
rank_told : ℕ → ℕ
rank_told n = n - 27

-- its number is the flaw's, its places are the byte and the group
record ToldAs (at i : ℕ) (w : Flaw) : Type 0 where
  listed_as : listed (number_for w) fault_numbers ≡ true
  number : number_of (flaw_of at i w) ≡ number_for w
  back : get_or flaws (rank_told (number_of (flaw_of at i w))) Flaw.Tag ≡ w
  place : place_of (flaw_of at i w) ≡ at
  beside : beside_of (flaw_of at i w) ≡ i

told_as : (at i : ℕ) (w : Flaw) → ToldAs at i w
unfolding flaws rank_told
told_as at i Flaw.Tag = record { listed_as = refl; number = refl; back = refl; place = refl; beside = refl }
told_as at i Flaw.Degree = record { listed_as = refl; number = refl; back = refl; place = refl; beside = refl }
told_as at i Flaw.Order = record { listed_as = refl; number = refl; back = refl; place = refl; beside = refl }
told_as at i Flaw.Upper = record { listed_as = refl; number = refl; back = refl; place = refl; beside = refl }
told_as at i Flaw.Cut = record { listed_as = refl; number = refl; back = refl; place = refl; beside = refl }
told_as at i Flaw.Spare = record { listed_as = refl; number = refl; back = refl; place = refl; beside = refl }
told_as at i (Flaw.Number Unread.Cut) = record { listed_as = refl; number = refl; back = refl; place = refl; beside = refl }
told_as at i (Flaw.Number Unread.Long) = record { listed_as = refl; number = refl; back = refl; place = refl; beside = refl }
told_as at i (Flaw.Number Unread.Large) = record { listed_as = refl; number = refl; back = refl; place = refl; beside = refl }

module _ (i : ℕ) (f : Fault) where
  is : ToldAs f.at i f.flaw
  is = told_as f.at i f.flaw

  pub fault_number : number_of (refusal_of i f) ≡ number_for f.flaw
  fault_number = is.number

  -- "a byte inside the group, the group's index beside it"
  pub fault_place : place_of (refusal_of i f) ≡ f.at
  fault_place = is.place

  pub fault_beside : beside_of (refusal_of i f) ≡ i
  fault_beside = is.beside

  -- it is one of the faults' numbers, so no other
  pub fault_listed : listed (number_of (refusal_of i f)) fault_numbers ≡ true
  fault_listed = ap (λ (n : ℕ). listed n fault_numbers) is.number ∙ is.listed_as

  pub fault_unlisted : (ns : List ℕ) → none_in fault_numbers ns ≡ true → listed (number_of (refusal_of i f)) ns ≡ false
  fault_unlisted ns e = none_listed fault_numbers ns (number_of (refusal_of i f)) e fault_listed

  pub fault_apart : (ns : List ℕ) {c : Check} → Numbers ns c → none_in fault_numbers ns ≡ true → c ≡ Err (refusal_of i f) → ⊥
  fault_apart ns n e = not_given ns n (refusal_of i f) (fault_unlisted ns e)

-- a refusal tells one fault of one group
pub fault_once : (i j : ℕ) (f g : Fault) → refusal_of i f ≡ refusal_of j g → (f ≡ g) × (i ≡ j)
fault_once i j f g e =
    let flaw : f.flaw ≡ g.flaw = sym (told_as f.at i f.flaw).back ∙ ap (λ (r : Refusal). get_or flaws (rank_told (number_of r)) Flaw.Tag) e ∙ (told_as g.at j g.flaw).back in
    let at : f.at ≡ g.at = sym (fault_place i f) ∙ ap place_of e ∙ fault_place j g in
    ((λ k. fault_at (flaw k) (at k)), sym (fault_beside i f) ∙ ap beside_of e ∙ fault_beside j g)
