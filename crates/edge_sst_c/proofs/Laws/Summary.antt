-- What the summary's call for C tells of the library's answer.
use Rattle.std.specs.Prelude.{◌≡◌, ℕ, List, Option, Some, None, Result, Ok, Err}
use Rattle.std.proofs.Common.{sym, ap, ◌∙◌}
use Rattle.codes.specs.declared.ids.Id.{Id}
use Rattle.codes.specs.Ids.{id_bytes}
use Rattle.summary.specs.declared.figures.Extremes.{Extremes}
use Rattle.summary.specs.declared.figures.Summary.{Summary}
use Rattle.summary.specs.Summary.{nothing}
use Rattle.refusal.specs.declared.Refusal.{Refusal}
use Rattle.edge_sst_c.specs.Desk.{check_told}
use Rattle.edge_sst_c.specs.Summary.{none_told, extremes_told, figures_told, summary_told}

-- ---- laws

pub told_none : (x : Option Extremes) → x ≡ None → none_told ≡ extremes_told x
unfolding extremes_told
told_none x e = sym (ap extremes_told e)

pub told_some : (x : Option Extremes) (a b : Id) (s l : ℕ) {p q : List ℕ} → x ≡ Some (record { smallestkey = a; largestkey = b; smallestlog = s; largestlog = l }) → p ≡ id_bytes a → q ≡ id_bytes b
    → record { there = 1; smallestkey = p; largestkey = q; smallestlog = s; largestlog = l } ≡ extremes_told x
unfolding extremes_told
told_some x a b s l e p q = (λ i. record { there = 1; smallestkey = p i; largestkey = q i; smallestlog = s; largestlog = l }) ∙ sym (ap extremes_told e)

pub summary_good : {x : Result Summary Refusal} {s : Summary} → x ≡ Ok s → summary_told x ≡ figures_told (check_told (Ok tt)) s (extremes_told s.extremes)
unfolding summary_told
summary_good e = rw e

pub summary_refused : {x : Result Summary Refusal} {r : Refusal} → x ≡ Err r → summary_told x ≡ figures_told (check_told (Err r)) nothing none_told
unfolding summary_told
summary_refused e = rw e
