-- The laws of lookups.
use Rattle.std.specs.Prelude.{◌≡◌, refl, List, [], length, get_or, set, Ok}
use Rattle.std.proofs.Common.{sym, ◌∙◌, add-one}
use Rattle.std.proofs.Math.Path.{ap}
use Prim.Native.Nat.{ℕ, zero, suc, ◌+◌, ◌-◌, ◌*◌, ◌/◌, ◌%◌, ◌^◌, ◌≤◌, ◌<◌}
use Rattle.std.proofs.Math.Nat.{zero-div}
use native.Mathlib.Omega.{arith}
use Rattle.std.proofs.Math.ListN.{get_or-eq_default}
use Rattle.std.proofs.Math.Seq.{sets}
use Rattle.codes.specs.Little.{le_at}
use Rattle.lookup.specs.declared.Looked.{Looked}
use Rattle.lookup.specs.Lookup.{Outcome, found, absent, refused, logs_from, mark_at, marks_from, looked_of, partners_left, logs_left, marks_left}

-- ---- log numbers and dead marks

pub length_logs : (d : ℕ) (s : List ℕ) (e : ℕ) → length (logs_from d s e) ≡ d
unfolding logs_from
length_logs zero s e = refl
length_logs (suc d) s e = ap suc (length_logs d s (e + 1))

pub length_marks : (d : ℕ) (s : List ℕ) (e : ℕ) → length (marks_from d s e) ≡ d
unfolding marks_from
length_marks zero s e = refl
length_marks (suc d) s e = ap suc (length_marks d s (e + 1))

-- the steps of the loops that write them: j are written
module _ (s : List ℕ) (first d j : ℕ) where
  pub logs_none : d ≤ j → logs_from (d - j) s (first + j) ≡ []
  unfolding logs_from
  logs_none h = let z : d - j ≡ 0 = omega arith in rw z

  pub marks_none : d ≤ j → marks_from (d - j) s (first + j) ≡ []
  unfolding marks_from
  marks_none h = let z : d - j ≡ 0 = omega arith in rw z

  module _ (o : List ℕ) (x : ℕ) (lt : j < d) where
    pub logs_on : x ≡ le_at s (8 * (first + j)) 8 → sets o j (logs_from (d - j) s (first + j)) ≡ sets (set o j x) (j + 1) (logs_from (d - (j + 1)) s (first + (j + 1)))
    unfolding logs_from
    logs_on e =
        let z : d - j ≡ suc (d - (j + 1)) = omega arith in
        let q : first + j + 1 ≡ first + (j + 1) = omega arith in
        ap (λ (m : ℕ). sets o j (logs_from m s (first + j))) z
        ∙ (λ i. sets (set o j (sym e i)) (sym (add-one j) i) (logs_from (d - (j + 1)) s (q i)))

    pub marks_on : x ≡ mark_at s (first + j) → sets o j (marks_from (d - j) s (first + j)) ≡ sets (set o j x) (j + 1) (marks_from (d - (j + 1)) s (first + (j + 1)))
    unfolding marks_from
    marks_on e =
        let z : d - j ≡ suc (d - (j + 1)) = omega arith in
        let q : first + j + 1 ≡ first + (j + 1) = omega arith in
        ap (λ (m : ℕ). sets o j (marks_from m s (first + j))) z
        ∙ (λ i. sets (set o j (sym e i)) (sym (add-one j) i) (marks_from (d - (j + 1)) s (q i)))

-- past the section's end an edge is live
pub mark_none : (s : List ℕ) (e : ℕ) → length s ≤ e / 8 → mark_at s e ≡ 0
mark_none s e h =
    let z : get_or s (e / 8) 0 ≡ 0 = get_or-eq_default s 0 h in
    rw (z, zero-div (2 ^ (e % 8)))

-- ---- the outputs

-- where nothing is found, each output is left as it was
pub unfound_leaves : (x : Outcome) → ((d i c : ℕ) → looked_of x ≡ Ok (Looked.Found d i c) → ⊥) → (o l m : List ℕ)
    → (partners_left x o ≡ o) × (logs_left x l ≡ l) × (marks_left x m ≡ m)
unfolding looked_of partners_left logs_left marks_left
unfound_leaves (found i c ps logs marks) h o l m = absurd (h (length ps) i c refl)
unfound_leaves (absent c) h o l m = (refl, refl, refl)
unfound_leaves (refused r) h o l m = (refl, refl, refl)
