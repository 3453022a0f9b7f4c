-- The laws of the section list.
use Rattle.std.specs.Prelude.{◌≡◌, refl, ◌↔◌, ℕ, zero, suc, ◌≤◌, ◌<◌, List, Bool, true, false, length, ltb, Option, Ok, Some, None, Err}
use Rattle.std.proofs.Common.{sym, ◌∙◌, arith, length-set, lt-ltb, le-ltb, ltb-false}
use Rattle.std.proofs.Math.Path.{ap}
use Rattle.refusal.specs.declared.Refusal.{Refusal}
use Rattle.refusal.specs.Refusal.{number_of}
use Rattle.refusal.specs.Check.{◌⊳◌, refuse, Check}
use Rattle.refusal.proofs.Laws.Check.{bad_then, fine_then, by_first, refuse_own}
use Rattle.frame.specs.declared.Row.{Row}
use Rattle.frame.specs.declared.Opened.{Opened}
use Rattle.frame.specs.Open.{record_of, file_check, opening, open_of}
use Rattle.listing.specs.List.{rows_needed, list_check, counted, listed_of, rows_written, no_row, row_of_section, listed}

-- ---- opening, taken apart

opening_good : (c : Check) (p o : Opened) → opening c p ≡ Ok o → c ≡ (Ok tt)
unfolding opening
opening_good (Ok _) p o e = refl
opening_good (Err r) p o e = let z : ◌≡◌ {A = ℕ} 0 1 = cc in absurd (omega arith)

opening_bad : (c : Check) (p : Opened) (r : Refusal) → opening c p ≡ Err r → c ≡ Err r
unfolding opening
opening_bad (Ok _) p r e = let z : ◌≡◌ {A = ℕ} 0 1 = cc in absurd (omega arith)
opening_bad (Err q) p r e = cc

-- ---- the answer

module _ (f : List ℕ) (room : ℕ) where
  pub plan_unopened : (r : Refusal) → open_of f ≡ Err r → listed_of f room ≡ Err r
  unfolding open_of listed_of counted list_check
  plan_unopened r e = ap (λ (c : Check). counted c (rows_needed f)) (bad_then _ (opening_bad (file_check f) (record_of f) r e))

  module _ (o : Opened) (e : open_of f ≡ Ok o) where
    fine : file_check f ≡ (Ok tt)
    unfolding open_of
    fine = opening_good (file_check f) (record_of f) o e

    pub plan_short : room < rows_needed f → listed_of f room ≡ Err (Refusal.Room (rows_needed f))
    unfolding listed_of counted list_check
    plan_short h =
        ap (λ (c : Check). counted c (rows_needed f)) (fine_then _ fine ∙ ap (refuse (Refusal.Room (rows_needed f))) (lt-ltb room (rows_needed f) h))

    pub plan_good : rows_needed f ≤ room → listed_of f room ≡ Ok (rows_needed f)
    unfolding listed_of counted list_check
    plan_good h =
        ap (λ (c : Check). counted c (rows_needed f)) (fine_then _ fine ∙ ap (refuse (Refusal.Room (rows_needed f))) (le-ltb room (rows_needed f) h))

-- a refusal other than 20 is the section list's exactly if it is opening's
pub list_opening : (f : List ℕ) (room : ℕ) (r : Refusal) → (number_of r ≡ 20 → ⊥) → (listed_of f room ≡ Err r) ↔ (file_check f ≡ Err r)
unfolding listed_of counted list_check
list_opening f room r n =
    let rule : Check = refuse (Refusal.Room (rows_needed f)) (ltb room (rows_needed f)) in
    let a = by_first (file_check f) rule r (refuse_own (Refusal.Room (rows_needed f)) r (ltb room (rows_needed f)) (λ e. n (sym e))) in
    (λ e. a.0 (go (file_check f ⊳ rule) e), λ e. ap (λ (c : Check). counted c (rows_needed f)) (a.1 e))
  where
    go : (c : Check) → counted c (rows_needed f) ≡ Err r → c ≡ Err r
    go (Ok _) e = let z : ◌≡◌ {A = ℕ} 0 1 = cc in absurd (omega arith)
    go (Err q) e = let same : q ≡ r = cc in ap Err same

-- the rows that are written have room
pub plan_fits : (f : List ℕ) (room : ℕ) → rows_written (listed_of f room) ≤ room
unfolding listed_of counted list_check
plan_fits f room = go (file_check f) (ltb room (rows_needed f)) refl
  where
    go : (c : Check) (t : Bool) → ltb room (rows_needed f) ≡ t → rows_written (counted (c ⊳ refuse (Refusal.Room (rows_needed f)) t) (rows_needed f)) ≤ room
    go (Err r) t e = omega arith
    go (Ok _) true e = omega arith
    go (Ok _) false e = ltb-false room (rows_needed f) e

-- how many rows are written: those that the answer tells, and none where it is refused
pub plan_done : (f : List ℕ) (room n : ℕ) → listed_of f room ≡ Ok n → rows_written (listed_of f room) ≡ n
plan_done f room n e = ap rows_written e

pub plan_refused : (f : List ℕ) (room : ℕ) (r : Refusal) → listed_of f room ≡ Err r → rows_written (listed_of f room) ≡ 0
plan_refused f room r e = ap rows_written e

-- ---- rows

pub entry_there : (s : Option Row) (r : Row) → s ≡ Some r → r ≡ row_of_section s
unfolding row_of_section
entry_there s r e = sym (ap row_of_section e)

pub entry_none : (s : Option Row) → s ≡ None → no_row ≡ row_of_section s
unfolding row_of_section
entry_none s e = sym (ap row_of_section e)

-- the table keeps its length
pub length_listed : (f : List ℕ) (n : ℕ) (ys : List Row) → length (listed f n ys) ≡ length ys
unfolding listed
length_listed f zero ys = refl
length_listed f (suc n) ys = simp length-set (length_listed f n ys)

-- a refusal leaves the whole table
pub list_refused_leaves : (f : List ℕ) (room : ℕ) (r : Refusal) (ys : List Row) → listed_of f room ≡ Err r → listed f (rows_written (listed_of f room)) ys ≡ ys
unfolding listed
list_refused_leaves f room r ys e = ap (λ (n : ℕ). listed f n ys) (plan_refused f room r e)
