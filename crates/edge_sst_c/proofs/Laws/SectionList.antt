-- What the section list for C tells of the library's answer, and the numbers that it leaves.
use Rattle.std.specs.Prelude.{◌≡◌, refl, ℕ, zero, suc, ◌+◌, ◌*◌, ◌/◌, ◌≤◌, List, [], ◌∷◌, ◌++◌, length, set, Result, Ok, Err}
use Rattle.std.specs.Result.{result_unwrap_or}
use Rattle.std.proofs.Common.{sym, ap, ◌∙◌, zero-add, arith, length-append}
use Rattle.std.proofs.Math.Numerals.{unary_clauses}
use Rattle.std.proofs.lemmas.List.Edits.{sets}
use Rattle.std.proofs.Math.Seq.{length-sets}
use Rattle.base.specs.Over.{over, sets_append, sets_over}
use Rattle.refusal.specs.declared.Refusal.{Refusal}
use Rattle.refusal.specs.Refusal.{number_of, place_of, beside_of}
use Rattle.frame.specs.declared.Row.{Row}
use Rattle.listing.specs.List.{listed_of, rows_written, row_is}
use Rattle.listing.proofs.Laws.List.{plan_fits}
use Rattle.listing.specs.Table.{rows_to}
use Rattle.edge_sst_c.specs.SectionList.{listed_told, numbers_of, numbered, in_numbers}

-- ---- laws

pub listed_done : (x : Result ℕ Refusal) (n : ℕ) → x ≡ Ok n → record { number = 0; place = 0; beside = 0; rows = n } ≡ listed_told x
unfolding listed_told
listed_done x n e = sym (ap listed_told e)

pub listed_refused : (x : Result ℕ Refusal) (r : Refusal) {n p s : ℕ} → x ≡ Err r → n ≡ number_of r → p ≡ place_of r → s ≡ beside_of r
    → record { number = n; place = p; beside = s; rows = 0 } ≡ listed_told x
unfolding listed_told
listed_refused x r e a b c = (λ i. record { number = a i; place = b i; beside = c i; rows = 0 }) ∙ sym (ap listed_told e)

-- seven stores in a row
pub seven : (o : List ℕ) (i a b c d e g h : ℕ)
    → set (set (set (set (set (set (set o i a) (i + 1) b) (i + 2) c) (i + 3) d) (i + 4) e) (i + 5) g) (i + 6) h ≡ sets o i (a ∷ b ∷ c ∷ d ∷ e ∷ g ∷ h ∷ [])
seven o i a b c d e g h = simp unary_clauses refl

pub length_numbered : (f : List ℕ) (n : ℕ) (o : List ℕ) → length (numbered f n o) ≡ length o
unfolding numbered
length_numbered f zero o = refl
length_numbered f (suc n) o = simp length-sets (length_numbered f n o)

-- a plan's number, or 0 where it is refused
pub written_or : (x : Result ℕ Refusal) → result_unwrap_or x 0 ≡ rows_written x
written_or (Ok n) = refl
written_or (Err r) = refl

-- the rows that are written have room for their numbers
pub numbers_fit : (f : List ℕ) (m : ℕ) {x : Result ℕ Refusal} → x ≡ listed_of f (m / 7) → 7 * rows_written x ≤ m
numbers_fit f m e = let h = plan_fits f (m / 7) in rw e (omega arith)

pub numbered_on : (f o : List ℕ) (i : ℕ) {t u : List ℕ} {r : Row} → t ≡ numbered f i o → r ≡ row_is f i → u ≡ sets t (7 * i) (numbers_of r) → u ≡ numbered f (i + 1) o
unfolding numbered
numbered_on f o i a b c =
    let e : i + 1 ≡ suc i = omega arith in
    c ∙ (λ k. sets (a k) (7 * i) (numbers_of (b k))) ∙ sym (ap (λ (n : ℕ). numbered f n o) e)

pub numbered_none : (f o : List ℕ) → o ≡ numbered f 0 o
unfolding numbered
numbered_none f o = refl

in_snoc : (rs : List Row) (r : Row) → in_numbers (rs ++ (r ∷ [])) ≡ in_numbers rs ++ numbers_of r
unfolding in_numbers
in_snoc [] r = refl
in_snoc (q ∷ rs) r = ap (λ (t : List ℕ). numbers_of q ++ t) (in_snoc rs r)

length_in : (f : List ℕ) (n : ℕ) → length (in_numbers (rows_to f n)) ≡ 7 * n
unfolding in_numbers rows_to
length_in f zero = refl
length_in f (suc n) = ap length (in_snoc (rows_to f n) (row_is f n)) ∙ simp length-append (let e = length_in f n in omega arith)

numbered_sets : (f : List ℕ) (n : ℕ) (o : List ℕ) → numbered f n o ≡ sets o 0 (in_numbers (rows_to f n))
unfolding numbered in_numbers rows_to
numbered_sets f zero o = refl
numbered_sets f (suc n) o =
    ap (λ (t : List ℕ). sets t (7 * n) (numbers_of (row_is f n))) (numbered_sets f n o)
    ∙ ap (λ (k : ℕ). sets (sets o 0 (in_numbers (rows_to f n))) k (numbers_of (row_is f n))) (sym (zero-add (length (in_numbers (rows_to f n))) ∙ length_in f n))
    ∙ sym (sets_append (in_numbers (rows_to f n)) (numbers_of (row_is f n)) o 0)
    ∙ ap (sets o 0) (sym (in_snoc (rows_to f n) (row_is f n)))

pub numbered_is : (f : List ℕ) (n : ℕ) (o : List ℕ) → 7 * n ≤ length o → numbered f n o ≡ over (in_numbers (rows_to f n)) o
numbered_is f n o h = numbered_sets f n o ∙ sets_over (in_numbers (rows_to f n)) o (rw (length_in f n) h)
