-- The rows that the numbers of `edge_sst_sections` say.
use Rattle.std.specs.Prelude.{◌≡◌, refl, ℕ, zero, suc, ◌+◌, ◌*◌, ◌/◌, ◌≤◌, ◌<◌, List, [], ◌∷◌, ◌++◌, length, get_or, drop, Result, Ok, Err}
use Rattle.std.proofs.Common.{sym, ap, ◌∙◌, arith}
use Rattle.std.proofs.Math.Seq.{drop-append-add}
use Rattle.frame.specs.declared.Row.{Row}
use Rattle.listing.specs.List.{rows_written, listed_of, row_is, no_row}
use Rattle.listing.proofs.Laws.List.{plan_done, plan_refused}
use Rattle.listing.specs.Table.{rows_to}
use Rattle.listing.proofs.Laws.Table.{length_rows_to, rows_to_at}
use Rattle.edge_sst_c.specs.declared.section_list.EdgeSstListed.{EdgeSstListed}
use Rattle.edge_sst_c.specs.SectionList.{listed_told, numbers_of, numbered, in_numbers}
use Rattle.edge_sst_c.proofs.Laws.SectionList.{numbered_is, numbers_fit}
use Rattle.edge_sst_c.specs.Rows.{row_from}
use Rattle.refusal.specs.declared.Refusal.{Refusal}

-- the numbers of a row say that row
pub row_back : (r : Row) → row_from (numbers_of r) ≡ r
row_back r = refl

-- and so does each row's place in the numbers of several
in_back : (rs : List Row) (i : ℕ) (t : List ℕ) (d : Row) → i < length rs → row_from (drop (7 * i) (in_numbers rs ++ t)) ≡ get_or rs i d
unfolding in_numbers
in_back [] i t d h = absurd (omega arith)
in_back (r ∷ rs) zero t d h = row_back r
in_back (r ∷ rs) (suc i) t d h =
    let e : 7 * suc i ≡ 7 + 7 * i = omega arith in
    ap (λ (k : ℕ). row_from (drop k ((numbers_of r ++ in_numbers rs) ++ t))) e
    ∙ ap row_from (drop-append-add (numbers_of r) (in_numbers rs ++ t) (7 * i))
    ∙ in_back rs i t d (omega arith)

pub numbers_back : (f : List ℕ) (n i : ℕ) (o : List ℕ) → 7 * n ≤ length o → i < n → row_from (drop (7 * i) (numbered f n o)) ≡ row_is f i
numbers_back f n i o h l =
    ap (λ (t : List ℕ). row_from (drop (7 * i) t)) (numbered_is f n o h)
    ∙ in_back (rows_to f n) i _ no_row (rw (length_rows_to f n) l)
    ∙ rows_to_at f n i no_row l

-- what is told as the count of rows is how many are written
listed_rows : (f : List ℕ) (room : ℕ) (x : Result ℕ Refusal) → listed_of f room ≡ x → (listed_told x).rows ≡ rows_written (listed_of f room)
unfolding listed_told
listed_rows f room (Ok n) e = sym (plan_done f room n e)
listed_rows f room (Err r) e = sym (plan_refused f room r e)

-- after a call for the sections of f the seven numbers of row i, for each i below the count that is told, say row i of f
pub sections_back : (f o : List ℕ) {r : EdgeSstListed} {out : List ℕ} → r ≡ listed_told (listed_of f (length o / 7))
    → out ≡ numbered f (rows_written (listed_of f (length o / 7))) o → (i : ℕ) → i < r.rows → row_from (drop (7 * i) out) ≡ row_is f i
sections_back f o a b i h =
    let n = ap (λ (x : EdgeSstListed). x.rows) a ∙ listed_rows f (length o / 7) (listed_of f (length o / 7)) refl in
    ap (λ (t : List ℕ). row_from (drop (7 * i) t)) b
    ∙ numbers_back f (rows_written (listed_of f (length o / 7))) i o (numbers_fit f (length o) refl) (rw n at h)
