-- The section list: "opening, 20", and what it leaves in the caller's table.
use Rattle.std.specs.Prelude.{ℕ, zero, suc, List, set, ltb, Option, Result, Ok, Some, None, Err}
use Rattle.refusal.specs.declared.Refusal.{Refusal}
use Rattle.refusal.specs.Check.{◌⊳◌, refuse, Check}
use Rattle.frame.specs.declared.Row.{Row}
use Rattle.frame.specs.Frame.{entry_count, body_of}
use Rattle.frame.specs.Open.{file_check}
use Rattle.reader.specs.Rows.{row_of}

-- the rows needed: one for each entry of the table, skipped kinds too
abbrev pub rows_needed : List ℕ → ℕ
rows_needed f = entry_count (body_of f)

-- "Section list: opening, 20", of which the place is the rows needed
unfoldable pub list_check : List ℕ → ℕ → Check
list_check f room = file_check f ⊳ refuse (Refusal.Room (rows_needed f)) (ltb room (rows_needed f))

-- the answer: n rows, or the first refusal
unfoldable pub counted : Check → ℕ → Result ℕ Refusal
counted (Ok _) n = Ok n
counted (Err r) n = Err r

unfoldable pub listed_of : List ℕ → ℕ → Result ℕ Refusal
listed_of f room = counted (list_check f room) (rows_needed f)

-- how many rows are written: none where it is refused
abbrev pub rows_written : Result ℕ Refusal → ℕ
rows_written (Ok n) = n
rows_written (Err r) = 0

-- row i of a file, its name's place counted from the file's first byte; zeros where there is none
abbrev pub no_row : Row
no_row = record { kind = 0; codec = 0; namelen = 0; nameat = 0; start = 0; len = 0; sum = 0 }

unfoldable pub row_of_section : (Option Row) → Row
row_of_section (Some r) = r
row_of_section None = no_row

unfoldable pub row_is : List ℕ → ℕ → Row
row_is f i = row_of_section (row_of f i)

-- the caller's table with the first n rows written
unfoldable pub listed : List ℕ → ℕ → List Row → List Row
unfolding row_is
listed f zero ys = ys
listed f (suc n) ys = set (listed f n ys) n (row_is f n)
