-- What the section list for C tells of the library's answer, and the numbers that it leaves.
use Rattle.std.specs.Prelude.{ℕ, zero, suc, ◌*◌, List, [], ◌∷◌, ◌++◌, Result, Ok, Err}
use Rattle.std.proofs.lemmas.List.Edits.{sets}
use Rattle.refusal.specs.Refusal.{number_of, place_of, beside_of}
use Rattle.frame.specs.declared.Row.{Row}
use Rattle.listing.specs.List.{row_is}
use Rattle.edge_sst_c.specs.declared.section_list.EdgeSstListed.{EdgeSstListed}
use Rattle.refusal.specs.declared.Refusal.{Refusal}

unfoldable pub listed_told : Result ℕ Refusal → EdgeSstListed
listed_told (Ok n) = record { number = 0; place = 0; beside = 0; rows = n }
listed_told (Err r) = record { number = number_of r; place = place_of r; beside = beside_of r; rows = 0 }

-- the seven numbers of a row, "kind, codec, name's place and length, offset, length, checksum"
abbrev pub numbers_of : Row → List ℕ
numbers_of r = r.kind ∷ r.codec ∷ r.nameat ∷ r.namelen ∷ r.start ∷ r.len ∷ r.sum ∷ []

-- the caller's numbers with those of the first n rows written
unfoldable pub numbered : List ℕ → ℕ → List ℕ → List ℕ
numbered f zero o = o
numbered f (suc n) o = sets (numbered f n o) (7 * n) (numbers_of (row_is f n))

-- ---- for readers: the numbers of the rows one after the other, over the start of what the caller lent

unfoldable pub in_numbers : List Row → List ℕ
in_numbers [] = []
in_numbers (r ∷ rs) = numbers_of r ++ in_numbers rs
