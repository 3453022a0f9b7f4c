-- Which refusals opening gives: the order of checks in parts, and the numbers of each.
use Prim.Native.Nat.{ℕ}
use mathlib.Core.List.{List, [], ◌∷◌, ◌++◌}

-- ---- which numbers each rule gives, in the order of checks

-- the header's; then up to the table; then after 36; then of the start index
abbrev pub head_numbers : List ℕ
head_numbers = 2 ∷ 3 ∷ 4 ∷ 5 ∷ []

abbrev pub foot_numbers : List ℕ
foot_numbers = 6 ∷ 7 ∷ 8 ∷ 9 ∷ []

abbrev pub remaining_numbers : List ℕ
remaining_numbers = 10 ∷ 11 ∷ 12 ∷ 13 ∷ 14 ∷ 15 ∷ []

abbrev pub rest_numbers : List ℕ
rest_numbers = remaining_numbers ++ (37 ∷ [])

-- of rules 1 to 9, and all that opening gives
abbrev pub early_numbers : List ℕ
early_numbers = 1 ∷ (head_numbers ++ foot_numbers)

abbrev pub opening_numbers : List ℕ
opening_numbers = early_numbers ++ (36 ∷ rest_numbers)
