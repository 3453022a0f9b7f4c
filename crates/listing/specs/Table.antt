-- What the caller's table holds after the call: for a file that opens, the entries of the section table in their order,
-- and past them what it held before.
use Rattle.std.specs.Prelude.{length}
use Prim.Native.Nat.{ℕ, zero, suc, ◌-◌}
use mathlib.Core.List.{List, [], ◌∷◌, ◌++◌}
use Rattle.frame.specs.declared.Row.{Row}
use Rattle.frame.specs.Frame.{foot_len}
use Rattle.listing.specs.List.{row_is}

-- ---- the first n rows

unfoldable pub rows_to : List ℕ → ℕ → List Row
rows_to f zero = []
rows_to f (suc n) = rows_to f n ++ (row_is f n ∷ [])

-- the body of a file with a good frame begins here
abbrev pub body_at : List ℕ → ℕ
body_at f = length f - foot_len f
