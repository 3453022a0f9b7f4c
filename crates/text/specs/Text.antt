-- Numbers and refusals as text, in ASCII.
use Rattle.std.specs.Prelude.{ℕ, zero, suc, ◌/◌, ◌%◌, List, [], ◌∷◌, ◌++◌, ltb}
use Rattle.io.specs.Digits.{hex_digit_ascii, last_digits}
use Rattle.base.specs.Pick.{pick}
use Rattle.refusal.specs.declared.Refusal.{Refusal}
use Rattle.refusal.specs.Refusal.{number_of, place_of}
pub mod Laws

-- the decimal digits of x, of at most so many: those of x / 10, then the last one
unfoldable pub decimal_in : ℕ → ℕ → List ℕ
decimal_in zero x = []
decimal_in (suc most) x = pick (ltb x 10) (hex_digit_ascii x ∷ []) (decimal_in most (x / 10) ++ (hex_digit_ascii (x % 10) ∷ []))

-- 20 digits hold every number below 2^64
abbrev pub decimal : ℕ → List ℕ
decimal x = decimal_in 20 x

-- "hex is lower case": 16 digits, the highest first
unfoldable pub hex : ℕ → List ℕ
hex x = last_digits 16 16 x

-- "refused "
abbrev pub refused_word : List ℕ
refused_word = 114 ∷ 101 ∷ 102 ∷ 117 ∷ 115 ∷ 101 ∷ 100 ∷ 32 ∷ []

-- " at "
abbrev pub at_word : List ℕ
at_word = 32 ∷ 97 ∷ 116 ∷ 32 ∷ []

-- "`refused N at P`"
unfoldable pub refused_text : Refusal → List ℕ
refused_text r = (refused_word ++ decimal (number_of r)) ++ (at_word ++ decimal (place_of r))
