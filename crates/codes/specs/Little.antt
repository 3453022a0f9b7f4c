-- Little-endian numbers: the lowest byte stands first.
use Rattle.std.specs.Prelude.{ℕ, zero, suc, ◌+◌, ◌*◌, ◌/◌, ◌%◌, ◌^◌, List, [], ◌∷◌, get_or}
pub mod Laws

-- the number of the n bytes of s at i
unfoldable pub le_at : List ℕ → ℕ → ℕ → ℕ
le_at s i zero = 0
le_at s i (suc n) = le_at s i n + get_or s (i + n) 0 * 2 ^ (8 * n)

-- the n low bytes of x
unfoldable pub le_bytes : ℕ → ℕ → List ℕ
le_bytes zero x = []
le_bytes (suc n) x = x % 256 ∷ le_bytes n (x / 256)
