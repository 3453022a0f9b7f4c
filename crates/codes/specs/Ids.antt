-- Ids of 16 bytes. An id compares as 16 bytes from the first, that is, as one big-endian number.
use Rattle.std.specs.Prelude.{ℕ, zero, suc, ◌+◌, ◌*◌, ◌/◌, ◌%◌, ◌^◌, List, [], ◌∷◌, ◌++◌, get_or, ltb}
use Rattle.base.specs.Pick.{pick}
use Rattle.std.specs.declared.cmp.Ordering.{Ordering}
use Rattle.codes.specs.declared.ids.Id.{Id}
pub mod Laws

-- the number of the n bytes of s at i, the highest first
unfoldable pub be_at : List ℕ → ℕ → ℕ → ℕ
be_at s i zero = 0
be_at s i (suc n) = be_at s i n * 256 + get_or s (i + n) 0

-- the n low bytes of x, the highest first
unfoldable pub be_bytes : ℕ → ℕ → List ℕ
be_bytes zero x = []
be_bytes (suc n) x = be_bytes n (x / 256) ++ (x % 256 ∷ [])

-- y, and below it the n low bytes of x, the lowest first
unfoldable pub turned : ℕ → ℕ → ℕ → ℕ
turned zero x y = y
turned (suc n) x y = turned n (x / 256) (y * 256 + x % 256)

-- the id at i, as its number
unfoldable pub id_at : List ℕ → ℕ → ℕ
id_at s i = be_at s i 16

-- the number that two halves make
abbrev pub id_number : Id → ℕ
id_number d = d.hi * 2 ^ 64 + d.lo

-- the id at i, as its halves
unfoldable pub halves_at : List ℕ → ℕ → Id
halves_at s i = record { hi = be_at s i 8; lo = be_at s (i + 8) 8 }

-- the 16 bytes of an id
unfoldable pub id_bytes : Id → List ℕ
id_bytes d = be_bytes 8 d.hi ++ be_bytes 8 d.lo

-- m against n
unfoldable pub order : ℕ → ℕ → Ordering
order m n = pick (ltb m n) Ordering.Less (pick (ltb n m) Ordering.Greater Ordering.Equal)
