-- The numbers of seven bits a byte. By convention only Varint/Laws.antt (and Cases) opens the definitions; all others use its laws.
use Rattle.std.specs.Prelude.{ℕ, zero, suc, ◌+◌, ◌*◌, ◌/◌, ◌%◌, ◌^◌, List, [], ◌∷◌, get_or, length, ltb, eqb, Result, Ok, Err}
use Rattle.base.specs.Pick.{pick}
use Rattle.codes.specs.declared.varint.Unread.{Unread}
use Rattle.codes.specs.declared.varint.Unread.TheVariants.{Cut, Long, Large}
pub mod Laws

-- a number and the place after it, or why there is none
abbrev pub Varint : Type 0
Varint = Result (ℕ × ℕ) Unread

-- the last byte b, at i, over x with the weight m: a 0 is good only as the first byte
unfoldable pub last_byte : ℕ → ℕ → ℕ → ℕ → Varint
last_byte b i x m =
    pick (eqb b 0) (pick (ltb 1 m) (Err Long) (Ok (x, i + 1))) (pick (ltb (x + b * m) (2 ^ 64)) (Ok (x + b * m, i + 1)) (Err Large))

-- the number from i on, at most f bytes, added to x with the weight m
unfoldable pub var_from : ℕ → List ℕ → ℕ → ℕ → ℕ → Varint
var_from zero s i x m = Err Large
var_from (suc f) s i x m =
    pick (ltb i (length s))
    (pick (ltb (get_or s i 0) 128) (last_byte (get_or s i 0) i x m) (var_from f s (i + 1) (x + get_or s i 0 % 128 * m) (m * 128)))
    (Err Cut)

-- the number at i: ten bytes hold 64 bits
unfoldable pub varint_at : List ℕ → ℕ → Varint
varint_at s i = var_from 10 s i 0 1

-- the bytes of x, at most suc f
unfoldable pub bytes_from : ℕ → ℕ → List ℕ
bytes_from zero x = x ∷ []
bytes_from (suc f) x = pick (ltb x 128) (x ∷ []) ((x % 128 + 128) ∷ bytes_from f (x / 128))

unfoldable pub var_bytes : ℕ → List ℕ
var_bytes x = bytes_from 9 x
