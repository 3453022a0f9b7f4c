-- Another major version and an unassigned flag bit: when opening gives 3 and 5, exactly.
use Rattle.std.specs.Prelude.{◌≡◌, true, length, get_or}
use Prim.Native.Nat.{ℕ, ◌^◌, ◌≤◌, ◌<◌}
use mathlib.Core.List.{List}
use Rattle.codes.specs.Little.{le_at}
use Rattle.frame.specs.Kind as kind
use Rattle.frame.specs.Frame.{flag, flags_of}

-- ---- the header's tests in numbers

-- a size within the bounds, and the magic
pub record Begins (f : List ℕ) : Type 0 where
  pub low : 84 ≤ length f
  pub high : length f ≤ 2 ^ 30
  pub magic : le_at f 0 8 ≡ kind.magic

-- "major not 1", and no earlier rule is broken
pub record OtherMajor (f : List ℕ) : Type 0 where
  pub begins : Begins f
  pub major : get_or f 8 0 ≡ 1 → ⊥

-- "a flag bit 4 to 31 is set", and no earlier rule is broken
pub record UnassignedFlag (f : List ℕ) : Type 0 where
  pub begins : Begins f
  pub major : get_or f 8 0 ≡ 1
  pub header : le_at f 10 2 ≡ kind.header_size
  pub bit : ℕ
  pub least : 4 ≤ bit
  pub most : bit < 32
  pub set : flag bit (flags_of f) ≡ true
