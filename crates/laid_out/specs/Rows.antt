-- The entries of a table that was laid out, read back.
use Prim.Native.Nat.{ℕ, ◌+◌, ◌^◌, ◌≤◌, ◌<◌}
use mathlib.Core.List.{List, [], ◌∷◌}
use Rattle.std.proofs.Math.ListN.{length}
use Rattle.frame.specs.declared.Row.{Row}
use Rattle.frame.specs.Layout.{Section}

-- the rows that reading the entries gives: sections from `at` on, entries from i on
unfoldable pub rows_in : ℕ → ℕ → List Section → List Row
rows_in at i [] = []
rows_in at i (s ∷ ss) =
    record { kind = s.kind; codec = s.codec; namelen = length s.name; nameat = i + 28; start = at; len = length s.bytes; sum = s.sum }
    ∷ rows_in (at + length s.bytes) (i + 28 + length s.name) ss

-- ---- one entry

pub record SectionFits (at : ℕ) (s : Section) : Type 0 where
  pub kind : s.kind < 2 ^ 16
  pub start : at < 2 ^ 64
  pub len : length s.bytes < 2 ^ 64
  pub sum : s.sum < 2 ^ 64

-- ---- the table

-- every section fits where it lies
unfoldable pub SectionsFit : ℕ → List Section → Type 0
SectionsFit at [] = Unit {0}
SectionsFit at (s ∷ ss) = SectionFits at s × SectionsFit (at + length s.bytes) ss

-- ---- the body

abbrev pub Small : List Section → Type 0
Small ss = (length ss ≤ 64) × SectionsFit 64 ss

-- kinds of 16 bits and checksums of 64
unfoldable pub AllNumbers : List Section → Type 0
AllNumbers [] = Unit {0}
AllNumbers (s ∷ ss) = (s.kind < 2 ^ 16) × (s.sum < 2 ^ 64) × AllNumbers ss
