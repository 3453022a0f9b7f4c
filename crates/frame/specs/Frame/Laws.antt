-- The laws of the section table and of rules 9 to 12 and 36, and what the rules do not see: sections of unknown kinds and the minor
-- version.
use Rattle.std.specs.Prelude.{◌≡◌, List, true, length}
use Prim.Native.Nat.{ℕ, ◌+◌, ◌≤◌}
use Rattle.frame.specs.Kind as kind
use Rattle.frame.specs.Frame.{entry_count, rows_of, end_of, all, name_good, kinds_good}

-- rule 9, taken apart and put together
pub record Table (b : List ℕ) : Type 0 where
  pub some : 1 ≤ entry_count b
  pub most : entry_count b ≤ kind.most_sections
  pub filled : end_of b + kind.counts_size ≡ length b
  pub names : all name_good (rows_of b) ≡ true
  pub kinds : kinds_good (rows_of b) ≡ true

-- the reserved range: "0x0007 to 0x00FF"
abbrev pub ReservedKind : ℕ → Type 0
ReservedKind k = (0x0007 ≤ k) × (k ≤ 0x00FF)
