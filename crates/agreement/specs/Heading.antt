-- The header of a file and the heading of its read-out: direction and ids are the same.
use Rattle.std.specs.Prelude.{get_or}
use Prim.Native.Nat.{ℕ}
use mathlib.Core.List.{List}
use Rattle.codes.specs.Ids.{halves_at}
use Rattle.frame.specs.declared.ends.Header.{Header}

-- the header that the heading of a batch gives, beside a minor version and flags
abbrev pub header_for : ℕ → ℕ → List ℕ → Header
header_for minor flags s = record {
  minor = minor;
  direction = get_or s 1 0;
  flags = flags;
  edgetype = halves_at s 2;
  source = halves_at s 18;
  destination = halves_at s 34;
}
