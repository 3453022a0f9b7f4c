-- The pass over the tombstones: byte by byte, and no unused bit is set.
use Rattle.std.specs.Prelude.{◌≡◌, ℕ, ◌*◌, ◌≤◌, List, length}
use Rattle.summary.specs.Bits.{count_dead}

-- b bytes are passed, and x edges of theirs are dead
pub record Counting (s : List ℕ) (x b : ℕ) : Type 0 where
  pub most : b ≤ length s
  pub dead : x ≡ count_dead (8 * b) s 0
