-- The count of keys that a lookup says it compared: at most 25, and 0 for no keys.
use Rattle.std.specs.Prelude.{ℕ}
use Rattle.lookup.specs.Lookup.{Outcome, found, absent, refused}

-- a refusal carries no count
unfoldable pub compared_in : Outcome → ℕ
compared_in (found i c ps logs marks) = c
compared_in (absent c) = c
compared_in (refused r) = 0
