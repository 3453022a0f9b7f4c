-- What the machine counts: the leading zeros of a degree give its bucket, the ones of a tombstone byte its dead edges.
use Rattle.std.specs.Prelude.{ℕ, zero, suc, ◌+◌, List}
use Rattle.lookup.specs.Lookup.{mark_at}

-- ---- ones

-- how many of d edges from edge e on are dead; s the tombstones
unfoldable pub count_dead : ℕ → List ℕ → ℕ → ℕ
count_dead zero s e = 0
count_dead (suc d) s e = mark_at s e + count_dead d s (e + 1)
