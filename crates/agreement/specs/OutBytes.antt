-- The bytes that a read-out leaves: they are a batch without fault, and its edges are the file's.
use Rattle.std.specs.Prelude.{◌≡◌, Bool, true, ◌&&◌, leb}
use Prim.Native.Nat.{ℕ, ◌^◌, ◌<◌}
use mathlib.Core.List.{List, [], ◌∷◌}
use Rattle.batch.specs.declared.Edge.{Edge}
use Rattle.batch.specs.Batch.{before}

-- ---- a record reads back

-- numbers of 64 bits
pub record EdgeFits (e : Edge) : Type 0 where
  pub key_hi : e.key.hi < 2 ^ 64
  pub key_lo : e.key.lo < 2 ^ 64
  pub partner_hi : e.partner.hi < 2 ^ 64
  pub partner_lo : e.partner.lo < 2 ^ 64
  pub log : e.log < 2 ^ 64

unfoldable pub EdgesFit : List Edge → Type 0
EdgesFit [] = Unit {0}
EdgesFit (e ∷ es) = EdgeFits e × EdgesFit es

-- ---- the edges of a file fit

-- the same by computing
unfoldable pub byted : List ℕ → Bool
byted [] = true
byted (x ∷ xs) = leb x 255 && byted xs

-- ---- the edges of a file are in order

-- each edge is before the next one
unfoldable pub Chain : List Edge → Type 0
Chain [] = Unit {0}
Chain (x ∷ []) = Unit {0}
Chain (x ∷ y ∷ es) = (before x y ≡ true) × Chain (y ∷ es)
