-- The stripped copy is made of bytes, and no unknown kind is left in it.
use Rattle.std.specs.Prelude.{length}
use Prim.Native.Nat.{ℕ, ◌^◌, ◌<◌}
use mathlib.Core.List.{List, [], ◌∷◌}
use Rattle.frame.specs.Layout.{Section}

-- every element is a byte
pub data Byted : List ℕ → Type 0 where
  nil : Byted []
  cons : {x : ℕ} {xs : List ℕ} → x < 2 ^ 8 → Byted xs → Byted (x ∷ xs)

-- every section's bytes, name and codec are bytes, and names are short
pub data Plain : List Section → Type 0 where
  done : Plain []
  next : {s : Section} {ss : List Section} → Byted s.bytes → Byted s.name → s.codec < 2 ^ 8 → length s.name < 2 ^ 8 → Plain ss → Plain (s ∷ ss)
