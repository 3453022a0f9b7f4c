-- What the words of a summary say: the smallest of numbers is one of them and above none; a degree is in one bucket; buckets sum to
-- the keys, degrees to the edges.
use Rattle.std.specs.Prelude.{◌≡◌, ℕ, ◌+◌, ◌≤◌, ◌⊎◌, List, [], ◌∷◌}

-- ---- the smallest and largest of numbers

unfoldable pub Among : ℕ → List ℕ → Type 0
Among x [] = ⊥
Among x (y ∷ ys) = (x ≡ y) ⊎ Among x ys

-- x is one of the numbers and above none
pub record Smallest (x : ℕ) (xs : List ℕ) : Type 0 where
  pub among : Among x xs
  pub least : (y : ℕ) → Among y xs → x ≤ y

pub record Largest (x : ℕ) (xs : List ℕ) : Type 0 where
  pub among : Among x xs
  pub most : (y : ℕ) → Among y xs → y ≤ x

-- ---- sums

unfoldable pub total : List ℕ → ℕ
total [] = 0
total (x ∷ xs) = x + total xs
