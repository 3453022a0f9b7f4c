-- Finding a key by halving: "Low 0, high n. While low is below high, compare the key at low + (high − low)/2, rounded
-- down: equal ends the search; smaller sets low one past it; larger sets high to it. The answer carries the count of keys
-- compared".
use Rattle.std.specs.Prelude.{ℕ, zero, suc, ◌+◌, ◌-◌, ◌/◌, List, ltb}
use Rattle.base.specs.Pick.{pick}
use Rattle.std.specs.declared.cmp.Ordering.{Ordering}
use Rattle.codes.specs.Ids.{order}
use Rattle.frame.specs.Open.{key_at}
use Rattle.index.specs.declared.keys.Found.{Found}
pub mod Laws

abbrev pub middle : ℕ → ℕ → ℕ
middle low high = low + (high - low) / 2

-- the key that was compared is smaller: the search goes on above it; equal: it ends here; larger: it goes on below it
unfoldable pub narrowed : Ordering → Found → Found → Found → Found
narrowed Ordering.Less above here below = above
narrowed Ordering.Equal above here below = here
narrowed Ordering.Greater above here below = below

-- at most d turns of the search for k from low to high, c keys having been compared
unfoldable pub find_from : ℕ → List ℕ → ℕ → ℕ → ℕ → ℕ → Found
find_from zero s k low high c = Found.Absent c
find_from (suc d) s k low high c =
    pick (ltb low high)
    (narrowed (order (key_at s (middle low high)) k)
    (find_from d s k (middle low high + 1) high (c + 1))
    (Found.At (middle low high) (c + 1))
    (find_from d s k low (middle low high) (c + 1)))
    (Found.Absent c)

-- the key k among n keys: each turn leaves a key out, so n turns are enough
unfoldable pub find_in : List ℕ → ℕ → ℕ → Found
find_in s n k = find_from n s k 0 n 0

-- the count that an answer carries
unfoldable pub compared_of : Found → ℕ
compared_of (Found.At i c) = c
compared_of (Found.Absent c) = c
