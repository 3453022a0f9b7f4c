-- Part of a block, stripe by stripe, with the secret q.
use Rattle.std.specs.Prelude.{ℕ, zero, suc, ◌-◌, ◌*◌, cond, List, nat_le}
use Rattle.xxh3_spec.specs.Xxh3.{accumulate}

-- stripe j of a block that ends at `to` in s: it joins the state x if it is before stripe `end` and does not begin before s
unfoldable pub stripe_in : List ℕ → List ℕ → ℕ → ℕ → ℕ → List ℕ → List ℕ
stripe_in q s to end j x =
    cond (nat_le end j) x
    (cond (nat_le (64 * (16 - j)) to) (accumulate q x s (to - 64 * (16 - j)) (8 * j)) x)

-- m stripes of the block, from stripe j on
unfoldable pub stripes_in : List ℕ → List ℕ → ℕ → ℕ → ℕ → ℕ → List ℕ → List ℕ
stripes_in q s to end j zero x = x
stripes_in q s to end j (suc m) x = stripes_in q s to end (suc j) m (stripe_in q s to end j x)
