-- A block stripe by stripe: when a stripe joins, and that the stripes of a block, one after the other, are those of the run. Assumes nothing.
use Rattle.std.proofs.Common.{◌≡◌, ℕ, zero, suc, ◌+◌, ◌-◌, ◌*◌, ◌/◌, ◌%◌, ◌<◌, ◌≤◌, List, sym, refl, ap, ◌∙◌, add-zero, arith, le-leb}
use native.Mathlib.Nat.{mul-add-mod_self_left}
use native.Mathlib.Decide.{dec_lt}
use borrow.Author.Tests.{lt-leb}
use Rattle.xxh3_spec.specs.Xxh3.{accumulate, scramble, turn, run_on}
use Rattle.xxh3_spec.specs.Xxh3.Laws.{run_more}
use Rattle.xxh3_above240.specs.Block.{stripe_in, stripes_in}
use Rattle.xxh3_above240.proofs.State.{inside, at_end}

module _ (q s : List ℕ) (to end : ℕ) where
  -- a stripe joins, or s does not have it, or it is not before the end

  pub joins : (j : ℕ) (x : List ℕ) {y : List ℕ} → j < end → 64 * (16 - j) ≤ to → y ≡ accumulate q x s (to - 64 * (16 - j)) (8 * j) → y ≡ stripe_in q s to end j x
  unfolding stripe_in
  joins j x l h e = simp (lt-leb end j l, le-leb (64 * (16 - j)) to h) e

  pub skips : (j : ℕ) (x : List ℕ) → j < end → to < 64 * (16 - j) → x ≡ stripe_in q s to end j x
  unfolding stripe_in
  skips j x l h = simp (lt-leb end j l, lt-leb (64 * (16 - j)) to h)

  pub past : (j : ℕ) (x : List ℕ) → end ≤ j → x ≡ stripe_in q s to end j x
  unfolding stripe_in
  past j x h = simp (le-leb end j h)

  -- several stripes: the first and then the others, or none as they are not before the end

  pub more : (j m : ℕ) (x : List ℕ) {y r : List ℕ} → y ≡ stripe_in q s to end j x → r ≡ stripes_in q s to end (suc j) m y → r ≡ stripes_in q s to end j (suc m) x
  unfolding stripes_in
  more j m x e f = f ∙ ap (λ (v : List ℕ). stripes_in q s to end (suc j) m v) e

  pub none : (j m : ℕ) (x : List ℕ) → end ≤ j → x ≡ stripes_in q s to end j m x
  unfolding stripes_in
  none j zero x h = refl
  none j (suc m) x h = more j m x (past j x h) (none (suc j) m x (omega arith))

-- A run of n stripes, the first of them stripe k of all, and a block of it that ends u stripes after the run's start: at byte `to`. The run ends before
-- stripe `end` of the block. b counts blocks from the one in which the run starts.
pub record BlockAt (k n to end u b : ℕ) : Type 0 where
  pub bytes : to ≡ 64 * u
  pub last : u + end ≡ 16 + n
  pub first : u + k % 16 ≡ 16 * suc b

-- how many stripes of the run come before stripe j of that block: the least of n and u + j - 16, which is 0 where the run starts later
abbrev pub until : ℕ → ℕ → ℕ → ℕ
until n u j = n - (n - (u + j - 16))

module _ (q a s : List ℕ) (k n to end u b : ℕ) (at : BlockAt k n to end u b) where
  -- the state of the run before stripe j
  abbrev Before : ℕ → List ℕ
  Before j = run_on q a s k (until n u j)

  -- how many there are before a stripe that joins, before one that s does not have, and before one that is not before the end

  until_some : (j : ℕ) → j ≤ end → 16 ≤ u + j → until n u j ≡ u + j - 16
  until_some j m h = let e = at.last in let l : u + j - 16 ≤ n = omega arith in omega (arith, l)

  until_none : (j : ℕ) → u + j ≤ 16 → until n u j ≡ 0
  until_none j h = let e : u + j - 16 ≡ 0 = omega arith in omega (arith, e)

  until_all : (j : ℕ) → end ≤ j → until n u j ≡ n
  until_all j h = let e = at.last in let l : n ≤ u + j - 16 = omega arith in omega (arith, l)

  -- a stripe that joins is the next of the run: its place and its number

  has : (j : ℕ) → j < 16 → 64 * (16 - j) ≤ to → 16 ≤ u + j
  has j l h = let e = at.bytes in omega (arith, e)

  exact : (j : ℕ) → j < 16 → j < end → 64 * (16 - j) ≤ to → (16 ≤ u + j) × (until n u j ≡ u + j - 16) × (until n u (suc j) ≡ suc (until n u j))
  exact j l m h =
      let f = has j l h in
      let e = until_some j (omega arith) f in
      (f, e, until_some (suc j) (omega arith) (omega arith) ∙ (let g : u + suc j - 16 ≡ suc (u + j - 16) = omega arith in g) ∙ ap suc (sym e))

  place : (j : ℕ) → j < 16 → j < end → 64 * (16 - j) ≤ to → to - 64 * (16 - j) ≡ 64 * until n u j
  place j l m h = let e = exact j l m h in rw e.1 (omega (arith, at, e.0))

  number : (j : ℕ) → j < 16 → j < end → 64 * (16 - j) ≤ to → (k + until n u j) % 16 ≡ j
  number j l m h =
      let e = exact j l m h in
      let f : k + (u + j - 16) ≡ 16 * (k / 16 + b) + j = omega (arith, at, e.0) in
      let g : j % 16 ≡ j = omega arith in
      rw (e.1, f) (mul-add-mod_self_left 16 (k / 16 + b) j ∙ g)

  joined : (j : ℕ) → j < 16 → j < end → 64 * (16 - j) ≤ to
      → stripe_in q s to end j (Before j) ≡ accumulate q (Before j) s (64 * until n u j) (8 * ((k + until n u j) % 16))
  joined j l m h = rw (number j l m h, sym (place j l m h)) (sym (joins q s to end j (Before j) m h refl))

  next : (j : ℕ) → j < 16 → j < end → 64 * (16 - j) ≤ to → Before (suc j) ≡ turn q (Before j) s (64 * until n u j) (k + until n u j)
  next j l m h = ap (λ (x : ℕ). run_on q a s k x) (exact j l m h).2 ∙ run_more q a s k (until n u j)

  -- a stripe that does not join leaves as many before the one after it

  still : (j : ℕ) → until n u (suc j) ≡ until n u j → stripe_in q s to end j (Before j) ≡ Before j → stripe_in q s to end j (Before j) ≡ Before (suc j)
  still j e f = f ∙ ap (λ (x : ℕ). run_on q a s k x) (sym e)

  absent : (j : ℕ) → j < 15 → to < 64 * (16 - j) → u + suc j ≤ 16
  absent j l h = let e = at.bytes in omega (arith, e)

  -- all but the last

  one_stripe : (j : ℕ) → j < 15 → stripe_in q s to end j (Before j) ≡ Before (suc j)
  one_stripe j l = elim (dec_lt j end) [
    | no m ↦ still j (until_all (suc j) (omega arith) ∙ sym (until_all j (omega arith))) (sym (past q s to end j (Before j) (omega arith)))
    | yes m ↦ elim (dec_lt to (64 * (16 - j))) [
      | yes h ↦ still j (until_none (suc j) (absent j l h) ∙ sym (until_none j (let g = absent j l h in omega arith))) (sym (skips q s to end j (Before j) m h))
      | no h ↦
          let h' : 64 * (16 - j) ≤ to = omega arith in
          let l' : j < 16 = omega arith in
          let e = number j l' m h' in
          inside q (Before j) s (64 * until n u j) (k + until n u j) (joined j l' m h') (omega arith) ∙ sym (next j l' m h')
    ]
  ]

  stripes_run : (m j : ℕ) → j + m < 16 → stripes_in q s to end j m (Before j) ≡ Before (j + m)
  unfolding stripes_in
  stripes_run zero j l = ap Before (sym (add-zero j))
  stripes_run (suc m) j l =
      let e : suc j + m ≡ j + suc m = omega arith in
      ap (λ (x : List ℕ). stripes_in q s to end (suc j) m x) (one_stripe j (omega arith)) ∙ stripes_run m (suc j) (omega arith) ∙ ap Before e

  -- the block up to its last stripe
  fifteen : {r : List ℕ} → r ≡ run_on q a s k (u - 16) → stripes_in q s to end 0 15 r ≡ Before 15
  fifteen e₀ =
      let e = at.last in
      let start : until n u 0 ≡ u - 16 = let f : u + 0 - 16 ≡ u - 16 = omega arith in let l : u - 16 ≤ n = omega arith in omega (arith, f, l) in
      ap (λ (v : List ℕ). stripes_in q s to end 0 15 v) (e₀ ∙ ap (λ (v : ℕ). run_on q a s k v) (sym start)) ∙ stripes_run 15 0 (omega arith)

  -- a whole block, after which the state is scrambled; or the run ends within it

  pub whole : {r x t : List ℕ} → 16 ≤ end → r ≡ run_on q a s k (u - 16) → x ≡ stripes_in q s to end 0 16 r → t ≡ scramble q x → t ≡ run_on q a s k u
  unfolding stripes_in
  whole m e₀ e₁ g =
      let h : 64 * (16 - 15) ≤ to = let e = at.bytes in let f = at.first in omega (arith, e, f) in
      let x = e₁ ∙ ap (λ (v : List ℕ). stripe_in q s to end 15 v) (fifteen e₀) ∙ joined 15 (omega arith) m h in
      let t = number 15 (omega arith) m h in
      at_end q (Before 15) s (64 * until n u 15) (k + until n u 15) x (omega arith) g
      ∙ sym (next 15 (omega arith) m h)
      ∙ ap (λ (v : ℕ). run_on q a s k v) (until_some 16 m (omega arith) ∙ (let f : u + 16 - 16 ≡ u = omega arith in f))

  pub ends : {r x : List ℕ} → end < 16 → r ≡ run_on q a s k (u - 16) → x ≡ stripes_in q s to end 0 16 r → x ≡ run_on q a s k n
  unfolding stripes_in
  ends m e₀ e₁ =
      e₁ ∙ sym (past q s to end 15 _ (omega arith)) ∙ fifteen e₀ ∙ ap (λ (v : ℕ). run_on q a s k v) (until_all 15 (omega arith))
