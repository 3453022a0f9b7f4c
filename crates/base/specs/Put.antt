-- What writers promise, and what a loop that writes keeps.
use Rattle.std.specs.Prelude.{◌≡◌, refl, ℕ, ◌+◌, ◌≤◌, List, [], ◌++◌, length}
use Rattle.std.proofs.Common.{sym, ap, ap₂, ◌∙◌, arith, length-append}
use Rattle.std.proofs.lemmas.List.Edits.{sets}
use Rattle.std.proofs.Math.Seq.{length-sets}
use Rattle.base.specs.Over.{sets_append}

-- a writer's contract: of o it makes out by writing xs at `at`, and it answers r, the place after them
pub record Put (o out : List ℕ) (at r : ℕ) (xs : List ℕ) : Type 0 where
  pub place : r ≡ at + length xs
  pub bytes : out ≡ sets o at xs

-- the middle of writing ys at `at` over o: out is what there is, and xs, the rest, comes at `to`
pub record Left (out : List ℕ) (to : ℕ) (xs : List ℕ) (o : List ℕ) (at : ℕ) (ys : List ℕ) : Type 0 where
  pub same : length out ≡ length o
  pub place : to + length xs ≡ at + length ys
  pub whole : sets out to xs ≡ sets o at ys

pub start : (o : List ℕ) (at : ℕ) (ys : List ℕ) → Left o at ys o at ys
start o at ys = record { same = refl; place = refl; whole = refl }

module _ {out : List ℕ} {to : ℕ} {o : List ℕ} {at : ℕ} {ys : List ℕ} where
  -- the same rest by another name
  pub is : {xs zs : List ℕ} → xs ≡ zs → Left out to xs o at ys → Left out to zs o at ys
  is e l = record { same = l.same; place = (rw e at l.place); whole = (rw e at l.whole) }

  -- a writer takes its part off the rest
  pub put : {x xs : List ℕ} {out' : List ℕ} {to' : ℕ} → Left out to (x ++ xs) o at ys → Put out out' to to' x → Left out' to' xs o at ys
  put {x} {xs} l p =
      let n : length (x ++ xs) ≡ length x + length xs = length-append x xs in
      let q = l.place in
      let r = p.place in
      record {
        same = ap length p.bytes ∙ length-sets out to x ∙ l.same;
        place = omega arith;
        whole = ap₂ (λ (u : List ℕ) (v : ℕ). sets u v xs) p.bytes p.place ∙ sym (sets_append x xs out to) ∙ l.whole;
      }

  -- there is room for the next part
  pub room : (x xs : List ℕ) → Left out to (x ++ xs) o at ys → at + length ys ≤ length o → to + length x + length xs ≤ length out
  room x xs l h =
      let n : length (x ++ xs) ≡ length x + length xs = length-append x xs in
      let p = l.place in
      let q = l.same in
      omega arith

  -- nothing is left
  pub end : {xs : List ℕ} → xs ≡ [] → Left out to xs o at ys → Put o out at to ys
  end e l = let p = rw e at l.place in record { place = omega arith; bytes = (rw e at l.whole) }
