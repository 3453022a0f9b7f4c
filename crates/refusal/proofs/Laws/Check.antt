-- The laws of rules in their order, and of the tests that they are made of.
use Rattle.std.specs.Prelude.{◌≡◌, refl, ◌↔◌, ◌⊎◌, ℕ, Bool, true, false, not, ◌&&◌, ◌||◌, List, [], ◌∷◌, eqb, Ok, Err}
use Rattle.std.proofs.Common.{sym, ap, ◌∙◌, inl, inr, ⊎_elim, arith, eqb-true}
use Rattle.std.proofs.lemmas.Bool.{not-true}
use Rattle.base.specs.Pick.{pick}
use Rattle.refusal.specs.declared.Refusal.{Refusal}
use Rattle.refusal.specs.Refusal.{number_of}
use Rattle.refusal.specs.Check.{◌⊳◌, refuse, Check}

-- ---- rules

pub fine_parts : (a b : Check) → a ⊳ b ≡ (Ok tt) → (a ≡ (Ok tt)) × (b ≡ (Ok tt))
fine_parts (Ok _) b e = (refl, e)
fine_parts (Err r) b e = let z : ◌≡◌ {A = ℕ} 0 1 = cc in absurd (omega arith)

pub fine_both : {a b : Check} → a ≡ (Ok tt) → b ≡ (Ok tt) → a ⊳ b ≡ (Ok tt)
fine_both e d = rw (e, d)

-- a chain stops at the first that is broken, and goes on past one that is fine
pub bad_then : {a : Check} (b : Check) {r : Refusal} → a ≡ Err r → a ⊳ b ≡ Err r
bad_then b e = rw e

pub fine_then : {a : Check} (b : Check) → a ≡ (Ok tt) → a ⊳ b ≡ b
fine_then b e = rw e

pub then_assoc : (a b c : Check) → (a ⊳ b) ⊳ c ≡ a ⊳ (b ⊳ c)
then_assoc (Ok _) b c = refl
then_assoc (Err r) b c = refl

-- r is a chain's refusal exactly if
module _ (a b : Check) (r : Refusal) where
  bad_parts : a ⊳ b ≡ Err r → (a ≡ Err r) ⊎ ((a ≡ (Ok tt)) × (b ≡ Err r))
  bad_parts = go a
    where
      go : (c : Check) → c ⊳ b ≡ Err r → (c ≡ Err r) ⊎ ((c ≡ (Ok tt)) × (b ≡ Err r))
      go (Ok tt) e = inr (refl, e)
      go (Err q) e = inl e

  -- it is the first rule's, where the second never gives it
  pub by_first : (b ≡ Err r → ⊥) → (a ⊳ b ≡ Err r) ↔ (a ≡ Err r)
  by_first n = (λ e. ⊎_elim (λ h. h) (λ h. absurd (n h.1)) (bad_parts e), bad_then b)

  -- it is the second's and the first is fine, where the first never gives it
  pub by_second : (a ≡ Err r → ⊥) → (a ⊳ b ≡ Err r) ↔ ((a ≡ (Ok tt)) × (b ≡ Err r))
  by_second n = (λ e. ⊎_elim (λ h. absurd (n h)) (λ h. h) (bad_parts e), λ h. fine_then b h.0 ∙ h.1)

-- a rule is broken exactly if the fault is there
pub refuse_bad : (r : Refusal) (t : Bool) → (refuse r t ≡ Err r) ↔ (t ≡ true)
refuse_bad r t = (go t, λ e. ap (refuse r) e)
  where
    go : (t : Bool) → refuse r t ≡ Err r → t ≡ true
    go true e = refl
    go false e = let z : ◌≡◌ {A = ℕ} 0 1 = cc in absurd (omega arith)

pub refuse_fine : (r : Refusal) (t : Bool) → (refuse r t ≡ (Ok tt)) ↔ (t ≡ false)
refuse_fine r t = (go t, λ e. ap (refuse r) e)
  where
    go : (t : Bool) → refuse r t ≡ (Ok tt) → t ≡ false
    go true e = let z : ◌≡◌ {A = ℕ} 0 1 = cc in absurd (omega arith)
    go false e = refl

-- and it gives no other refusal
pub refuse_own : (q r : Refusal) (t : Bool) → (number_of q ≡ number_of r → ⊥) → refuse q t ≡ Err r → ⊥
refuse_own q r true n e = let same : q ≡ r = cc in n (ap number_of same)
refuse_own q r false n e = let z : ◌≡◌ {A = ℕ} 0 1 = cc in omega arith

-- a rule that asks for a test to be good
pub good_parts : (r : Refusal) (t : Bool) → refuse r (not t) ≡ (Ok tt) → t ≡ true
good_parts r true e = refl
good_parts r false e = let z : ◌≡◌ {A = ℕ} 0 1 = cc in absurd (omega arith)

pub good_fine : (r : Refusal) {t : Bool} → t ≡ true → refuse r (not t) ≡ (Ok tt)
good_fine r e = rw e

pub either_parts : (r : Refusal) (a b : Bool) → refuse r (a || b) ≡ (Ok tt) → (a ≡ false) × (b ≡ false)
either_parts r true b e = let z : ◌≡◌ {A = ℕ} 0 1 = cc in absurd (omega arith)
either_parts r false true e = let z : ◌≡◌ {A = ℕ} 0 1 = cc in absurd (omega arith)
either_parts r false false e = (refl, refl)

-- a rule that goes on where a test is good
pub pick_fine : (t : Bool) (a : Check) (r : Refusal) → pick t a (Err r) ≡ (Ok tt) → (t ≡ true) × (a ≡ (Ok tt))
pick_fine true a r e = (refl, e)
pick_fine false a r e = let z : ◌≡◌ {A = ℕ} 0 1 = cc in absurd (omega arith)

pub fine_pick : {t : Bool} {a : Check} (b : Check) → t ≡ true → a ≡ (Ok tt) → pick t a b ≡ (Ok tt)
fine_pick b e d = rw (e, d)

-- ---- tests

pub and_parts : (a b : Bool) → (a && b) ≡ true → (a ≡ true) × (b ≡ true)
and_parts true b e = (refl, e)
and_parts false b e = let z : ◌≡◌ {A = ℕ} 0 1 = cc in absurd (omega arith)

pub and_both : {a b : Bool} → a ≡ true → b ≡ true → (a && b) ≡ true
and_both e d = rw (e, d)

pub or_cases : (a b : Bool) → (a || b) ≡ true → a ≡ false → b ≡ true
or_cases true b e f = let z : ◌≡◌ {A = ℕ} 0 1 = cc in absurd (omega arith)
or_cases false b e f = e

-- ---- the numbers that rules may give

-- n stands in a list
abbrev pub listed : ℕ → List ℕ → Bool
listed n [] = false
listed n (m ∷ ms) = eqb n m || listed n ms

-- no number of the first list stands in the second; all do
abbrev pub none_in : List ℕ → List ℕ → Bool
none_in [] ms = true
none_in (n ∷ ns) ms = not (listed n ms) && none_in ns ms

abbrev pub all_in : List ℕ → List ℕ → Bool
all_in [] ms = true
all_in (n ∷ ns) ms = listed n ms && all_in ns ms

-- of two numbers, one of which heads a list
listed_first : (P : ℕ → Type 0) (n m : ℕ) (ns : List ℕ) → (n ≡ m → P n) → (listed n ns ≡ true → P n) → listed n (m ∷ ns) ≡ true → P n
listed_first P n m ns here there e = go (eqb n m) refl e
  where
    go : (t : Bool) → eqb n m ≡ t → (t || listed n ns) ≡ true → P n
    go true p e = here (eqb-true n m p)
    go false p e = there e

pub none_listed : (ns ms : List ℕ) (n : ℕ) → none_in ns ms ≡ true → listed n ns ≡ true → listed n ms ≡ false
none_listed [] ms n e h = let z : ◌≡◌ {A = ℕ} 0 1 = cc in absurd (omega arith)
none_listed (m ∷ ns) ms n e h =
    let p = and_parts (not (listed m ms)) (none_in ns ms) e in
    listed_first (λ k. listed k ms ≡ false) n m ns (λ q. ap (λ (k : ℕ). listed k ms) q ∙ not-true _ p.0) (none_listed ns ms n p.1) h

pub all_listed : (ns ms : List ℕ) (n : ℕ) → all_in ns ms ≡ true → listed n ns ≡ true → listed n ms ≡ true
all_listed [] ms n e h = let z : ◌≡◌ {A = ℕ} 0 1 = cc in absurd (omega arith)
all_listed (m ∷ ns) ms n e h =
    let p = and_parts (listed m ms) (all_in ns ms) e in
    listed_first (λ k. listed k ms ≡ true) n m ns (λ q. ap (λ (k : ℕ). listed k ms) q ∙ p.0) (all_listed ns ms n p.1) h

-- every refusal of a rule has one of the numbers ns
abbrev pub Numbers : List ℕ → Check → Type 0
Numbers ns c = (r : Refusal) → c ≡ Err r → listed (number_of r) ns ≡ true

module _ (ns : List ℕ) where
  pub numbers_fine : Numbers ns (Ok tt)
  numbers_fine r e = let z : ◌≡◌ {A = ℕ} 0 1 = cc in absurd (omega arith)

  pub numbers_bad : (q : Refusal) → listed (number_of q) ns ≡ true → Numbers ns (Err q)
  numbers_bad q g r e = let same : q ≡ r = cc in ap (λ (x : Refusal). listed (number_of x) ns) (sym same) ∙ g

  pub numbers_refuse : (q : Refusal) (t : Bool) → listed (number_of q) ns ≡ true → Numbers ns (refuse q t)
  numbers_refuse q true g = numbers_bad q g
  numbers_refuse q false g = numbers_fine

  pub numbers_then : (a b : Check) → Numbers ns a → Numbers ns b → Numbers ns (a ⊳ b)
  numbers_then (Ok tt) b m n = n
  numbers_then (Err q) b m n = m

  pub numbers_pick : (t : Bool) (a b : Check) → Numbers ns a → Numbers ns b → Numbers ns (pick t a b)
  numbers_pick true a b m n = m
  numbers_pick false a b m n = n

-- the same of a longer list
pub numbers_more : (ns ms : List ℕ) → all_in ns ms ≡ true → {c : Check} → Numbers ns c → Numbers ms c
numbers_more ns ms h n r e = all_listed ns ms (number_of r) h (n r e)

-- another number is never given
pub not_given : (ns : List ℕ) {c : Check} → Numbers ns c → (r : Refusal) → listed (number_of r) ns ≡ false → c ≡ Err r → ⊥
not_given ns n r h e = let z : ◌≡◌ {A = ℕ} 0 1 = cc (n r e, h) in omega arith
