-- What the numbers of a C call say of a refusal: `number` is 0 exactly if nothing is refused, and where it is not 0 every
-- output is left as it was.
use Rattle.std.specs.Prelude.{◌≡◌, ℕ, ◌≤◌, ◌⊎◌}
use Rattle.refusal.specs.declared.Refusal.{Refusal}
use Rattle.refusal.specs.Refusal.{number_of}
use Rattle.edge_sst_c.specs.declared.look.EdgeSstLooked.{EdgeSstLooked}

-- ---- number

-- the number n tells whether the answer x is a refusal, and which
pub record Tells {A : Type 0} (refused : Refusal → A) (x : A) (n : ℕ) : Type 0 where
  -- 0 is none
  pub none : n ≡ 0 → (q : Refusal) → x ≡ refused q → ⊥
  -- every other number is that of the refusal
  pub some : 1 ≤ n → (q : Refusal) × (x ≡ refused q) × (n ≡ number_of q)

-- ---- outputs

-- a lookup that found nothing: it was refused, or the key is absent
abbrev pub Unfound : EdgeSstLooked → Type 0
Unfound r = (1 ≤ r.number) ⊎ (r.found ≡ 0)
