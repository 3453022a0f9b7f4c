-- Demand 3, what is not skipped: another major version, an unassigned flag bit, a section of a reserved kind and an unknown tag are
-- refused by their own numbers, by every call that looks at them, exactly where they are the first fault in the order of checks.
use Rattle.std.specs.Prelude.{◌≡◌, ◌⊎◌, ℕ, List, true, Ok}
use Rattle.refusal.specs.declared.Refusal.{Refusal}
use Rattle.refusal.specs.Refusal.{number_of, place_of, beside_of}
use Rattle.refusal.proofs.Laws.Check.{listed}
use Rattle.frame.specs.declared.Opened.{Opened}
use Rattle.frame.specs.Open.{open_of}
use Rattle.frame.specs.Given.{early_numbers}
use Rattle.frame.specs.Reserved.{ReservedAt}
use Rattle.promises.specs.Given.{Every}

-- "an old reader must stop there": none of these calls answers, and each gives the same refusal, one of 1 to 9, or 36 at the first
-- such entry
pub record Stops (f : List ℕ) : Type 0 where
  pub refusal : Refusal
  pub told : (listed (number_of refusal) early_numbers ≡ true) ⊎ ((j : ℕ) × ReservedAt f j × (refusal ≡ Refusal.Reserved j))
  pub each : Every f (number_of refusal) (place_of refusal) (beside_of refusal) (Unit {0})
  pub closed : (o : Opened) → open_of f ≡ Ok o → ⊥
