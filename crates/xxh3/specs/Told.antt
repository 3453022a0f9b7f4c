-- What C is told of a chunk: 0, or the refusal's number.
use Rattle.std.specs.Prelude.{◌≡◌, ℕ, Err, Ok}
use Rattle.std.proofs.Common.{sym, ap, ◌∙◌}
use Rattle.refusal.specs.declared.Refusal.{Refusal}
use Rattle.refusal.specs.Refusal.{number_of}
use Rattle.refusal.specs.Check.{Check}

unfoldable pub number_told : Check → ℕ
number_told (Ok _) = 0
number_told (Err r) = number_of r

-- ---- laws

pub told_fine : (c : Check) → c ≡ (Ok tt) → 0 ≡ number_told c
unfolding number_told
told_fine c e = sym (ap number_told e)

pub told_bad_lem : (c : Check) (r : Refusal) {n : ℕ} → c ≡ Err r → n ≡ number_of r → n ≡ number_told c
unfolding number_told
told_bad_lem c r e p = p ∙ sym (ap number_told e)
