-- What the release desk's C calls tell of the library's answers.
use Rattle.std.specs.Prelude.{◌≡◌, ℕ, Result, Ok, Err}
use Rattle.std.proofs.Common.{sym, ap, ◌∙◌}
use Rattle.refusal.specs.declared.Refusal.{Refusal}
use Rattle.refusal.specs.Refusal.{number_of, place_of, beside_of}
use Rattle.edge_sst_c.specs.Desk.{check_told, done_told}
use Rattle.refusal.specs.Check.{Check}

-- ---- laws

pub check_told_fine : (c : Check) → c ≡ (Ok tt) → record { number = 0; place = 0; beside = 0 } ≡ check_told c
unfolding check_told
check_told_fine c e = sym (ap check_told e)

pub check_told_bad : (k : Check) (r : Refusal) {n p s : ℕ} → k ≡ Err r → n ≡ number_of r → p ≡ place_of r → s ≡ beside_of r → record { number = n; place = p; beside = s } ≡ check_told k
unfolding check_told
check_told_bad k r e a b c = (λ i. record { number = a i; place = b i; beside = c i }) ∙ sym (ap check_told e)

pub read_done : (x : Result ℕ Refusal) (n : ℕ) → x ≡ Ok n → record { number = 0; place = 0; beside = 0; bytes = n } ≡ done_told x
unfolding done_told
read_done x n e = sym (ap done_told e)

pub read_refused : (x : Result ℕ Refusal) (r : Refusal) {n p s : ℕ} → x ≡ Err r → n ≡ number_of r → p ≡ place_of r → s ≡ beside_of r
    → record { number = n; place = p; beside = s; bytes = 0 } ≡ done_told x
unfolding done_told
read_refused x r e a b c = (λ i. record { number = a i; place = b i; beside = c i; bytes = 0 }) ∙ sym (ap done_told e)
