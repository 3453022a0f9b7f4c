-- What the writer's C calls tell of the library's answers.
use Rattle.std.specs.Prelude.{◌≡◌, ℕ, List, Result, Ok, Err}
use Rattle.std.proofs.Common.{sym, ap, ◌∙◌}
use Rattle.refusal.specs.declared.Refusal.{Refusal}
use Rattle.refusal.specs.Refusal.{number_of, place_of, beside_of}
use Rattle.write_file.specs.Written.{Wrote}
use Rattle.edge_sst_c.specs.declared.desk.EdgeSstDone.{EdgeSstDone}
use Rattle.edge_sst_c.specs.Desk.{done_told}
use Rattle.edge_sst_c.specs.Write.{WroteTold}

-- ---- laws

pub written_done : (x : Result ℕ Refusal) (n : ℕ) → x ≡ Ok n → record { number = 0; place = 0; beside = 0; bytes = n } ≡ done_told x
unfolding done_told
written_done x n e = sym (ap done_told e)

pub written_refused : (x : Result ℕ Refusal) (r : Refusal) {n p s : ℕ} → x ≡ Err r → n ≡ number_of r → p ≡ place_of r → s ≡ beside_of r
    → record { number = n; place = p; beside = s; bytes = 0 } ≡ done_told x
unfolding done_told
written_refused x r e a b c = (λ i. record { number = a i; place = b i; beside = c i; bytes = 0 }) ∙ sym (ap done_told e)

pub wrote_told : {s o out : List ℕ} {w : Result ℕ Refusal} {r : EdgeSstDone} → Wrote s o w out → r ≡ done_told w → WroteTold s o r out
wrote_told c t = record { answer = t ∙ ap done_told c.answer; output = c.output }
