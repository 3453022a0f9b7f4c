-- What the header's call for C tells of the library's answer.
use Rattle.std.specs.Prelude.{◌≡◌, ℕ, List, ◌++◌, drop, replicate, Result, Ok, Err}
use Rattle.std.proofs.Common.{ap, ◌∙◌, arith, append-nil}
use Rattle.std.proofs.lemmas.List.Edits.{sets}
use Rattle.base.specs.Over.{sets_over}
use Rattle.codes.specs.declared.ids.Id.{Id}
use Rattle.codes.specs.Ids.{id_bytes}
use Rattle.codes.specs.Ids.Laws.{length_id_bytes}
use Rattle.refusal.specs.declared.Refusal.{Refusal}
use Rattle.refusal.specs.Refusal.{number_of, place_of, beside_of}
use Rattle.frame.specs.declared.ends.Header.{Header}
use Rattle.edge_sst_c.specs.Header.{fields_told, without_fields, header_told}

-- ---- laws

pub header_told_lem : (x : Result Header Refusal) (h : Header) → x ≡ Ok h → header_told x ≡ fields_told h
unfolding header_told
header_told_lem x h e = rw e

pub header_refused : (x : Result Header Refusal) (r : Refusal) → x ≡ Err r → header_told x ≡ without_fields (number_of r) (place_of r) (beside_of r)
unfolding header_told
header_refused x r e = rw e

-- the bytes of an id, stored over as many zeros
pub bytes_told : (d : Id) {t : List ℕ} → t ≡ sets (replicate 16 0) 0 (id_bytes d) → t ≡ id_bytes d
bytes_told d e =
    let l = length_id_bytes d in
    let zeros : List ℕ = replicate 16 0 in
    e ∙ sets_over (id_bytes d) zeros (omega arith) ∙ ap (λ (n : ℕ). id_bytes d ++ drop n zeros) l ∙ append-nil (id_bytes d)
