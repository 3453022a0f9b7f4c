-- The laws of records: their lengths.
use Rattle.std.specs.Prelude.{◌≡◌, refl, ℕ, suc, ◌+◌, ◌*◌, List, [], ◌∷◌, ◌++◌, length, set}
use Rattle.std.proofs.Common.{sym, ap, ◌∙◌, arith, append_assoc, add-one, length-append}
use Rattle.std.proofs.lemmas.List.Edits.{sets}
use Rattle.base.specs.Over.{sets_append}
use Rattle.codes.specs.Little.{le_bytes}
use Rattle.codes.specs.Little.Laws.{length_le_bytes}
use Rattle.codes.specs.Ids.{id_bytes}
use Rattle.codes.specs.Ids.Laws.{length_id_bytes}
use Rattle.batch.specs.declared.Edge.{Edge}
use Rattle.batch.specs.Batch.{kind_of, edge_bytes, records_of}

pub edge_is : (e : Edge) → edge_bytes e ≡ kind_of e.dead ∷ (id_bytes e.key ++ (id_bytes e.partner ++ le_bytes 8 e.log))
unfolding edge_bytes
edge_is e = refl

pub length_edge : (e : Edge) → length (edge_bytes e) ≡ 41
unfolding edge_bytes
length_edge e =
    let k = length_id_bytes e.key in
    let p = length_id_bytes e.partner in
    let l = length_le_bytes 8 e.log in
    ap suc (length-append (id_bytes e.key) _ ∙ ap (λ (t : ℕ). length (id_bytes e.key) + t) (length-append (id_bytes e.partner) (le_bytes 8 e.log)) ∙ omega arith)

-- the parts of a record, written one after the other
pub record_parts : (o : List ℕ) (at : ℕ) (e : Edge)
    → sets (sets (sets (set o at (kind_of e.dead)) (at + 1) (id_bytes e.key)) (at + 17) (id_bytes e.partner)) (at + 33) (le_bytes 8 e.log) ≡ sets o at (edge_bytes e)
unfolding edge_bytes
record_parts o at e =
    let key : List ℕ = id_bytes e.key in
    let partner : List ℕ = id_bytes e.partner in
    let log : List ℕ = le_bytes 8 e.log in
    let start : List ℕ = set o at (kind_of e.dead) in
    let k = length_id_bytes e.key in
    let p = length_id_bytes e.partner in
    let second : suc at + length key ≡ at + 17 = omega arith in
    let third : at + 17 + length partner ≡ at + 33 = omega arith in
    sym
    (sets_append key (partner ++ log) start (suc at)
    ∙ ap (λ (t : ℕ). sets (sets start (suc at) key) t (partner ++ log)) second
    ∙ sets_append partner log (sets start (suc at) key) (at + 17)
    ∙ ap (λ (t : ℕ). sets (sets (sets start (suc at) key) (at + 17) partner) t log) third
    ∙ ap (λ (t : ℕ). sets (sets (sets start t key) (at + 17) partner) (at + 33) log) (sym (add-one at)))

pub records_none : records_of [] ≡ []
unfolding records_of
records_none = refl

pub records_cons : (e : Edge) (es : List Edge) → records_of (e ∷ es) ≡ edge_bytes e ++ records_of es
unfolding records_of
records_cons e es = refl

pub records_append : (es fs : List Edge) → records_of (es ++ fs) ≡ records_of es ++ records_of fs
unfolding records_of
records_append [] fs = refl
records_append (e ∷ es) fs =
    ap (λ (t : List ℕ). edge_bytes e ++ t) (records_append es fs) ∙ sym (append_assoc (edge_bytes e) (records_of es) (records_of fs))

pub length_records : (es : List Edge) → length (records_of es) ≡ 41 * length es
unfolding records_of
length_records [] = refl
length_records (e ∷ es) =
    let first = length_edge e in
    let others = length_records es in
    length-append (edge_bytes e) (records_of es) ∙ omega arith
