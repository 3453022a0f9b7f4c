-- Each public contract of the crate leaves one result and one content of lent memory.
use mathlib.Core.Path.{refl, sym, ◌∙◌, ap}
use mathlib.Core.List.{List}
use Prim.Native.Nat.{ℕ}
use denote.Param.{number}
use mir.Syntax.{w64}
use mir.Val.{Fits}
use Rattle.base.proofs.Determined.{Determined}
use Rattle.codes.specs.contracts.little.byte as byte
use Rattle.codes.proofs.little.byte.Reads as byte_reads
use Rattle.codes.specs.contracts.little.le as le
use Rattle.codes.proofs.little.le.Reads as le_reads
use Rattle.codes.specs.contracts.little.put_le as put_le
use Rattle.codes.proofs.little.put_le.Reads as put_le_reads
use Rattle.codes.specs.contracts.ids.be64 as be64
use Rattle.codes.proofs.ids.be64.Reads as be64_reads
use Rattle.codes.specs.contracts.ids.id_at as id_at
use Rattle.codes.proofs.ids.id_at.Reads as id_at_reads
use Rattle.codes.specs.contracts.ids.compare as compare
use Rattle.codes.proofs.ids.compare.Reads as compare_reads
use Rattle.codes.specs.contracts.ids.precedes as precedes
use Rattle.codes.proofs.ids.precedes.Reads as precedes_reads
use Rattle.codes.specs.contracts.ids.same_id as same_id
use Rattle.codes.proofs.ids.same_id.Reads as same_id_reads
use Rattle.codes.specs.contracts.ids.put_be as put_be
use Rattle.codes.proofs.ids.put_be.Reads as put_be_reads
use Rattle.codes.specs.contracts.ids.put_be64 as put_be64
use Rattle.codes.proofs.ids.put_be64.Reads as put_be64_reads
use Rattle.codes.specs.contracts.ids.put_id as put_id
use Rattle.codes.proofs.ids.put_id.Reads as put_id_reads
use Rattle.codes.specs.contracts.varint.varint_at as varint_at
use Rattle.codes.proofs.varint.varint_at.Reads as varint_at_reads
use Rattle.codes.specs.contracts.varint.short_at as short_at
use Rattle.codes.proofs.varint.short_at.Reads as short_at_reads
use Rattle.codes.specs.contracts.varint.varint_len as varint_len
use Rattle.codes.proofs.varint.varint_len.Reads as varint_len_reads
use Rattle.codes.specs.contracts.varint.put_varint as put_varint
use Rattle.codes.proofs.varint.put_varint.Reads as put_varint_reads

pub byte_determined : Determined byte.ended byte_reads.Pre byte_reads.Post
byte_determined κs a pre r₁ r₂ w₁ w₂ p q = (p.0 ∙ sym q.0, refl)

-- of each width
pub le_determined : (N : ℕ) (fits : Fits w64 N) → Determined (le.ended (number N)) (le_reads.Pre N fits) (le_reads.Post N fits)
le_determined N fits κs a pre r₁ r₂ w₁ w₂ p q = (p.0 ∙ sym q.0, refl)

pub put_le_determined : Determined put_le.ended put_le_reads.Pre put_le_reads.Post
put_le_determined κs a pre r₁ r₂ w₁ w₂ p q = (refl, ap (λ (l : List ℕ). (l, (tt {0}, (tt {0}, (tt {0}, tt {0}))))) (p ∙ sym q))

pub be64_determined : Determined be64.ended be64_reads.Pre be64_reads.Post
be64_determined κs a pre r₁ r₂ w₁ w₂ p q = (p ∙ sym q, refl)

pub id_at_determined : Determined id_at.ended id_at_reads.Pre id_at_reads.Post
id_at_determined κs a pre r₁ r₂ w₁ w₂ p q = (p ∙ sym q, refl)

pub compare_determined : Determined compare.ended compare_reads.Pre compare_reads.Post
compare_determined κs a pre r₁ r₂ w₁ w₂ p q = (p ∙ sym q, refl)

pub precedes_determined : Determined precedes.ended precedes_reads.Pre precedes_reads.Post
precedes_determined κs a pre r₁ r₂ w₁ w₂ p q = (p ∙ sym q, refl)

pub same_id_determined : Determined same_id.ended same_id_reads.Pre same_id_reads.Post
same_id_determined κs a pre r₁ r₂ w₁ w₂ p q = (p ∙ sym q, refl)

pub put_be_determined : Determined put_be.ended put_be_reads.Pre put_be_reads.Post
put_be_determined κs a pre r₁ r₂ w₁ w₂ p q = (refl, ap (λ (l : List ℕ). (l, (tt {0}, (tt {0}, (tt {0}, tt {0}))))) (p ∙ sym q))

pub put_be64_determined : Determined put_be64.ended put_be64_reads.Pre put_be64_reads.Post
put_be64_determined κs a pre r₁ r₂ w₁ w₂ p q = (refl, ap (λ (l : List ℕ). (l, (tt {0}, (tt {0}, tt {0})))) (p ∙ sym q))

pub put_id_determined : Determined put_id.ended put_id_reads.Pre put_id_reads.Post
put_id_determined κs a pre r₁ r₂ w₁ w₂ p q = (refl, ap (λ (l : List ℕ). (l, (tt {0}, (tt {0}, tt {0})))) (p ∙ sym q))

pub varint_at_determined : Determined varint_at.ended varint_at_reads.Pre varint_at_reads.Post
varint_at_determined κs a pre r₁ r₂ w₁ w₂ p q = (p ∙ sym q, refl)

pub short_at_determined : Determined short_at.ended short_at_reads.Pre short_at_reads.Post
short_at_determined κs a pre r₁ r₂ w₁ w₂ p q = (p ∙ sym q, refl)

pub varint_len_determined : Determined varint_len.ended varint_len_reads.Pre varint_len_reads.Post
varint_len_determined κs a pre r₁ r₂ w₁ w₂ p q = (p ∙ sym q, refl)

pub put_varint_determined : Determined put_varint.ended put_varint_reads.Pre put_varint_reads.Post
put_varint_determined κs a pre r₁ r₂ w₁ w₂ p q = (p.place ∙ sym q.place, ap (λ (l : List ℕ). (l, (tt {0}, (tt {0}, tt {0})))) (p.bytes ∙ sym q.bytes))
