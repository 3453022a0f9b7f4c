-- Each public contract of the crate leaves one result and one content of lent memory.
use mathlib.Core.Path.{refl, sym, ap, ◌∙◌}
use mathlib.Core.List.{List}
use Prim.Native.Nat.{ℕ}
use Rattle.base.proofs.Determined.{Determined}
use Rattle.reader.specs.contracts.open.open as opened
use Rattle.reader.proofs.open.open.Reads as opened_reads
use Rattle.reader.specs.contracts.header.header as header
use Rattle.reader.proofs.header.header.Reads as header_reads
use Rattle.reader.specs.contracts.rows.section_at as section_at
use Rattle.reader.proofs.rows.section_at.Reads as section_at_reads
use Rattle.reader.specs.contracts.look.partners as partners
use Rattle.reader.proofs.look.partners.Reads as partners_reads
use Rattle.reader.specs.contracts.look.partners_with as partners_with
use Rattle.reader.proofs.look.partners_with.Reads as partners_with_reads
use Rattle.reader.specs.contracts.look.lookup as lookup
use Rattle.reader.proofs.look.lookup.Reads as lookup_reads
use Rattle.reader.specs.contracts.look.lookup_with as lookup_with
use Rattle.reader.proofs.look.lookup_with.Reads as lookup_with_reads

pub open_determined : Determined opened.ended opened_reads.Pre opened_reads.Post
open_determined κs a pre r₁ r₂ w₁ w₂ p q = (p ∙ sym q, refl)

pub header_determined : Determined header.ended header_reads.Pre header_reads.Post
header_determined κs a pre r₁ r₂ w₁ w₂ p q = (p ∙ sym q, refl)

pub section_at_determined : Determined section_at.ended section_at_reads.Pre section_at_reads.Post
section_at_determined κs a pre r₁ r₂ w₁ w₂ p q = (p ∙ sym q, refl)

pub partners_determined : Determined partners.ended partners_reads.Pre partners_reads.Post
partners_determined κs a pre r₁ r₂ w₁ w₂ p q =
    (p.answer ∙ sym q.answer, ap (λ (l : List ℕ). (tt {0}, (tt {0}, (l, tt {0})))) (p.partners ∙ sym q.partners))

pub partners_with_determined : Determined partners_with.ended partners_with_reads.Pre partners_with_reads.Post
partners_with_determined κs a pre r₁ r₂ w₁ w₂ p q =
    (p.answer ∙ sym q.answer, ap (λ (l : List ℕ). (tt {0}, (tt {0}, (tt {0}, (l, tt {0}))))) (p.partners ∙ sym q.partners))

pub lookup_determined : Determined lookup.ended lookup_reads.Pre lookup_reads.Post
lookup_determined κs a pre r₁ r₂ w₁ w₂ p q = (p.answer ∙ sym q.answer, (λ i. (tt {0}, (tt {0}, ((p.partners ∙ sym q.partners) i, ((p.numbers ∙ sym q.numbers) i, ((p.dead ∙ sym q.dead) i, tt {0})))))))

pub lookup_with_determined : Determined lookup_with.ended lookup_with_reads.Pre lookup_with_reads.Post
lookup_with_determined κs a pre r₁ r₂ w₁ w₂ p q = (p.answer ∙ sym q.answer, (λ i. (tt {0}, (tt {0}, (tt {0}, ((p.partners ∙ sym q.partners) i, ((p.numbers ∙ sym q.numbers) i, ((p.dead ∙ sym q.dead) i, tt {0}))))))))
