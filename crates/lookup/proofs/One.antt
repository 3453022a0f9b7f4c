-- Each public contract of the crate leaves one result and one content of lent memory.
use mathlib.Core.Path.{refl, sym, ap, ◌∙◌}
use mathlib.Core.List.{List}
use Prim.Native.Nat.{ℕ}
use Rattle.base.proofs.Determined.{Determined}
use Rattle.lookup.specs.contracts.known.locate as locate
use Rattle.lookup.proofs.known.locate.Reads as locate_reads
use Rattle.lookup.specs.contracts.known.offset_of as offset_of
use Rattle.lookup.proofs.known.offset_of.Reads as offset_of_reads
use Rattle.lookup.specs.contracts.known.edges_of as edges_of
use Rattle.lookup.proofs.known.edges_of.Reads as edges_of_reads
use Rattle.lookup.specs.contracts.groups.group_of as group_of
use Rattle.lookup.proofs.groups.group_of.Reads as group_of_reads
use Rattle.lookup.specs.contracts.known.fill_logs as fill_logs
use Rattle.lookup.proofs.known.fill_logs.Reads as fill_logs_reads
use Rattle.lookup.specs.contracts.known.mark_at as mark_at
use Rattle.lookup.proofs.known.mark_at.Reads as mark_at_reads
use Rattle.lookup.specs.contracts.known.fill_marks as fill_marks
use Rattle.lookup.proofs.known.fill_marks.Reads as fill_marks_reads
use Rattle.lookup.specs.contracts.groups.give_partners as give_partners
use Rattle.lookup.proofs.groups.give_partners.Reads as give_partners_reads
use Rattle.lookup.specs.contracts.partners.partners_of as partners_of
use Rattle.lookup.proofs.partners.partners_of.Reads as partners_of_reads
use Rattle.lookup.specs.contracts.whole.edges_of_key as edges_of_key
use Rattle.lookup.proofs.whole.edges_of_key.Reads as edges_of_key_reads

pub locate_determined : Determined locate.ended locate_reads.Pre locate_reads.Post
locate_determined κs a pre r₁ r₂ w₁ w₂ p q = (p ∙ sym q, refl)

pub offset_of_determined : Determined offset_of.ended offset_of_reads.Pre offset_of_reads.Post
offset_of_determined κs a pre r₁ r₂ w₁ w₂ p q = (p ∙ sym q, refl)

pub edges_of_determined : Determined edges_of.ended edges_of_reads.Pre edges_of_reads.Post
edges_of_determined κs a pre r₁ r₂ w₁ w₂ p q = (p ∙ sym q, refl)

pub group_of_determined : Determined group_of.ended group_of_reads.Pre group_of_reads.Post
group_of_determined κs a pre r₁ r₂ w₁ w₂ p q = (p ∙ sym q, refl)

pub fill_logs_determined : Determined fill_logs.ended fill_logs_reads.Pre fill_logs_reads.Post
fill_logs_determined κs a pre r₁ r₂ w₁ w₂ p q = (refl, ap (λ (l : List ℕ). (tt {0}, (tt {0}, (tt {0}, (l, tt {0}))))) (p ∙ sym q))

pub mark_at_determined : Determined mark_at.ended mark_at_reads.Pre mark_at_reads.Post
mark_at_determined κs a pre r₁ r₂ w₁ w₂ p q = (p ∙ sym q, refl)

pub fill_marks_determined : Determined fill_marks.ended fill_marks_reads.Pre fill_marks_reads.Post
fill_marks_determined κs a pre r₁ r₂ w₁ w₂ p q = (refl, ap (λ (l : List ℕ). (tt {0}, (tt {0}, (tt {0}, (l, tt {0}))))) (p ∙ sym q))

pub give_partners_determined : Determined give_partners.ended give_partners_reads.Pre give_partners_reads.Post
give_partners_determined κs a pre r₁ r₂ w₁ w₂ p q = (refl, ap (λ (l : List ℕ). (tt {0}, (tt {0}, (tt {0}, (l, tt {0}))))) (p ∙ sym q))

pub partners_of_determined : Determined partners_of.ended partners_of_reads.Pre partners_of_reads.Post
partners_of_determined κs a pre r₁ r₂ w₁ w₂ p q =
    (p.answer ∙ sym q.answer, ap (λ (l : List ℕ). (tt {0}, (tt {0}, (tt {0}, (l, tt {0}))))) (p.partners ∙ sym q.partners))

pub edges_of_key_determined : Determined edges_of_key.ended edges_of_key_reads.Pre edges_of_key_reads.Post
edges_of_key_determined κs a pre r₁ r₂ w₁ w₂ p q =
    (p.answer ∙ sym q.answer, (λ i. (tt {0}, (tt {0}, (tt {0}, ((p.partners ∙ sym q.partners) i, ((p.numbers ∙ sym q.numbers) i, ((p.dead ∙ sym q.dead) i, tt {0}))))))))
