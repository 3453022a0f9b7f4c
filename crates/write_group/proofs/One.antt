-- Each contract of the crate leaves one result and one content of lent memory.
use mathlib.Core.Path.{◌≡◌, refl, sym, ap, ◌∙◌}
use mathlib.Core.List.{List}
use Prim.Native.Nat.{ℕ}
use Rattle.batch.specs.Batch.{partners_in}
use Rattle.base.specs.Over.{part}
use Rattle.batch.specs.declared.Edge.{Edge}
use Rattle.batch_groups.proofs.Laws.Groups.{end_one}
use Rattle.write_image.specs.Image.{split_cost}
use Rattle.write_group.specs.declared.Span.{Span}
use Rattle.write_group.specs.Span.{Spans}
use Rattle.base.proofs.Determined.{Determined}
use Rattle.write_group.specs.contracts.span_at as span_at
use Rattle.write_group.proofs.span_at.Reads as span_at_reads
use Rattle.write_group.specs.contracts.group_end as group_end
use Rattle.write_group.proofs.group_end.Reads as group_end_reads
use Rattle.write_group.specs.contracts.dense_by as dense_by
use Rattle.write_group.proofs.dense_by.Reads as dense_by_reads
use Rattle.write_group.specs.contracts.block_size as block_size
use Rattle.write_group.proofs.block_size.Reads as block_size_reads
use Rattle.write_group.specs.contracts.put_block as put_block
use Rattle.write_group.proofs.put_block.Reads as put_block_reads

span_one : (es : List Edge) (i : ℕ) (s t : Span) → Spans es i s → Spans es i t → s ≡ t
span_one es i s t p q =
    let e : s.end ≡ t.end = end_one es i s.end t.end p.ends q.ends in
    let c : s.cost ≡ t.cost = p.costs ∙ ap (λ (j : ℕ). split_cost 0 (partners_in (part es i j))) e ∙ sym q.costs in
    (λ j. record { end = e j; cost = c j })

pub span_at_determined : Determined span_at.ended span_at_reads.Pre span_at_reads.Post
span_at_determined κs a pre r₁ r₂ w₁ w₂ p q = (span_one _ _ _ _ p q, refl)

pub group_end_determined : Determined group_end.ended group_end_reads.Pre group_end_reads.Post
group_end_determined κs a pre r₁ r₂ w₁ w₂ p q = (end_one _ _ _ _ p q, refl)

pub dense_by_determined : Determined dense_by.ended dense_by_reads.Pre dense_by_reads.Post
dense_by_determined κs a pre r₁ r₂ w₁ w₂ p q = (p ∙ sym q, refl)

pub put_block_determined : Determined put_block.ended put_block_reads.Pre put_block_reads.Post
put_block_determined κs a pre r₁ r₂ w₁ w₂ p q =
    (p.place ∙ sym q.place, ap (λ (l : List ℕ). (tt {0}, (tt {0}, (tt {0}, (tt {0}, (l, (tt {0}, tt {0}))))))) (p.bytes ∙ sym q.bytes))

pub block_size_determined : Determined block_size.ended block_size_reads.Pre block_size_reads.Post
block_size_determined κs a pre r₁ r₂ w₁ w₂ p q = ((λ i. record { bytes = (p.1 ∙ sym q.1) i; dense = (p.0 ∙ sym q.0) i }), refl)
