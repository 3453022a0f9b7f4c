-- Each contract of the crate leaves one result and one content of lent memory.
use mathlib.Core.Path.{refl, sym, ap, ◌∙◌}
use mathlib.Core.List.{List}
use Prim.Native.Nat.{ℕ}
use Rattle.base.proofs.Determined.{Determined}
use Rattle.write_sections.specs.contracts.by_key.partners_size as partners_size
use Rattle.write_sections.proofs.by_key.partners_size.Reads as partners_size_reads
use Rattle.write_sections.specs.contracts.by_edge.put_logs as put_logs
use Rattle.write_sections.proofs.by_edge.put_logs.Reads as put_logs_reads
use Rattle.write_sections.specs.contracts.by_edge.put_logs_tombs as put_logs_tombs
use Rattle.write_sections.proofs.by_edge.put_logs_tombs.Reads as put_logs_tombs_reads
use Rattle.write_sections.specs.contracts.by_key.put_groups as put_groups
use Rattle.write_sections.proofs.by_key.put_groups.Reads as put_groups_reads
use Rattle.write_sections.specs.contracts.fences.put_fences as put_fences
use Rattle.write_sections.proofs.fences.put_fences.Reads as put_fences_reads
use Rattle.write_sections.specs.contracts.starts.put_starts as put_starts
use Rattle.write_sections.proofs.starts.put_starts.Reads as put_starts_reads

pub put_logs_determined : Determined put_logs.ended put_logs_reads.Pre put_logs_reads.Post
put_logs_determined κs a pre r₁ r₂ w₁ w₂ p q =
    (p.place ∙ sym q.place, ap (λ (l : List ℕ). (tt {0}, (tt {0}, (tt {0}, (l, (tt {0}, tt {0})))))) (p.bytes ∙ sym q.bytes))

pub put_logs_tombs_determined : Determined put_logs_tombs.ended put_logs_tombs_reads.Pre put_logs_tombs_reads.Post
put_logs_tombs_determined κs a pre r₁ r₂ w₁ w₂ p q =
    (p.place ∙ sym q.place, ap (λ (l : List ℕ). (tt {0}, (tt {0}, (l, (tt {0}, tt {0}))))) (p.bytes ∙ sym q.bytes))

pub put_groups_determined : Determined put_groups.ended put_groups_reads.Pre put_groups_reads.Post
put_groups_determined κs a pre r₁ r₂ w₁ w₂ p q =
    (p.place ∙ sym q.place, ap (λ (l : List ℕ). (tt {0}, (tt {0}, (tt {0}, (tt {0}, (l, (tt {0}, tt {0}))))))) (p.bytes ∙ sym q.bytes))

pub put_fences_determined : Determined put_fences.ended put_fences_reads.Pre put_fences_reads.Post
put_fences_determined κs a pre r₁ r₂ w₁ w₂ p q =
    (p.place ∙ sym q.place, ap (λ (l : List ℕ). (l, (tt {0}, (tt {0}, (tt {0}, tt {0}))))) (p.bytes ∙ sym q.bytes))

pub put_starts_determined : Determined put_starts.ended put_starts_reads.Pre put_starts_reads.Post
put_starts_determined κs a pre r₁ r₂ w₁ w₂ p q =
    (p.place ∙ sym q.place, ap (λ (l : List ℕ). (tt {0}, (tt {0}, (l, (tt {0}, tt {0}))))) (p.bytes ∙ sym q.bytes))

pub partners_size_determined : Determined partners_size.ended partners_size_reads.Pre partners_size_reads.Post
partners_size_determined κs a pre r₁ r₂ w₁ w₂ p q = ((λ i. record { bytes = (p.0 ∙ sym q.0) i; dense = (p.1 ∙ sym q.1) i }), refl)
