-- Each contract of the crate leaves one result and one content of lent memory.
use mathlib.Core.Path.{refl, sym, ap, ◌∙◌}
use mathlib.Core.List.{List}
use Prim.Native.Nat.{ℕ}
use Rattle.base.proofs.Determined.{Determined}
use Rattle.batch.specs.contracts.edge_at as edge_at
use Rattle.batch.proofs.edge_at.Reads as edge_at_reads
use Rattle.batch.specs.contracts.put_edge as put_edge
use Rattle.batch.proofs.put_edge.Reads as put_edge_reads

pub edge_at_determined : Determined edge_at.ended edge_at_reads.Pre edge_at_reads.Post
edge_at_determined κs a pre r₁ r₂ w₁ w₂ p q = (p ∙ sym q, refl)

pub put_edge_determined : Determined put_edge.ended put_edge_reads.Pre put_edge_reads.Post
put_edge_determined κs a pre r₁ r₂ w₁ w₂ p q = (refl, ap (λ (l : List ℕ). (l, (tt {0}, (tt {0}, tt {0})))) (p ∙ sym q))
