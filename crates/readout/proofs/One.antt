-- Each contract of the crate leaves one result and one content of lent memory.
use mathlib.Core.Path.{refl, sym, ap, ◌∙◌}
use mathlib.Core.List.{List}
use Prim.Native.Nat.{ℕ}
use Rattle.base.proofs.Determined.{Determined}
use Rattle.readout.specs.contracts.read_out as read_out
use Rattle.readout.proofs.read_out.Reads as read_out_reads
use Rattle.readout.specs.contracts.edges.put_edges_of as put_edges_of
use Rattle.readout.proofs.edges.put_edges_of.Reads as put_edges_of_reads
use Rattle.readout.specs.contracts.edges.put_heading as put_heading
use Rattle.readout.proofs.edges.put_heading.Reads as put_heading_reads
use Rattle.readout.specs.contracts.group_edges.put_group_edges as put_group
use Rattle.readout.proofs.group_edges.put_group_edges.Reads as put_group_reads

pub read_out_determined : Determined read_out.ended read_out_reads.Pre read_out_reads.Post
read_out_determined κs a pre r₁ r₂ w₁ w₂ p q = (p.0 ∙ sym q.0, ap (λ (l : List ℕ). (tt {0}, (l, tt {0}))) (p.1 ∙ sym q.1))

pub put_edges_of_determined : Determined put_edges_of.ended put_edges_of_reads.Pre put_edges_of_reads.Post
put_edges_of_determined κs a pre r₁ r₂ w₁ w₂ p q = (refl, ap (λ (l : List ℕ). (tt {0}, (tt {0}, (l, tt {0})))) (p ∙ sym q))

pub put_heading_determined : Determined put_heading.ended put_heading_reads.Pre put_heading_reads.Post
put_heading_determined κs a pre r₁ r₂ w₁ w₂ p q = (refl, ap (λ (l : List ℕ). (tt {0}, (l, tt {0}))) (p ∙ sym q))

pub put_group_determined : Determined put_group.ended put_group_reads.Pre put_group_reads.Post
put_group_determined κs a pre r₁ r₂ w₁ w₂ p q =
    (p.0 ∙ sym q.0, ap (λ (l : List ℕ). (tt {0}, (tt {0}, (tt {0}, (tt {0}, (tt {0}, (l, tt {0}))))))) (p.1 ∙ sym q.1))
