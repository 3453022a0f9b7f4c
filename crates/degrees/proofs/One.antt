-- Each public contract of the crate leaves one result.
use mathlib.Core.Path.{refl, sym, ◌∙◌}
use Rattle.base.proofs.Determined.{Determined}
use Rattle.degrees.specs.contracts.degree_in as degree_in
use Rattle.degrees.proofs.degree_in.Reads as degree_in_reads
use Rattle.degrees.specs.contracts.edges_before as edges_before
use Rattle.degrees.proofs.edges_before.Reads as edges_before_reads
use Rattle.degrees.specs.contracts.start_of as start_of_lem
use Rattle.degrees.proofs.start_of.Reads as start_of_reads

pub degree_in_determined : Determined degree_in.ended degree_in_reads.Pre degree_in_reads.Post
degree_in_determined κs a pre r₁ r₂ w₁ w₂ p q = (p ∙ sym q, refl)

pub edges_before_determined : Determined edges_before.ended edges_before_reads.Pre edges_before_reads.Post
edges_before_determined κs a pre r₁ r₂ w₁ w₂ p q = (p ∙ sym q, refl)

pub start_of_determined : Determined start_of_lem.ended start_of_reads.Pre start_of_reads.Post
start_of_determined κs a pre r₁ r₂ w₁ w₂ p q = (p ∙ sym q, refl)
