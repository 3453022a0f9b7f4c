-- Each public contract of the crate leaves one result and one content of lent memory.
use mathlib.Core.Path.{refl, sym, ◌∙◌}
use Rattle.base.proofs.Determined.{Determined}
use Rattle.write_source.specs.contracts.log_of as log_of
use Rattle.write_source.proofs.log_of.Reads as log_of_reads
use Rattle.write_source.specs.contracts.dead_of as dead_of
use Rattle.write_source.proofs.dead_of.Reads as dead_of_reads
use Rattle.write_source.specs.contracts.edge_of as edge_of
use Rattle.write_source.proofs.edge_of.Reads as edge_of_reads

pub edge_of_determined : Determined edge_of.ended edge_of_reads.Pre edge_of_reads.Post
edge_of_determined κs a pre r₁ r₂ w₁ w₂ p q = (p ∙ sym q, refl)

pub log_of_determined : Determined log_of.ended log_of_reads.Pre log_of_reads.Post
log_of_determined κs a pre r₁ r₂ w₁ w₂ p q = (p ∙ sym q, refl)

pub dead_of_determined : Determined dead_of.ended dead_of_reads.Pre dead_of_reads.Post
dead_of_determined κs a pre r₁ r₂ w₁ w₂ p q = (p ∙ sym q, refl)
