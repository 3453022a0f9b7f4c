-- Each public contract of the crate leaves one result. Whether a block of log numbers lies within a span is told in one direction only: it
-- bears on speed alone.
use Rattle.std.proofs.Common.{sym, refl, ◌∙◌}
use Rattle.base.proofs.Determined.{Determined}
use Rattle.summary.specs.contracts.summary as summary
use Rattle.summary.proofs.summary.Reads as summary_reads
use Rattle.summary.specs.contracts.tally.tally_of as tally_of
use Rattle.summary.proofs.tally.tally_of.Reads as tally_of_reads
use Rattle.summary.specs.contracts.logs.span_of as span_of
use Rattle.summary.proofs.logs.span_of.Reads as span_of_reads
use Rattle.summary.specs.contracts.dead.dead_of as dead_of
use Rattle.summary.proofs.dead.dead_of.Reads as dead_of_reads

pub summary_determined : Determined summary.ended summary_reads.Pre summary_reads.Post
summary_determined κs a pre r₁ r₂ w₁ w₂ p q = (p ∙ sym q, refl)

pub tally_of_determined : Determined tally_of.ended tally_of_reads.Pre tally_of_reads.Post
tally_of_determined κs a pre r₁ r₂ w₁ w₂ p q = (p ∙ sym q, refl)

pub span_of_determined : Determined span_of.ended span_of_reads.Pre span_of_reads.Post
span_of_determined κs a pre r₁ r₂ w₁ w₂ p q = (p ∙ sym q, refl)

pub dead_of_determined : Determined dead_of.ended dead_of_reads.Pre dead_of_reads.Post
dead_of_determined κs a pre r₁ r₂ w₁ w₂ p q = (p ∙ sym q, refl)
