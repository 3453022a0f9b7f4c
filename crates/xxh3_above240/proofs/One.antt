-- Each public contract of the crate leaves one result.
use Rattle.std.proofs.Common.{sym, refl, ◌∙◌}
use Rattle.base.proofs.Determined.{Determined}
use Rattle.xxh3_above240.specs.contracts.large.by_default as by_default
use Rattle.xxh3_above240.proofs.large.by_default.Reads as by_default_reads
use Rattle.xxh3_above240.specs.contracts.large.lanes_after as lanes_after
use Rattle.xxh3_above240.proofs.large.lanes_after.Reads as lanes_after_reads
use Rattle.xxh3_above240.specs.contracts.large.sum_after as sum_after
use Rattle.xxh3_above240.proofs.large.sum_after.Reads as sum_after_reads

pub by_default_determined : Determined by_default.ended by_default_reads.Pre by_default_reads.Post
by_default_determined κs a pre r₁ r₂ w₁ w₂ p q = (p ∙ sym q, refl)

pub lanes_after_determined : Determined lanes_after.ended lanes_after_reads.Pre lanes_after_reads.Post
lanes_after_determined κs a pre r₁ r₂ w₁ w₂ p q = (p ∙ sym q, refl)

pub sum_after_determined : Determined sum_after.ended sum_after_reads.Pre sum_after_reads.Post
sum_after_determined κs a pre r₁ r₂ w₁ w₂ p q = (p ∙ sym q, refl)
