-- Each public contract leaves one result.
use mathlib.Core.Path.{refl, sym, ◌∙◌}
use Rattle.base.proofs.Determined.{Determined}
use Rattle.xxh3_whole.specs.contracts.by_length as by_length
use Rattle.xxh3_whole.proofs.by_length.Reads as by_length_reads
use Rattle.xxh3_whole.specs.contracts.xxh3 as xxh3
use Rattle.xxh3_whole.proofs.xxh3.Reads as xxh3_reads

pub by_length_determined : Determined by_length.ended by_length_reads.Pre by_length_reads.Post
by_length_determined κs a pre r₁ r₂ w₁ w₂ p q = (p ∙ sym q, refl)

pub xxh3_determined : Determined xxh3.ended xxh3_reads.Pre xxh3_reads.Post
xxh3_determined κs a pre r₁ r₂ w₁ w₂ p q = (p ∙ sym q, refl)
