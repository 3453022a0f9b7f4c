-- Each public contract of the crate leaves one result.
use Rattle.std.proofs.Common.{sym, refl, ◌∙◌}
use Rattle.base.proofs.Determined.{Determined}
use Rattle.xxh3_upto240.specs.contracts.small.small as small
use Rattle.xxh3_upto240.proofs.small.small.Reads as small_reads
use Rattle.xxh3_upto240.specs.contracts.medium.of17to128 as of17to128
use Rattle.xxh3_upto240.proofs.medium.of17to128.Reads as of17to128_reads
use Rattle.xxh3_upto240.specs.contracts.medium.of129to240 as of129to240
use Rattle.xxh3_upto240.proofs.medium.of129to240.Reads as of129to240_reads

pub small_determined : Determined small.ended small_reads.Pre small_reads.Post
small_determined κs a pre r₁ r₂ w₁ w₂ p q = (p ∙ sym q, refl)

pub of17to128_determined : Determined of17to128.ended of17to128_reads.Pre of17to128_reads.Post
of17to128_determined κs a pre r₁ r₂ w₁ w₂ p q = (p ∙ sym q, refl)

pub of129to240_determined : Determined of129to240.ended of129to240_reads.Pre of129to240_reads.Post
of129to240_determined κs a pre r₁ r₂ w₁ w₂ p q = (p ∙ sym q, refl)
