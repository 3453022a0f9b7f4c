-- Each public contract of the crate leaves one result.
use Rattle.std.proofs.Common.{sym, refl, ◌∙◌}
use Rattle.base.proofs.Determined.{Determined}
use Rattle.xxh3_mix.specs.contracts.product.low as low
use Rattle.xxh3_mix.proofs.product.low.Reads as low_reads
use Rattle.xxh3_mix.specs.contracts.product.high as high
use Rattle.xxh3_mix.proofs.product.high.Reads as high_reads
use Rattle.xxh3_mix.specs.contracts.product.fold as fold
use Rattle.xxh3_mix.proofs.product.fold.Reads as fold_reads
use Rattle.xxh3_mix.specs.contracts.mix.xorshift as xorshift
use Rattle.xxh3_mix.proofs.mix.xorshift.Reads as xorshift_reads
use Rattle.xxh3_mix.specs.contracts.mix.rotl as rotl
use Rattle.xxh3_mix.proofs.mix.rotl.Reads as rotl_reads
use Rattle.xxh3_mix.specs.contracts.mix.swap as swap
use Rattle.xxh3_mix.proofs.mix.swap.Reads as swap_reads
use Rattle.xxh3_mix.specs.contracts.mix.avalanche as avalanche
use Rattle.xxh3_mix.proofs.mix.avalanche.Reads as avalanche_reads
use Rattle.xxh3_mix.specs.contracts.mix.avalanche64 as avalanche64
use Rattle.xxh3_mix.proofs.mix.avalanche64.Reads as avalanche64_reads
use Rattle.xxh3_mix.specs.contracts.mix.rrmxmx as rrmxmx
use Rattle.xxh3_mix.proofs.mix.rrmxmx.Reads as rrmxmx_reads
use Rattle.xxh3_mix.specs.contracts.secret.half_word as half_word
use Rattle.xxh3_mix.proofs.secret.half_word.Reads as half_word_reads
use Rattle.xxh3_mix.specs.contracts.secret.word as word
use Rattle.xxh3_mix.proofs.secret.word.Reads as word_reads

pub low_determined : Determined low.ended low_reads.Pre low_reads.Post
low_determined κs a pre r₁ r₂ w₁ w₂ p q = (p ∙ sym q, refl)

pub high_determined : Determined high.ended high_reads.Pre high_reads.Post
high_determined κs a pre r₁ r₂ w₁ w₂ p q = (p ∙ sym q, refl)

pub fold_determined : Determined fold.ended fold_reads.Pre fold_reads.Post
fold_determined κs a pre r₁ r₂ w₁ w₂ p q = (p ∙ sym q, refl)

pub xorshift_determined : Determined xorshift.ended xorshift_reads.Pre xorshift_reads.Post
xorshift_determined κs a pre r₁ r₂ w₁ w₂ p q = (p ∙ sym q, refl)

pub rotl_determined : Determined rotl.ended rotl_reads.Pre rotl_reads.Post
rotl_determined κs a pre r₁ r₂ w₁ w₂ p q = (p ∙ sym q, refl)

pub swap_determined : Determined swap.ended swap_reads.Pre swap_reads.Post
swap_determined κs a pre r₁ r₂ w₁ w₂ p q = (p ∙ sym q, refl)

pub avalanche_determined : Determined avalanche.ended avalanche_reads.Pre avalanche_reads.Post
avalanche_determined κs a pre r₁ r₂ w₁ w₂ p q = (p ∙ sym q, refl)

pub avalanche64_determined : Determined avalanche64.ended avalanche64_reads.Pre avalanche64_reads.Post
avalanche64_determined κs a pre r₁ r₂ w₁ w₂ p q = (p ∙ sym q, refl)

pub rrmxmx_determined : Determined rrmxmx.ended rrmxmx_reads.Pre rrmxmx_reads.Post
rrmxmx_determined κs a pre r₁ r₂ w₁ w₂ p q = (p ∙ sym q, refl)

pub half_word_determined : Determined half_word.ended half_word_reads.Pre half_word_reads.Post
half_word_determined κs a pre r₁ r₂ w₁ w₂ p q = (p ∙ sym q, refl)

pub word_determined : Determined word.ended word_reads.Pre word_reads.Post
word_determined κs a pre r₁ r₂ w₁ w₂ p q = (p ∙ sym q, refl)
