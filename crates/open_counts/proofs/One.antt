-- Each public contract of the crate leaves one result.
use mathlib.Core.Path.{refl, sym, ◌∙◌}
use Rattle.base.proofs.Determined.{Determined}
use Rattle.open_counts.specs.contracts.width_good as width_good
use Rattle.open_counts.proofs.width_good.Reads as width_good_reads
use Rattle.open_counts.specs.contracts.sizes_good as sizes_good
use Rattle.open_counts.proofs.sizes_good.Reads as sizes_good_reads
use Rattle.open_counts.specs.contracts.counts_good as counts_good
use Rattle.open_counts.proofs.counts_good.Reads as counts_good_reads
use Rattle.open_counts.specs.contracts.flag_of as flag_of
use Rattle.open_counts.proofs.flag_of.Reads as flag_of_reads
use Rattle.open_counts.specs.contracts.alike as alike
use Rattle.open_counts.proofs.alike.Reads as alike_reads

pub width_good_determined : Determined width_good.ended width_good_reads.Pre width_good_reads.Post
width_good_determined κs a pre r₁ r₂ w₁ w₂ p q = (p ∙ sym q, refl)

pub sizes_good_determined : Determined sizes_good.ended sizes_good_reads.Pre sizes_good_reads.Post
sizes_good_determined κs a pre r₁ r₂ w₁ w₂ p q = (p ∙ sym q, refl)

pub counts_good_determined : Determined counts_good.ended counts_good_reads.Pre counts_good_reads.Post
counts_good_determined κs a pre r₁ r₂ w₁ w₂ p q = (p ∙ sym q, refl)

pub flag_of_determined : Determined flag_of.ended flag_of_reads.Pre flag_of_reads.Post
flag_of_determined κs a pre r₁ r₂ w₁ w₂ p q = (p ∙ sym q, refl)

pub alike_determined : Determined alike.ended alike_reads.Pre alike_reads.Post
alike_determined κs a pre r₁ r₂ w₁ w₂ p q = (p ∙ sym q, refl)
