-- Each public contract of the crate leaves one result.
use mathlib.Core.Path.{refl, sym, ◌∙◌}
use Rattle.base.proofs.Determined.{Determined}
use Rattle.index.specs.contracts.keys.key_at as key_at
use Rattle.index.proofs.keys.key_at.Reads as key_at_reads
use Rattle.index.specs.contracts.keys.keys_check as keys_check
use Rattle.index.proofs.keys.keys_check.Reads as keys_check_reads
use Rattle.index.specs.contracts.keys.find as find
use Rattle.index.proofs.keys.find.Reads as find_reads
use Rattle.index.specs.contracts.offsets.offset_at as offset_at
use Rattle.index.proofs.offsets.offset_at.Reads as offset_at_reads
use Rattle.index.specs.contracts.offsets.offsets_check as offsets_check
use Rattle.index.proofs.offsets.offsets_check.Reads as offsets_check_reads
use Rattle.index.specs.contracts.starts.start_at as start_at
use Rattle.index.proofs.starts.start_at.Reads as start_at_reads
use Rattle.index.specs.contracts.starts.starts_check as starts_check
use Rattle.index.proofs.starts.starts_check.Reads as starts_check_reads
use Rattle.index.specs.contracts.fences.fences_good as fences_good
use Rattle.index.proofs.fences.fences_good.Reads as fences_good_reads

pub key_at_determined : Determined key_at.ended key_at_reads.Pre key_at_reads.Post
key_at_determined κs a pre r₁ r₂ w₁ w₂ p q = (p ∙ sym q, refl)

pub keys_check_determined : Determined keys_check.ended keys_check_reads.Pre keys_check_reads.Post
keys_check_determined κs a pre r₁ r₂ w₁ w₂ p q = (p ∙ sym q, refl)

pub find_determined : Determined find.ended find_reads.Pre find_reads.Post
find_determined κs a pre r₁ r₂ w₁ w₂ p q = (p ∙ sym q, refl)

pub offset_at_determined : Determined offset_at.ended offset_at_reads.Pre offset_at_reads.Post
offset_at_determined κs a pre r₁ r₂ w₁ w₂ p q = (p.0 ∙ sym q.0, refl)

pub offsets_check_determined : Determined offsets_check.ended offsets_check_reads.Pre offsets_check_reads.Post
offsets_check_determined κs a pre r₁ r₂ w₁ w₂ p q = (p ∙ sym q, refl)

pub fences_good_determined : Determined fences_good.ended fences_good_reads.Pre fences_good_reads.Post
fences_good_determined κs a pre r₁ r₂ w₁ w₂ p q = (p ∙ sym q, refl)

pub start_at_determined : Determined start_at.ended start_at_reads.Pre start_at_reads.Post
start_at_determined κs a pre r₁ r₂ w₁ w₂ p q = (p ∙ sym q, refl)

pub starts_check_determined : Determined starts_check.ended starts_check_reads.Pre starts_check_reads.Post
starts_check_determined κs a pre r₁ r₂ w₁ w₂ p q = (p ∙ sym q, refl)
