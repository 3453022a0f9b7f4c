-- Each public contract of the crate leaves one result.
use mathlib.Core.Path.{refl, sym, ◌∙◌}
use Rattle.base.proofs.Determined.{Determined}
use Rattle.open_file.specs.contracts.ends.size_check as size_check
use Rattle.open_file.proofs.ends.size_check.Reads as size_check_reads
use Rattle.open_file.specs.contracts.ends.flags_of as flags_of
use Rattle.open_file.proofs.ends.flags_of.Reads as flags_of_reads
use Rattle.open_file.specs.contracts.ends.ends_check as ends_check
use Rattle.open_file.proofs.ends.ends_check.Reads as ends_check_reads
use Rattle.open_file.specs.contracts.frames.counted as counted
use Rattle.open_file.proofs.frames.counted.Reads as counted_reads
use Rattle.open_file.specs.contracts.frames.footed as footed
use Rattle.open_file.proofs.frames.footed.Reads as footed_reads
use Rattle.open_file.specs.contracts.frames.footer_framing as footer_framing
use Rattle.open_file.proofs.frames.footer_framing.Reads as footer_framing_reads
use Rattle.open_file.specs.contracts.frames.frame_of as frame_of
use Rattle.open_file.proofs.frames.frame_of.Reads as frame_of_reads

pub size_check_determined : Determined size_check.ended size_check_reads.Pre size_check_reads.Post
size_check_determined κs a pre r₁ r₂ w₁ w₂ p q = (p ∙ sym q, refl)

pub flags_of_determined : Determined flags_of.ended flags_of_reads.Pre flags_of_reads.Post
flags_of_determined κs a pre r₁ r₂ w₁ w₂ p q = (p ∙ sym q, refl)

pub ends_check_determined : Determined ends_check.ended ends_check_reads.Pre ends_check_reads.Post
ends_check_determined κs a pre r₁ r₂ w₁ w₂ p q = (p ∙ sym q, refl)

pub counted_determined : Determined counted.ended counted_reads.Pre counted_reads.Post
counted_determined κs a pre r₁ r₂ w₁ w₂ p q = (p ∙ sym q, refl)

pub footed_determined : Determined footed.ended footed_reads.Pre footed_reads.Post
footed_determined κs a pre r₁ r₂ w₁ w₂ p q = (p ∙ sym q, refl)

pub footer_framing_determined : Determined footer_framing.ended footer_framing_reads.Pre footer_framing_reads.Post
footer_framing_determined κs a pre r₁ r₂ w₁ w₂ p q = (p ∙ sym q, refl)

pub frame_of_determined : Determined frame_of.ended frame_of_reads.Pre frame_of_reads.Post
frame_of_determined κs a pre r₁ r₂ w₁ w₂ p q = (p ∙ sym q, refl)
