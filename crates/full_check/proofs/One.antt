-- Each contract of the crate leaves one result and one content of lent memory.
use mathlib.Core.Path.{refl, sym, ◌∙◌}
use Rattle.base.proofs.Determined.{Determined}
use Rattle.full_check.specs.contracts.groups.groups_of as groups_of
use Rattle.full_check.proofs.groups.groups_of.Reads as groups_of_reads
use Rattle.full_check.specs.contracts.marks.marks_of as marks_of
use Rattle.full_check.proofs.marks.marks_of.Reads as marks_of_reads
use Rattle.full_check.specs.contracts.sums.sums_check as sums_check
use Rattle.full_check.proofs.sums.sums_check.Reads as sums_check_reads
use Rattle.full_check.specs.contracts.data.edges_check as edges_check
use Rattle.full_check.proofs.data.edges_check.Reads as edges_check_reads
use Rattle.full_check.specs.contracts.checked as checked
use Rattle.full_check.proofs.checked.Reads as checked_reads
use Rattle.full_check.specs.contracts.check as check
use Rattle.full_check.proofs.check.Reads as check_reads

pub groups_of_determined : Determined groups_of.ended groups_of_reads.Pre groups_of_reads.Post
groups_of_determined κs a pre r₁ r₂ w₁ w₂ p q = (p ∙ sym q, refl)

pub marks_of_determined : Determined marks_of.ended marks_of_reads.Pre marks_of_reads.Post
marks_of_determined κs a pre r₁ r₂ w₁ w₂ p q = (p ∙ sym q, refl)

pub sums_check_determined : Determined sums_check.ended sums_check_reads.Pre sums_check_reads.Post
sums_check_determined κs a pre r₁ r₂ w₁ w₂ p q = (p ∙ sym q, refl)

pub edges_check_determined : Determined edges_check.ended edges_check_reads.Pre edges_check_reads.Post
edges_check_determined κs a pre r₁ r₂ w₁ w₂ p q = (p ∙ sym q, refl)

pub checked_determined : Determined checked.ended checked_reads.Pre checked_reads.Post
checked_determined κs a pre r₁ r₂ w₁ w₂ p q = (p ∙ sym q, refl)

pub check_determined : Determined check.ended check_reads.Pre check_reads.Post
check_determined κs a pre r₁ r₂ w₁ w₂ p q = (p ∙ sym q, refl)
