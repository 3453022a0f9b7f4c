-- The public contract leaves one result.
use mathlib.Core.Path.{refl, sym, ◌∙◌}
use Rattle.base.proofs.Determined.{Determined}
use Rattle.batch_faults.specs.contracts.check_batch as check_batch
use Rattle.batch_faults.proofs.check_batch.Reads as check_batch_reads

pub check_batch_determined : Determined check_batch.ended check_batch_reads.Pre check_batch_reads.Post
check_batch_determined κs a pre r₁ r₂ w₁ w₂ p q = (p ∙ sym q, refl)
