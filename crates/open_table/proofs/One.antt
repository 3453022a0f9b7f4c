-- Each public contract of the crate leaves one result.
use mathlib.Core.Path.{refl, sym, ◌∙◌}
use Rattle.base.proofs.Determined.{Determined}
use Rattle.open_table.specs.contracts.row_at as row_at
use Rattle.open_table.proofs.row_at.Reads as row_at_reads
use Rattle.open_table.specs.contracts.rows_framing as rows_framing
use Rattle.open_table.proofs.rows_framing.Reads as rows_framing_reads

pub row_at_determined : Determined row_at.ended row_at_reads.Pre row_at_reads.Post
row_at_determined κs a pre r₁ r₂ w₁ w₂ p q = (p ∙ sym q, refl)

pub rows_framing_determined : Determined rows_framing.ended rows_framing_reads.Pre rows_framing_reads.Post
rows_framing_determined κs a pre r₁ r₂ w₁ w₂ p q = (p ∙ sym q, refl)
