-- Each public contract of the crate leaves one result.
use mathlib.Core.Path.{refl, sym, ◌∙◌}
use Rattle.base.proofs.Determined.{Determined}
use Rattle.frame.specs.contracts.Row.raw as raw
use Rattle.frame.proofs.Row.raw.Reads as raw_reads
use Rattle.frame.specs.contracts.kind.Keys.bytes as keys_bytes
use Rattle.frame.proofs.kind.Keys.bytes.Reads as keys_bytes_reads
use Rattle.frame.specs.contracts.kind.Keys.entry as keys_entry
use Rattle.frame.proofs.kind.Keys.entry.Reads as keys_entry_reads
use Rattle.frame.specs.contracts.kind.Offsets.bytes as offsets_bytes
use Rattle.frame.proofs.kind.Offsets.bytes.Reads as offsets_bytes_reads
use Rattle.frame.specs.contracts.kind.Offsets.entry as offsets_entry
use Rattle.frame.proofs.kind.Offsets.entry.Reads as offsets_entry_reads
use Rattle.frame.specs.contracts.kind.Partners.entry as partners_entry
use Rattle.frame.proofs.kind.Partners.entry.Reads as partners_entry_reads
use Rattle.frame.specs.contracts.kind.Logs.bytes as logs_bytes
use Rattle.frame.proofs.kind.Logs.bytes.Reads as logs_bytes_reads
use Rattle.frame.specs.contracts.kind.Logs.entry as logs_entry
use Rattle.frame.proofs.kind.Logs.entry.Reads as logs_entry_reads
use Rattle.frame.specs.contracts.kind.Tombstones.bytes as tombstones_bytes
use Rattle.frame.proofs.kind.Tombstones.bytes.Reads as tombstones_bytes_reads
use Rattle.frame.specs.contracts.kind.Tombstones.entry as tombstones_entry
use Rattle.frame.proofs.kind.Tombstones.entry.Reads as tombstones_entry_reads
use Rattle.frame.specs.contracts.kind.Fences.count as fences_count
use Rattle.frame.proofs.kind.Fences.count.Reads as fences_count_reads
use Rattle.frame.specs.contracts.kind.Fences.bytes as fences_bytes
use Rattle.frame.proofs.kind.Fences.bytes.Reads as fences_bytes_reads
use Rattle.frame.specs.contracts.kind.Fences.entry as fences_entry
use Rattle.frame.proofs.kind.Fences.entry.Reads as fences_entry_reads
use Rattle.frame.specs.contracts.kind.Reserved.holds as holds
use Rattle.frame.proofs.kind.Reserved.holds.Reads as holds_reads
use Rattle.frame.specs.contracts.kind.Kinds.slot as slot
use Rattle.frame.proofs.kind.Kinds.slot.Reads as slot_reads
use Rattle.frame.specs.contracts.ends.foot_len as foot_len
use Rattle.frame.proofs.ends.foot_len.Reads as foot_len_reads
use Rattle.frame.specs.contracts.ends.foot_at as foot_at
use Rattle.frame.proofs.ends.foot_at.Reads as foot_at_reads

pub raw_determined : Determined raw.ended raw_reads.Pre raw_reads.Post
raw_determined κs a pre r₁ r₂ w₁ w₂ p q = (p ∙ sym q, refl)

pub keys_bytes_determined : Determined keys_bytes.ended keys_bytes_reads.Pre keys_bytes_reads.Post
keys_bytes_determined κs a pre r₁ r₂ w₁ w₂ p q = (p ∙ sym q, refl)

pub keys_entry_determined : Determined keys_entry.ended keys_entry_reads.Pre keys_entry_reads.Post
keys_entry_determined κs a pre r₁ r₂ w₁ w₂ p q = (p ∙ sym q, refl)

pub offsets_bytes_determined : Determined offsets_bytes.ended offsets_bytes_reads.Pre offsets_bytes_reads.Post
offsets_bytes_determined κs a pre r₁ r₂ w₁ w₂ p q = (p ∙ sym q, refl)

pub offsets_entry_determined : Determined offsets_entry.ended offsets_entry_reads.Pre offsets_entry_reads.Post
offsets_entry_determined κs a pre r₁ r₂ w₁ w₂ p q = (p ∙ sym q, refl)

pub partners_entry_determined : Determined partners_entry.ended partners_entry_reads.Pre partners_entry_reads.Post
partners_entry_determined κs a pre r₁ r₂ w₁ w₂ p q = (p ∙ sym q, refl)

pub logs_bytes_determined : Determined logs_bytes.ended logs_bytes_reads.Pre logs_bytes_reads.Post
logs_bytes_determined κs a pre r₁ r₂ w₁ w₂ p q = (p ∙ sym q, refl)

pub logs_entry_determined : Determined logs_entry.ended logs_entry_reads.Pre logs_entry_reads.Post
logs_entry_determined κs a pre r₁ r₂ w₁ w₂ p q = (p ∙ sym q, refl)

pub tombstones_bytes_determined : Determined tombstones_bytes.ended tombstones_bytes_reads.Pre tombstones_bytes_reads.Post
tombstones_bytes_determined κs a pre r₁ r₂ w₁ w₂ p q = (p ∙ sym q, refl)

pub tombstones_entry_determined : Determined tombstones_entry.ended tombstones_entry_reads.Pre tombstones_entry_reads.Post
tombstones_entry_determined κs a pre r₁ r₂ w₁ w₂ p q = (p ∙ sym q, refl)

pub fences_count_determined : Determined fences_count.ended fences_count_reads.Pre fences_count_reads.Post
fences_count_determined κs a pre r₁ r₂ w₁ w₂ p q = (p ∙ sym q, refl)

pub fences_bytes_determined : Determined fences_bytes.ended fences_bytes_reads.Pre fences_bytes_reads.Post
fences_bytes_determined κs a pre r₁ r₂ w₁ w₂ p q = (p ∙ sym q, refl)

pub fences_entry_determined : Determined fences_entry.ended fences_entry_reads.Pre fences_entry_reads.Post
fences_entry_determined κs a pre r₁ r₂ w₁ w₂ p q = (p ∙ sym q, refl)

pub holds_determined : Determined holds.ended holds_reads.Pre holds_reads.Post
holds_determined κs a pre r₁ r₂ w₁ w₂ p q = (p ∙ sym q, refl)

pub slot_determined : Determined slot.ended slot_reads.Pre slot_reads.Post
slot_determined κs a pre r₁ r₂ w₁ w₂ p q = (p ∙ sym q, refl)

pub foot_len_determined : Determined foot_len.ended foot_len_reads.Pre foot_len_reads.Post
foot_len_determined κs a pre r₁ r₂ w₁ w₂ p q = (p ∙ sym q, refl)

pub foot_at_determined : Determined foot_at.ended foot_at_reads.Pre foot_at_reads.Post
foot_at_determined κs a pre r₁ r₂ w₁ w₂ p q = (p ∙ sym q, refl)
