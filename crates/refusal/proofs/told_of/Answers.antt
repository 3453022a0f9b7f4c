-- `refusal::told_of` meets its contract, case by case.
use mathlib.Core.Path.{◌≡◌}
use Prim.Native.Nat.{ℕ}
use Rattle.refusal.specs.declared.Refusal.{Refusal}
use Rattle.refusal.specs.Refusal.{number_of, place_of, beside_of}
use Rattle.refusal.proofs.told_of.Goals as goal

-- what is told of a case is told of a refusal that is that case
is : {n p q : ℕ} {r s : Refusal} → r ≡ s → (n ≡ number_of s) × (p ≡ place_of s) × (q ≡ beside_of s) → (n ≡ number_of r) × (p ≡ place_of r) × (q ≡ beside_of r)
is e (a, b, c) = (rw e a, rw e b, rw e c)

pub returns-in-Size : goal.returns-in-Size
returns-in-Size c = is c.in-Size.is c.tell.ensures

pub returns-in-Magic : goal.returns-in-Magic
returns-in-Magic c = is c.in-Magic.is c.tell-in-Magic.ensures

pub returns-in-Major : goal.returns-in-Major
returns-in-Major c = is c.in-Major.is c.tell-in-Major.ensures

pub returns-in-HeaderSize : goal.returns-in-HeaderSize
returns-in-HeaderSize c = is c.in-HeaderSize.is c.tell-in-HeaderSize.ensures

pub returns-in-Flags : goal.returns-in-Flags
returns-in-Flags c = is c.in-Flags.is c.tell-in-Flags.ensures

pub returns-in-TailMagic : goal.returns-in-TailMagic
returns-in-TailMagic c = is c.in-TailMagic.is c.tell-in-TailMagic.ensures

pub returns-in-FooterLength : goal.returns-in-FooterLength
returns-in-FooterLength c = is c.in-FooterLength.is c.tell-in-FooterLength.ensures

pub returns-in-FooterSum : goal.returns-in-FooterSum
returns-in-FooterSum c = is c.in-FooterSum.is c.tell-in-FooterSum.ensures

pub returns-in-Table : goal.returns-in-Table
returns-in-Table c = is c.in-Table.is c.tell-in-Table.ensures

pub returns-in-Codec : goal.returns-in-Codec
returns-in-Codec c = is c.in-Codec.is c.tell-in-Codec.ensures

pub returns-in-Range : goal.returns-in-Range
returns-in-Range c = is c.in-Range.is c.tell-in-Range.ensures

pub returns-in-Counts : goal.returns-in-Counts
returns-in-Counts c = is c.in-Counts.is c.tell-in-Counts.ensures

pub returns-in-Key : goal.returns-in-Key
returns-in-Key c = is c.in-Key.is c.tell-in-Key.ensures

pub returns-in-Offset : goal.returns-in-Offset
returns-in-Offset c = is c.in-Offset.is c.tell-in-Offset.ensures

pub returns-in-Fences : goal.returns-in-Fences
returns-in-Fences c = is c.in-Fences.is c.tell-in-Fences.ensures

pub returns-in-Tag : goal.returns-in-Tag
returns-in-Tag c = is c.in-Tag.is c.tell-in-Tag.ensures

pub returns-in-Degrees : goal.returns-in-Degrees
returns-in-Degrees c = is c.in-Degrees.is c.tell-in-Degrees.ensures

pub returns-in-Room : goal.returns-in-Room
returns-in-Room c = is c.in-Room.is c.tell-in-Room.ensures

pub returns-in-Record : goal.returns-in-Record
returns-in-Record c = is c.in-Record.is c.tell-in-Record.ensures

pub returns-in-Sum : goal.returns-in-Sum
returns-in-Sum c = is c.in-Sum.is c.tell-in-Sum.ensures

pub returns-in-Data : goal.returns-in-Data
returns-in-Data c = is c.in-Data.is c.tell-in-Data.ensures

pub returns-in-Batch : goal.returns-in-Batch
returns-in-Batch c = is c.in-Batch.is c.tell-in-Batch.ensures

pub returns-in-Unordered : goal.returns-in-Unordered
returns-in-Unordered c = is c.in-Unordered.is c.tell-in-Unordered.ensures

pub returns-in-Bounds : goal.returns-in-Bounds
returns-in-Bounds c = is c.in-Bounds.is c.tell-in-Bounds.ensures

pub returns-in-Chunk : goal.returns-in-Chunk
returns-in-Chunk c = is c.in-Chunk.is c.tell-in-Chunk.ensures

pub returns-in-DegreeZero : goal.returns-in-DegreeZero
returns-in-DegreeZero c = is c.in-DegreeZero.is c.tell-in-DegreeZero.ensures

pub returns-in-PartnerOrder : goal.returns-in-PartnerOrder
returns-in-PartnerOrder c = is c.in-PartnerOrder.is c.tell-in-PartnerOrder.ensures

pub returns-in-UpperHalf : goal.returns-in-UpperHalf
returns-in-UpperHalf c = is c.in-UpperHalf.is c.tell-in-UpperHalf.ensures

pub returns-in-GroupCut : goal.returns-in-GroupCut
returns-in-GroupCut c = is c.in-GroupCut.is c.tell-in-GroupCut.ensures

pub returns-in-SpareBytes : goal.returns-in-SpareBytes
returns-in-SpareBytes c = is c.in-SpareBytes.is c.tell-in-SpareBytes.ensures

pub returns-in-VarintCut : goal.returns-in-VarintCut
returns-in-VarintCut c = is c.in-VarintCut.is c.tell-in-VarintCut.ensures

pub returns-in-VarintLong : goal.returns-in-VarintLong
returns-in-VarintLong c = is c.in-VarintLong.is c.tell-in-VarintLong.ensures

pub returns-in-VarintLarge : goal.returns-in-VarintLarge
returns-in-VarintLarge c = is c.in-VarintLarge.is c.tell-in-VarintLarge.ensures

pub returns-in-Reserved : goal.returns-in-Reserved
returns-in-Reserved c = is c.in-Reserved.is c.tell-in-Reserved.ensures

pub returns-in-Start : goal.returns-in-Start
returns-in-Start c = is c.in-Start.is c.tell-in-Start.ensures
