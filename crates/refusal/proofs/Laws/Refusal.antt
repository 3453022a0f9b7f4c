-- The laws of the table of refusals: a number is never 0, and number and places tell which refusal it is.
use Rattle.std.specs.Prelude.{◌≡◌, refl, ◌≤◌, true, false, ◌&&◌, leb}
use Rattle.std.proofs.Common.{sym, ◌∙◌, leb-true}
use Rattle.refusal.specs.declared.Refusal.{Refusal}
use Rattle.refusal.specs.Refusal.{number_of, place_of, beside_of, last_number, is_gone, refusal_told}
use Rattle.refusal.proofs.Laws.Check.{and_parts}

-- a number of the table
numbered : (r : Refusal) → (leb 1 (number_of r) && leb (number_of r) last_number) ≡ true
-- numbered: from refusals.txt
numbered Refusal.Size = refl
numbered Refusal.Magic = refl
numbered Refusal.Major = refl
numbered Refusal.HeaderSize = refl
numbered Refusal.Flags = refl
numbered Refusal.TailMagic = refl
numbered Refusal.FooterLength = refl
numbered Refusal.FooterSum = refl
numbered Refusal.Table = refl
numbered (Refusal.Codec entry) = refl
numbered (Refusal.Range entry) = refl
numbered Refusal.Counts = refl
numbered (Refusal.Key index) = refl
numbered (Refusal.Offset index) = refl
numbered Refusal.Fences = refl
numbered (Refusal.Tag byte group) = refl
numbered (Refusal.Degrees group) = refl
numbered (Refusal.Room needed) = refl
numbered Refusal.Record = refl
numbered (Refusal.Sum entry) = refl
numbered Refusal.Data = refl
numbered (Refusal.Batch at) = refl
numbered (Refusal.Unordered at) = refl
numbered Refusal.Bounds = refl
numbered Refusal.Chunk = refl
numbered (Refusal.DegreeZero byte group) = refl
numbered (Refusal.PartnerOrder byte group) = refl
numbered (Refusal.UpperHalf byte group) = refl
numbered (Refusal.GroupCut byte group) = refl
numbered (Refusal.SpareBytes byte group) = refl
numbered (Refusal.VarintCut byte group) = refl
numbered (Refusal.VarintLong byte group) = refl
numbered (Refusal.VarintLarge byte group) = refl
numbered (Refusal.Reserved entry) = refl
numbered (Refusal.Start index) = refl

-- numbered: to here

-- a refusal's number is 1 to the last
pub number_some : (r : Refusal) → 1 ≤ number_of r
number_some r = leb-true 1 (number_of r) (and_parts (leb 1 (number_of r)) (leb (number_of r) last_number) (numbered r)).0

pub number_most : (r : Refusal) → number_of r ≤ last_number
number_most r = leb-true (number_of r) last_number (and_parts (leb 1 (number_of r)) (leb (number_of r) last_number) (numbered r)).1

-- and none that is given no longer
pub not_gone : (r : Refusal) → is_gone (number_of r) ≡ false
-- not-gone: from refusals.txt
not_gone Refusal.Size = refl
not_gone Refusal.Magic = refl
not_gone Refusal.Major = refl
not_gone Refusal.HeaderSize = refl
not_gone Refusal.Flags = refl
not_gone Refusal.TailMagic = refl
not_gone Refusal.FooterLength = refl
not_gone Refusal.FooterSum = refl
not_gone Refusal.Table = refl
not_gone (Refusal.Codec entry) = refl
not_gone (Refusal.Range entry) = refl
not_gone Refusal.Counts = refl
not_gone (Refusal.Key index) = refl
not_gone (Refusal.Offset index) = refl
not_gone Refusal.Fences = refl
not_gone (Refusal.Tag byte group) = refl
not_gone (Refusal.Degrees group) = refl
not_gone (Refusal.Room needed) = refl
not_gone Refusal.Record = refl
not_gone (Refusal.Sum entry) = refl
not_gone Refusal.Data = refl
not_gone (Refusal.Batch at) = refl
not_gone (Refusal.Unordered at) = refl
not_gone Refusal.Bounds = refl
not_gone Refusal.Chunk = refl
not_gone (Refusal.DegreeZero byte group) = refl
not_gone (Refusal.PartnerOrder byte group) = refl
not_gone (Refusal.UpperHalf byte group) = refl
not_gone (Refusal.GroupCut byte group) = refl
not_gone (Refusal.SpareBytes byte group) = refl
not_gone (Refusal.VarintCut byte group) = refl
not_gone (Refusal.VarintLong byte group) = refl
not_gone (Refusal.VarintLarge byte group) = refl
not_gone (Refusal.Reserved entry) = refl
not_gone (Refusal.Start index) = refl

-- not-gone: to here

-- a refusal's number and places tell that refusal
pub told_back : (r : Refusal) → refusal_told (number_of r) (place_of r) (beside_of r) ≡ r
unfolding refusal_told
-- told_back: from refusals.txt
told_back Refusal.Size = refl
told_back Refusal.Magic = refl
told_back Refusal.Major = refl
told_back Refusal.HeaderSize = refl
told_back Refusal.Flags = refl
told_back Refusal.TailMagic = refl
told_back Refusal.FooterLength = refl
told_back Refusal.FooterSum = refl
told_back Refusal.Table = refl
told_back (Refusal.Codec entry) = refl
told_back (Refusal.Range entry) = refl
told_back Refusal.Counts = refl
told_back (Refusal.Key index) = refl
told_back (Refusal.Offset index) = refl
told_back Refusal.Fences = refl
told_back (Refusal.Tag byte group) = refl
told_back (Refusal.Degrees group) = refl
told_back (Refusal.Room needed) = refl
told_back Refusal.Record = refl
told_back (Refusal.Sum entry) = refl
told_back Refusal.Data = refl
told_back (Refusal.Batch at) = refl
told_back (Refusal.Unordered at) = refl
told_back Refusal.Bounds = refl
told_back Refusal.Chunk = refl
told_back (Refusal.DegreeZero byte group) = refl
told_back (Refusal.PartnerOrder byte group) = refl
told_back (Refusal.UpperHalf byte group) = refl
told_back (Refusal.GroupCut byte group) = refl
told_back (Refusal.SpareBytes byte group) = refl
told_back (Refusal.VarintCut byte group) = refl
told_back (Refusal.VarintLong byte group) = refl
told_back (Refusal.VarintLarge byte group) = refl
told_back (Refusal.Reserved entry) = refl
told_back (Refusal.Start index) = refl

-- told_back: to here

-- and so number and places tell one refusal
pub told_once : (r s : Refusal) → number_of r ≡ number_of s → place_of r ≡ place_of s → beside_of r ≡ beside_of s → r ≡ s
told_once r s n p q = sym (told_back r) ∙ (λ i. refusal_told (n i) (p i) (q i)) ∙ told_back s
