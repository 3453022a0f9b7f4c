-- The documents' table of refusals: the number of each case, and its place. Both are made from refusals.txt.
use Rattle.std.specs.Prelude.{ℕ, ◌-◌, List, [], ◌∷◌, Bool, false, ◌||◌, get_or, eqb}
use Rattle.refusal.specs.declared.Refusal.{Refusal}

abbrev pub number_of : Refusal → ℕ
-- numbers: from refusals.txt
-- the file has under 84 or over 2^30 bytes
number_of Refusal.Size = 1
-- the first eight bytes are not the magic
number_of Refusal.Magic = 2
-- the major version is not 1
number_of Refusal.Major = 3
-- the header size is not 64
number_of Refusal.HeaderSize = 4
-- a flag bit 4 to 31 is set
number_of Refusal.Flags = 5
-- the last eight bytes are not the magic
number_of Refusal.TailMagic = 6
-- the footer length is under 39 or over the size less 64
number_of Refusal.FooterLength = 7
-- the footer's checksum is another
number_of Refusal.FooterSum = 8
-- the table does not fill the body, section count, name rules, a kind missing or doubled
number_of Refusal.Table = 9
-- a section of kind 1 to 6 or 0x0200 is not raw
number_of (Refusal.Codec entry) = 10
-- a section's range breaks a rule
number_of (Refusal.Range entry) = 11
-- counts over their bounds, offset bits, a length that the counts do not give, edges below keys, edges without keys, fences missing, bit 0 unlike the presence of a property stream, bit 1 without section 5
number_of Refusal.Counts = 12
-- a key is not above the one before
number_of (Refusal.Key index) = 13
-- an offset breaks a rule
number_of (Refusal.Offset index) = 14
-- the fences break a rule
number_of Refusal.Fences = 15
-- the group's tag is unknown
number_of (Refusal.Tag byte group) = 16
-- an earlier degree is unreadable or 0, or the sum through this group is above the edge count; by a record with a start index instead: its two entries do not differ by the degree, or the later one is above the edge count
number_of (Refusal.Degrees group) = 19
-- an output is too short
number_of (Refusal.Room needed) = 20
-- an opened record whose ranges leave the file, or whose counts, offset bits or lengths break rule 12; a file over 2^30 bytes
number_of Refusal.Record = 21
-- a section's checksum is another, skipped kinds too
number_of (Refusal.Sum entry) = 22
-- the degree sum is not the edge count, bit 1 or 2 is not as the data, an unused tombstone bit is set, an entry of the start index is not the sum of the degrees before it
number_of Refusal.Data = 23
-- a batch's record is unknown, cut or misplaced
number_of (Refusal.Batch at) = 24
-- a batch's edge is not above the one before
number_of (Refusal.Unordered at) = 25
-- more keys, edges or file bytes than the bounds
number_of Refusal.Bounds = 26
-- a chunk would take the bytes of a running sum past 2^30
number_of Refusal.Chunk = 27
-- the degree is 0
number_of (Refusal.DegreeZero byte group) = 28
-- a partner is not above the one before
number_of (Refusal.PartnerOrder byte group) = 29
-- a partner's upper half passes 2^64 - 1
number_of (Refusal.UpperHalf byte group) = 30
-- the tag is missing, or a partner is cut, by the group's end; no byte of a dense partner too
number_of (Refusal.GroupCut byte group) = 31
-- bytes are left after the last partner
number_of (Refusal.SpareBytes byte group) = 32
-- a varint is cut by the group's end after at most nine bytes, none too
number_of (Refusal.VarintCut byte group) = 33
-- a varint is not the shortest for its number: its last byte is 0, after one to nine others
number_of (Refusal.VarintLong byte group) = 34
-- a varint's tenth byte is above 1, whatever follows: 2^64 or more
number_of (Refusal.VarintLarge byte group) = 35
-- a section is of a kind of the reserved range, 0x0007 to 0x00FF
number_of (Refusal.Reserved entry) = 36
-- an entry of the start index breaks a rule: the first is not 0, one is not above the one before, or the last is not the edge count
number_of (Refusal.Start index) = 37

-- numbers: to here

-- the last of them
abbrev pub last_number : ℕ
-- last: from refusals.txt
last_number = 37

-- last: to here

-- those that no refusal has any more
abbrev pub is_gone : ℕ → Bool
-- gone: from refusals.txt
is_gone n = eqb n 17 || eqb n 18 || false

-- gone: to here

abbrev pub place_of : Refusal → ℕ
-- places: from refusals.txt
place_of Refusal.Size = 0
place_of Refusal.Magic = 0
place_of Refusal.Major = 0
place_of Refusal.HeaderSize = 0
place_of Refusal.Flags = 0
place_of Refusal.TailMagic = 0
place_of Refusal.FooterLength = 0
place_of Refusal.FooterSum = 0
place_of Refusal.Table = 0
place_of (Refusal.Codec entry) = entry
place_of (Refusal.Range entry) = entry
place_of Refusal.Counts = 0
place_of (Refusal.Key index) = index
place_of (Refusal.Offset index) = index
place_of Refusal.Fences = 0
place_of (Refusal.Tag byte group) = byte
place_of (Refusal.Degrees group) = group
place_of (Refusal.Room needed) = needed
place_of Refusal.Record = 0
place_of (Refusal.Sum entry) = entry
place_of Refusal.Data = 0
place_of (Refusal.Batch at) = at
place_of (Refusal.Unordered at) = at
place_of Refusal.Bounds = 0
place_of Refusal.Chunk = 0
place_of (Refusal.DegreeZero byte group) = byte
place_of (Refusal.PartnerOrder byte group) = byte
place_of (Refusal.UpperHalf byte group) = byte
place_of (Refusal.GroupCut byte group) = byte
place_of (Refusal.SpareBytes byte group) = byte
place_of (Refusal.VarintCut byte group) = byte
place_of (Refusal.VarintLong byte group) = byte
place_of (Refusal.VarintLarge byte group) = byte
place_of (Refusal.Reserved entry) = entry
place_of (Refusal.Start index) = index

-- places: to here

-- a second place beside it, 0 where there is none
abbrev pub beside_of : Refusal → ℕ
-- places beside: from refusals.txt
beside_of Refusal.Size = 0
beside_of Refusal.Magic = 0
beside_of Refusal.Major = 0
beside_of Refusal.HeaderSize = 0
beside_of Refusal.Flags = 0
beside_of Refusal.TailMagic = 0
beside_of Refusal.FooterLength = 0
beside_of Refusal.FooterSum = 0
beside_of Refusal.Table = 0
beside_of (Refusal.Codec entry) = 0
beside_of (Refusal.Range entry) = 0
beside_of Refusal.Counts = 0
beside_of (Refusal.Key index) = 0
beside_of (Refusal.Offset index) = 0
beside_of Refusal.Fences = 0
beside_of (Refusal.Tag byte group) = group
beside_of (Refusal.Degrees group) = 0
beside_of (Refusal.Room needed) = 0
beside_of Refusal.Record = 0
beside_of (Refusal.Sum entry) = 0
beside_of Refusal.Data = 0
beside_of (Refusal.Batch at) = 0
beside_of (Refusal.Unordered at) = 0
beside_of Refusal.Bounds = 0
beside_of Refusal.Chunk = 0
beside_of (Refusal.DegreeZero byte group) = group
beside_of (Refusal.PartnerOrder byte group) = group
beside_of (Refusal.UpperHalf byte group) = group
beside_of (Refusal.GroupCut byte group) = group
beside_of (Refusal.SpareBytes byte group) = group
beside_of (Refusal.VarintCut byte group) = group
beside_of (Refusal.VarintLong byte group) = group
beside_of (Refusal.VarintLarge byte group) = group
beside_of (Refusal.Reserved entry) = 0
beside_of (Refusal.Start index) = 0

-- places beside: to here

-- the refusals in the order of their numbers, each that has a place at place p, with q beside it
abbrev pub refusals_at : ℕ → ℕ → List Refusal
-- all: from refusals.txt
refusals_at p q =
    Refusal.Size ∷ Refusal.Magic ∷ Refusal.Major ∷ Refusal.HeaderSize ∷ Refusal.Flags ∷ Refusal.TailMagic ∷ Refusal.FooterLength ∷ Refusal.FooterSum ∷ Refusal.Table ∷ Refusal.Codec p
    ∷ Refusal.Range p ∷ Refusal.Counts ∷ Refusal.Key p ∷ Refusal.Offset p ∷ Refusal.Fences ∷ Refusal.Tag p q ∷ Refusal.Size ∷ Refusal.Size ∷ Refusal.Degrees p ∷ Refusal.Room p
    ∷ Refusal.Record ∷ Refusal.Sum p ∷ Refusal.Data ∷ Refusal.Batch p ∷ Refusal.Unordered p ∷ Refusal.Bounds ∷ Refusal.Chunk ∷ Refusal.DegreeZero p q ∷ Refusal.PartnerOrder p q ∷ Refusal.UpperHalf p q
    ∷ Refusal.GroupCut p q ∷ Refusal.SpareBytes p q ∷ Refusal.VarintCut p q ∷ Refusal.VarintLong p q ∷ Refusal.VarintLarge p q ∷ Refusal.Reserved p ∷ Refusal.Start p ∷ []

-- all: to here

-- the refusal that a number and its places tell
unfoldable pub refusal_told : ℕ → ℕ → ℕ → Refusal
refusal_told n p q = get_or (refusals_at p q) (n - 1) Refusal.Size
