-- Section kinds, their numbers, rows and lengths; header, footer and trailer; bounds. Each stands here once.
use Rattle.std.specs.Prelude.{ℕ, suc, ◌+◌, ◌-◌, ◌*◌, ◌/◌, ◌^◌, Bool, true, false, not, ◌&&◌, ◌||◌, List, [], ◌∷◌, length, ltb, leb, eqb}
use Rattle.base.specs.Pick.{pick}

-- ---- kinds

-- "1 keys, 2 offsets, 3 partners, 4 log numbers", "5 tombstones, 6 fences", "0x0100 property stream"
abbrev pub keys : ℕ
keys = 1

abbrev pub offsets : ℕ
offsets = 2

abbrev pub partners : ℕ
partners = 3

abbrev pub logs : ℕ
logs = 4

abbrev pub tombstones : ℕ
tombstones = 5

abbrev pub fences : ℕ
fences = 6

abbrev pub properties : ℕ
properties = 0x0100

-- "Add section kind 0x0200": the start index
abbrev pub starts : ℕ
starts = 0x0200

-- a kind that is read: its number, and whether a file must have it
pub record Kind : Type 0 where
  pub number : ℕ
  pub needed : Bool

abbrev pub exactly_once : ℕ → Kind
exactly_once k = record { number = k; needed = true }

abbrev pub at_most_once : ℕ → Kind
at_most_once k = record { number = k; needed = false }

-- the kinds that are read, each raw and without a name. A kind's slot is its place in this list.
abbrev pub kinds : List Kind
kinds = exactly_once keys ∷ exactly_once offsets ∷ exactly_once partners ∷ exactly_once logs ∷ at_most_once tombstones ∷ at_most_once fences ∷ at_most_once starts ∷ []

-- the place of kind k in a list of kinds; the list's length where it is not there
abbrev pub slot_in : ℕ → List Kind → ℕ
slot_in k [] = 0
slot_in k (q ∷ qs) = pick (eqb k q.number) 0 (suc (slot_in k qs))

abbrev pub slot_of : ℕ → ℕ
slot_of k = slot_in k kinds

-- a kind that is read
abbrev pub fixed : ℕ → Bool
fixed k = ltb (slot_of k) (length kinds)

-- the reserved range, "0x0007 to 0x00FF": "a later writer uses that range for sections that change what the others mean, so an
-- old reader must stop there"
abbrev pub first_reserved : ℕ
first_reserved = 0x0007

abbrev pub last_reserved : ℕ
last_reserved = 0x00FF

abbrev pub reserved : ℕ → Bool
reserved k = leb first_reserved k && leb k last_reserved

-- "Every other kind is skipped, at any minor version", where it is "outside the reserved ranges": every kind but 1 to 6, 0x0100,
-- 0x0200 and the range
abbrev pub unknown : ℕ → Bool
unknown k = not (fixed k || (eqb k properties || reserved k))

-- ---- rows and lengths

-- bytes of a key, of a log number, of an entry of the start index, of a fence, of what stands before the fences, of an entry of the
-- table without its name
abbrev pub key_size : ℕ
key_size = 16

abbrev pub log_size : ℕ
log_size = 8

abbrev pub start_size : ℕ
start_size = 8

abbrev pub fence_size : ℕ
fence_size = 24

abbrev pub fences_head : ℕ
fences_head = 8

abbrev pub entry_size : ℕ
entry_size = 28

-- bytes of n keys, of the offsets of n keys in w bytes each, of e log numbers, of the tombstones of e edges, of m fences
abbrev pub keys_len : ℕ → ℕ
keys_len n = key_size * n

abbrev pub offsets_len : ℕ → ℕ → ℕ
offsets_len n w = (n + 1) * w

abbrev pub logs_len : ℕ → ℕ
logs_len e = log_size * e

abbrev pub tombstones_len : ℕ → ℕ
tombstones_len e = (e + 7) / 8

abbrev pub fences_len : ℕ → ℕ
fences_len m = fences_head + fence_size * m

-- of the start index of n keys: "key count plus one u64"
abbrev pub starts_len : ℕ → ℕ
starts_len n = (n + 1) * start_size

-- "stride 256" in the writer's fences
abbrev pub fence_stride : ℕ
fence_stride = 256

-- a fence for every so many keys, and one for the rest
abbrev pub fence_count : ℕ → ℕ
fence_count n = (n + (fence_stride - 1)) / fence_stride

-- ---- header, footer, trailer

-- `TGEDGE` and two zero bytes, and the number that they make
abbrev pub magic_bytes : List ℕ
magic_bytes = 84 ∷ 71 ∷ 69 ∷ 68 ∷ 71 ∷ 69 ∷ 0 ∷ 0 ∷ []

abbrev pub magic : ℕ
magic = 0x0000_4547_4445_4754

-- bytes of the header, of the trailer, of what stands after the entries in a footer body, and of the least footer
abbrev pub header_size : ℕ
header_size = 64

abbrev pub trailer_size : ℕ
trailer_size = 20

abbrev pub counts_size : ℕ
counts_size = 17

abbrev pub least_footer : ℕ
least_footer = 39

-- ---- bounds

-- "file 2^30 bytes, 2^24 keys, 2^26 edges, 64 sections, name 63 bytes"; fences are "required above 65,536 keys"
abbrev pub most_bytes : ℕ
most_bytes = 2 ^ 30

abbrev pub most_keys : ℕ
most_keys = 2 ^ 24

abbrev pub most_edges : ℕ
most_edges = 2 ^ 26

abbrev pub most_sections : ℕ
most_sections = 64

abbrev pub longest_name : ℕ
longest_name = 63

abbrev pub most_unfenced : ℕ
most_unfenced = 65536

-- the writer's start index: "from 1,025 keys up"
abbrev pub most_unindexed : ℕ
most_unindexed = 1024
