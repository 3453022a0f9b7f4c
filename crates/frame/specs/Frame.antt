-- Rules 1 to 12 and 36 of opening. They see the file's size, its first bytes h and its last bytes t, and no more; for a whole
-- file f both are f. Every definition is total: past the end of a list there are zeros.
use Rattle.std.specs.Prelude.{ℕ, zero, suc, ◌+◌, ◌-◌, ◌/◌, ◌%◌, ◌^◌, List, [], ◌∷◌, Bool, true, false, not, ◌&&◌, ◌||◌, length, get_or, ltb, leb, eqb, Ok, Err}
use Rattle.std.specs.Bool.{beq}
use Rattle.base.specs.Pick.{pick}
use Rattle.base.specs.Over.{part}
use Rattle.codes.specs.Little.{le_at}
use Rattle.codes.specs.Ids.{halves_at}
use Rattle.xxh3_spec.specs.Xxh3.{xxh3}
use Rattle.refusal.specs.declared.Refusal.{Refusal}
use Rattle.refusal.specs.Check.{◌⊳◌, refuse, Check}
use Rattle.frame.specs.declared.Row.{Row}
use Rattle.frame.specs.declared.Range.{Range}
use Rattle.frame.specs.declared.Opened.{Opened}
use Rattle.frame.specs.declared.Framed.{Framed}
use Rattle.frame.specs.declared.ends.Header.{Header}
use Rattle.frame.specs.Kind as kind
pub mod Laws

-- ---- the section table, in the footer body b
-- "Section count u16 (1 to 64). Per section: kind u16, codec u8 (0 raw), name length u8, offset u64, length u64, XXH3-64
-- of the section's bytes u64, then the name (28 bytes plus the name). Then key count u64, edge count u64, offset bits u8."

-- the entry at i
unfoldable pub row_at : List ℕ → ℕ → Row
row_at b i = record {
  kind = le_at b i 2;
  codec = get_or b (i + 2) 0;
  namelen = get_or b (i + 3) 0;
  nameat = i + kind.entry_size;
  start = le_at b (i + 4) 8;
  len = le_at b (i + 12) 8;
  sum = le_at b (i + 20) 8;
}

-- the place after it
abbrev pub next_at : List ℕ → ℕ → ℕ
next_at b i = i + kind.entry_size + get_or b (i + 3) 0

-- an entry without a name, as the kinds that are read have it
abbrev pub raw_row : ℕ → ℕ → ℕ → ℕ → Row
raw_row k start len sum = record { kind = k; codec = 0; namelen = 0; nameat = 0; start = start; len = len; sum = sum }

-- d entries from i on, and the place after them
unfoldable pub rows_from : ℕ → List ℕ → ℕ → List Row
rows_from zero b i = []
rows_from (suc d) b i = row_at b i ∷ rows_from d b (next_at b i)

unfoldable pub end_from : ℕ → List ℕ → ℕ → ℕ
end_from zero b i = i
end_from (suc d) b i = end_from d b (next_at b i)

abbrev pub entry_count : List ℕ → ℕ
entry_count b = le_at b 0 2

unfoldable pub rows_of : List ℕ → List Row
rows_of b = rows_from (entry_count b) b 2

unfoldable pub end_of : List ℕ → ℕ
end_of b = end_from (entry_count b) b 2

abbrev pub key_count : List ℕ → ℕ
key_count b = le_at b (length b - kind.counts_size) 8

abbrev pub edge_count : List ℕ → ℕ
edge_count b = le_at b (length b - 9) 8

abbrev pub bits_of : List ℕ → ℕ
bits_of b = get_or b (length b - 1) 0

-- ---- questions to a table

-- kind k stands there; it stands there more than once
unfoldable pub has : ℕ → List Row → Bool
has k [] = false
has k (r ∷ rs) = eqb r.kind k || has k rs

unfoldable pub repeated : ℕ → List Row → Bool
repeated k [] = false
repeated k (r ∷ rs) = pick (eqb r.kind k) (has k rs) (repeated k rs)

-- where the first section of kind k lies; none: an empty range
abbrev pub range_of : Row → Range
range_of r = record { start = r.start; len = r.len }

abbrev pub nowhere : Range
nowhere = record { start = 0; len = 0 }

unfoldable pub section_of : ℕ → List Row → Range
section_of k [] = nowhere
section_of k (r ∷ rs) = pick (eqb r.kind k) (range_of r) (section_of k rs)

unfoldable pub all : {A : Type 0} → (A → Bool) → List A → Bool
all p [] = true
all p (x ∷ xs) = p x && all p xs

-- ---- what the frame gives: a body b with the rows rs

unfoldable pub record_from : List ℕ → List Row → Opened
record_from b rs = record {
  keys = section_of kind.keys rs;
  offsets = section_of kind.offsets rs;
  partners = section_of kind.partners rs;
  logs = section_of kind.logs rs;
  marked = has kind.tombstones rs;
  dead = section_of kind.tombstones rs;
  indexed = has kind.starts rs;
  starts = section_of kind.starts rs;
  keycount = key_count b;
  edgecount = edge_count b;
  bits = bits_of b;
}

unfoldable pub framed_from : List ℕ → List Row → Framed
framed_from b rs = record {
  opened = record_from b rs;
  fenced = has kind.fences rs;
  fences = section_of kind.fences rs;
  streams = has kind.properties rs;
}

-- ---- rule 9: "table doesn't fill the body, section count, name rules, missing or doubled kind"

-- a name has at most 63 bytes, and "kinds 1 to 6 have no name"; 0x0200 is "unnamed" too
abbrev pub name_good : Row → Bool
name_good r = leb r.namelen kind.longest_name && (not (kind.fixed r.kind) || eqb r.namelen 0)

-- kind q stands there as often as it may: exactly once, or at most once
abbrev pub once_good : List Row → kind.Kind → Bool
once_good rs q = not (repeated q.number rs) && (not q.needed || has q.number rs)

unfoldable pub kinds_good : List Row → Bool
kinds_good rs = all (once_good rs) kind.kinds

-- the entries, and the counts and the offset bits after them, fill the body
abbrev pub fills : List ℕ → Bool
fills b = eqb (end_of b + kind.counts_size) (length b)

unfoldable pub table_good : List ℕ → Bool
table_good b =
    leb 1 (entry_count b) && (leb (entry_count b) kind.most_sections && (fills b && (all name_good (rows_of b) && kinds_good (rows_of b))))

-- ---- rules 36, 10 and 11, at the first such entry

-- each entry is good, or the first that is not is told; the first of them is entry k
unfoldable pub each_row : (Row → Bool) → (ℕ → Refusal) → List Row → ℕ → Check
each_row good told [] k = Ok tt
each_row good told (r ∷ rs) k = pick (good r) (each_row good told rs (k + 1)) (Err (told k))

-- a kind outside the reserved range
abbrev pub kind_good : Row → Bool
kind_good r = not (kind.reserved r.kind)

abbrev pub codec_good : Row → Bool
codec_good r = not (kind.fixed r.kind) || eqb r.codec 0

-- "begins at 64 or later", "no earlier than the one before it ends": at the floor or later; "ends no later than file
-- size minus footer length": at the limit or before
abbrev pub range_good : ℕ → ℕ → Row → Bool
range_good limit floor r = leb floor r.start && leb (r.start + r.len) limit

unfoldable pub ranges : ℕ → List Row → ℕ → ℕ → Check
ranges limit [] floor k = Ok tt
ranges limit (r ∷ rs) floor k =
    pick (range_good limit floor r) (ranges limit rs (r.start + r.len) (k + 1)) (Err (Refusal.Range k))

-- ---- rule 12

-- flag bit i
abbrev pub flag : ℕ → ℕ → Bool
flag i flags = eqb (flags / 2 ^ i % 2) 1

-- "offset bits", asked of a lent record too (21)
abbrev pub width_good : ℕ → Bool
width_good bits = eqb bits 24 || (eqb bits 32 || (eqb bits 40 || eqb bits 48))

-- "counts over bounds, a length that the counts don't give", asked of a lent record too (21)
unfoldable pub sizes_good : Opened → Bool
sizes_good o =
    leb o.keycount kind.most_keys
    && (leb o.edgecount kind.most_edges
    && (eqb o.keys.len (kind.keys_len o.keycount)
    && (eqb o.offsets.len (kind.offsets_len o.keycount (o.bits / 8))
    && (eqb o.logs.len (kind.logs_len o.edgecount)
    && ((not o.marked || eqb o.dead.len (kind.tombstones_len o.edgecount))
    && (not o.indexed || eqb o.starts.len (kind.starts_len o.keycount)))))))

-- "edges below keys, edges without keys, fences missing; bit 0 unlike the presence of 0x0100; bit 1 without section 5"
unfoldable pub presence_good : ℕ → Framed → Bool
presence_good flags x =
    leb x.opened.keycount x.opened.edgecount
    && ((not (eqb x.opened.keycount 0) || eqb x.opened.edgecount 0)
    && ((leb x.opened.keycount kind.most_unfenced || x.fenced)
    && (beq (flag 0 flags) x.streams
    && (not (flag 1 flags) || x.opened.marked))))

unfoldable pub counts_good : ℕ → Framed → Bool
counts_good flags x = width_good x.opened.bits && (sizes_good x.opened && presence_good flags x)

-- ---- header, footer and trailer

-- "Magic `TGEDGE` and two zero bytes; major u8 = 1; minor u8, any; header size u16 = 64; flags u32"
abbrev pub flags_of : List ℕ → ℕ
flags_of h = le_at h 12 4

-- "Flag bits: [..] 3 inverse file": 1 is an inverse file, 0 a forward one
abbrev pub direction_of : ℕ → ℕ
direction_of flags = flags / 8 % 2

-- what it says besides, with "edge type, source label and destination label ids, 16 bytes each"
unfoldable pub header_in : List ℕ → Header
header_in h = record {
  minor = get_or h 9 0;
  direction = direction_of (flags_of h);
  flags = flags_of h;
  edgetype = halves_at h 16;
  source = halves_at h 32;
  destination = halves_at h 48;
}

-- the same header at another minor version
abbrev pub at_minor : ℕ → Header → Header
at_minor n h = record {
  minor = n;
  direction = h.direction;
  flags = h.flags;
  edgetype = h.edgetype;
  source = h.source;
  destination = h.destination;
}

-- "Trailer, 20 bytes. XXH3-64 of the body u64; footer length u32 (body plus 20); the header's eight magic bytes."
abbrev pub foot_len : List ℕ → ℕ
foot_len t = le_at t (length t - 12) 4

unfoldable pub body_of : List ℕ → List ℕ
body_of t = part t (length t - foot_len t) (length t - kind.trailer_size)

-- the record, and all that the frame gives
unfoldable pub record_of : List ℕ → Opened
record_of t = record_from (body_of t) (rows_of (body_of t))

unfoldable pub framed_of : List ℕ → Framed
framed_of t = framed_from (body_of t) (rows_of (body_of t))

-- ---- the rules, each by its name

-- 1
unfoldable pub size_check : ℕ → Check
size_check size = refuse Refusal.Size (ltb size (kind.header_size + kind.trailer_size) || ltb kind.most_bytes size)

-- 2 to 5
unfoldable pub head_check : List ℕ → Check
head_check h =
    refuse Refusal.Magic (not (eqb (le_at h 0 8) kind.magic))
    ⊳ refuse Refusal.Major (not (eqb (get_or h 8 0) 1))
    ⊳ refuse Refusal.HeaderSize (not (eqb (le_at h 10 2) kind.header_size))
    ⊳ refuse Refusal.Flags (ltb 15 (flags_of h))

-- 6 and 7
unfoldable pub tail_check : ℕ → List ℕ → Check
tail_check size t =
    refuse Refusal.TailMagic (not (eqb (le_at t (length t - 8) 8) kind.magic))
    ⊳ refuse Refusal.FooterLength (ltb (foot_len t) kind.least_footer || ltb (size - kind.header_size) (foot_len t))

-- 8
unfoldable pub sum_check : List ℕ → Check
sum_check t = refuse Refusal.FooterSum (not (eqb (xxh3 (body_of t)) (le_at t (length t - kind.trailer_size) 8)))

-- 9, of a body b
abbrev pub table_check : List ℕ → Check
table_check b = refuse Refusal.Table (not (table_good b))

-- 36, of the rows rs
abbrev pub reserved_check : List Row → Check
reserved_check rs = each_row kind_good Refusal.Reserved rs 0

-- 10
abbrev pub codec_check : List Row → Check
codec_check rs = each_row codec_good Refusal.Codec rs 0

-- 11, of rows whose sections end at the limit
abbrev pub range_check : ℕ → List Row → Check
range_check limit rs = ranges limit rs kind.header_size 0

-- 12
abbrev pub counts_check : ℕ → Framed → Check
counts_check flags x = refuse Refusal.Counts (not (counts_good flags x))

-- ---- the rules in their order

-- 2 to 7
unfoldable pub ends_check : ℕ → List ℕ → List ℕ → Check
ends_check size h t = head_check h ⊳ tail_check size t

-- 9, 36, 10, 11: all entries are asked for one before any is asked for the next
unfoldable pub rows_check : ℕ → List ℕ → Check
rows_check limit b = table_check b ⊳ reserved_check (rows_of b) ⊳ codec_check (rows_of b) ⊳ range_check limit (rows_of b)

-- 8 to 11, with 36
unfoldable pub footer_check : ℕ → List ℕ → Check
footer_check size t = sum_check t ⊳ rows_check (size - foot_len t) (body_of t)

-- 1 to 11, with 36
unfoldable pub shape_check : ℕ → List ℕ → List ℕ → Check
shape_check size h t = size_check size ⊳ ends_check size h t ⊳ footer_check size t

-- 1 to 12, with 36
unfoldable pub frame_check : ℕ → List ℕ → List ℕ → Check
frame_check size h t = shape_check size h t ⊳ counts_check (flags_of h) (framed_of t)
