-- Opening: what the frame gives, rules 13 to 15 and 37 over the contents of the sections, and the answer.
use Rattle.std.specs.Prelude.{ℕ, zero, suc, ◌+◌, ◌-◌, ◌*◌, ◌/◌, List, [], Bool, true, not, ◌&&◌, ◌||◌, length, ltb, leb, eqb, Ok, Err}
use Rattle.base.specs.Pick.{pick}
use Rattle.base.specs.Over.{part}
use Rattle.codes.specs.Little.{le_at}
use Rattle.codes.specs.Ids.{id_at}
use Rattle.refusal.specs.declared.Refusal.{Refusal}
use Rattle.refusal.specs.Check.{◌⊳◌, refuse, Check}
use Rattle.frame.specs.declared.Range.{Range}
use Rattle.frame.specs.declared.Opened.{Opened}
use Rattle.frame.specs.declared.Framed.{Framed}
use Rattle.frame.specs.Kind as kind
use Rattle.frame.specs.Frame.{width_good, sizes_good, frame_check}
use Rattle.frame.specs.Opening.{Opening, Framing}
unfoldable pub use Rattle.frame.specs.Frame.{record_from, record_of, framed_from, framed_of}
pub mod Laws

-- ---- what a lookup sees of a file: the bytes of the known sections, the counts, the offset bits. "Without the section
-- every edge is live": no tombstones read as none. Without the start index, none of its bytes are seen.

pub record Known : Type 0 where
  pub keys : List ℕ
  pub offsets : List ℕ
  pub partners : List ℕ
  pub logs : List ℕ
  pub dead : List ℕ
  pub indexed : Bool
  pub starts : List ℕ
  pub keycount : ℕ
  pub edgecount : ℕ
  pub bits : ℕ

abbrev pub bytes_at : List ℕ → Range → List ℕ
bytes_at f p = part f p.start (p.start + p.len)

unfoldable pub known_of : List ℕ → Opened → Known
known_of f o = record {
  keys = bytes_at f o.keys;
  offsets = bytes_at f o.offsets;
  partners = bytes_at f o.partners;
  logs = bytes_at f o.logs;
  dead = pick o.marked (bytes_at f o.dead) [];
  indexed = o.indexed;
  starts = pick o.indexed (bytes_at f o.starts) [];
  keycount = o.keycount;
  edgecount = o.edgecount;
  bits = o.bits;
}

-- ---- rule 21, which is asked of a lent record: "opened record whose ranges leave the file or whose counts or offset bits
-- break rule 12's bounds or lengths (edges below keys or without keys isn't asked); its file over 2^30 bytes". Without
-- tombstones their range is not looked at; nor is that of a start index which the record says is not there.

abbrev pub inside : ℕ → Range → Bool
inside size p = leb (p.start + p.len) size

-- the two sections that may be missing
abbrev pub options_inside : ℕ → Opened → Bool
options_inside size o = (not o.marked || inside size o.dead) && (not o.indexed || inside size o.starts)

-- of a file of that size
unfoldable pub record_within : ℕ → Opened → Bool
record_within size o =
    leb size kind.most_bytes
    && (inside size o.keys
    && (inside size o.offsets
    && (inside size o.partners
    && (inside size o.logs
    && (options_inside size o
    && (width_good o.bits && sizes_good o))))))

abbrev pub record_good : List ℕ → Opened → Bool
record_good f o = record_within (length f) o

-- ---- rule 13: d keys from k on, each above the one before

abbrev pub key_at : List ℕ → ℕ → ℕ
key_at s k = id_at s (k * kind.key_size)

unfoldable pub keys_from : ℕ → List ℕ → ℕ → Check
keys_from zero s k = Ok tt
keys_from (suc d) s k = pick (ltb (key_at s (k - 1)) (key_at s k)) (keys_from d s (k + 1)) (Err (Refusal.Key k))

-- ---- rules 14 and 37: of n + 1 numbers of w bytes "the first is 0, each is above the one before, the last is" a number that
-- is known

abbrev pub offset_at : List ℕ → ℕ → ℕ → ℕ
offset_at o w i = le_at o (i * w) w

unfoldable pub offset_good : List ℕ → ℕ → ℕ → ℕ → ℕ → Bool
offset_good o w n len i =
    pick (eqb i 0) (eqb (offset_at o w i) 0) (ltb (offset_at o w (i - 1)) (offset_at o w i))
    && (not (eqb i n) || eqb (offset_at o w i) len)

-- d of them from i on: the first that is not good is told
unfoldable pub rising_from : (ℕ → Refusal) → ℕ → List ℕ → ℕ → ℕ → ℕ → ℕ → Check
rising_from told zero o w n len i = Ok tt
rising_from told (suc d) o w n len i = pick (offset_good o w n len i) (rising_from told d o w n len (i + 1)) (Err (told i))

-- 14: offsets of w bytes; "the last is the partner section's length"
abbrev pub offsets_check : List ℕ → ℕ → ℕ → ℕ → Check
offsets_check o w n len = rising_from Refusal.Offset (n + 1) o w n len 0

-- 37: entries of the start index, which "starts at 0, strictly increases and ends at the edge count"
abbrev pub start_at : List ℕ → ℕ → ℕ
start_at s i = offset_at s kind.start_size i

abbrev pub starts_check : List ℕ → ℕ → ℕ → Check
starts_check s n edges = rising_from Refusal.Start (n + 1) s kind.start_size n edges 0

-- ---- rule 15: "Stride u32 (at least 1); entry count u32 = key count divided by stride, rounded up; entries of key and
-- u64 offset, entry i being key i·stride and 16·i·stride"

unfoldable pub fence_good : List ℕ → List ℕ → ℕ → ℕ → Bool
fence_good x keys stride i =
    eqb (id_at x (kind.fences_head + kind.fence_size * i)) (key_at keys (i * stride))
    && eqb (le_at x (kind.fences_head + kind.fence_size * i + kind.key_size) 8) (kind.key_size * (i * stride))

-- d entries from i on
unfoldable pub fences_from : ℕ → List ℕ → List ℕ → ℕ → ℕ → Bool
fences_from zero x keys stride i = true
fences_from (suc d) x keys stride i = fence_good x keys stride i && fences_from d x keys stride (i + 1)

abbrev pub stride_of : List ℕ → ℕ
stride_of x = le_at x 0 4

abbrev pub fences_told : List ℕ → ℕ
fences_told x = le_at x 4 4

unfoldable pub fences_good : List ℕ → List ℕ → ℕ → Bool
fences_good x keys n =
    leb kind.fences_head (length x) && (leb 1 (stride_of x) && (eqb (fences_told x) ((n + (stride_of x - 1)) / stride_of x)
    && (eqb (length x) (kind.fences_len (fences_told x)) && fences_from (fences_told x) x keys (stride_of x) 0)))

-- ---- opening

-- 37, where there is a start index
abbrev pub indexed_check : Known → Check
indexed_check k = pick k.indexed (starts_check k.starts k.keycount k.edgecount) (Ok tt)

-- rules 13 to 15, then 37
unfoldable pub content_check : Known → Bool → List ℕ → Check
content_check k fenced fences =
    keys_from (k.keycount - 1) k.keys 1
    ⊳ offsets_check k.offsets (k.bits / 8) k.keycount (length k.partners)
    ⊳ refuse Refusal.Fences (fenced && not (fences_good fences k.keys k.keycount))
    ⊳ indexed_check k

-- rules 1 to 15, with 36, then 37
unfoldable pub file_check : List ℕ → Check
file_check f =
    frame_check (length f) f f ⊳ content_check (known_of f (record_of f)) (framed_of f).fenced (bytes_at f (framed_of f).fences)

-- the answers: what there is where no rule is broken, or the first refusal
unfoldable pub framing : Check → Framed → Framing
framing (Ok _) x = Ok x
framing (Err r) x = Err r

unfoldable pub opening : Check → Opened → Opening
opening (Ok _) o = Ok o
opening (Err r) o = Err r

unfoldable pub open_of : List ℕ → Opening
open_of f = opening (file_check f) (record_of f)
