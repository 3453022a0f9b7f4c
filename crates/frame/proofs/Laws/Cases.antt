-- Two files held to bytes that the second program made, laid out by the definitions and opened by them; and the rules of the section table
-- at their edges.
use Rattle.std.specs.Prelude.{◌≡◌, refl, List, [], ◌∷◌, ◌++◌, true, false, not, ℕ, zero, suc, ◌-◌, ◌^◌, replicate, Ok, Err}
use Rattle.codes.specs.Little.{le_at, le_bytes}
use Rattle.codes.specs.Ids.{be_at, id_at, halves_at}
use Rattle.xxh3_spec.specs.Xxh3.{mul, fold, xorshift, rotl, swap, rrmxmx, secret, of1to3, of4to8, of9to16, small, pair, mix_step, inward, of17to128, onward, of129to240, lane, accumulate, stir, scramble, turn, run_on, start_lanes, twice, merge, finish, large, xxh3}
use Rattle.refusal.specs.declared.Refusal.{Refusal}
use Rattle.frame.specs.declared.Row.{Row}
use Rattle.frame.specs.declared.ends.Header.{Header}
use Rattle.frame.specs.Kind as kind
use Rattle.frame.specs.Frame.{row_at, rows_from, end_from, rows_of, end_of, has, repeated, section_of, all, kinds_good, table_good, each_row, ranges, sizes_good, presence_good, counts_good, body_of, header_in, size_check, head_check, tail_check, sum_check, ends_check, rows_check, footer_check, shape_check, frame_check, codec_check, range_check}
use Rattle.frame.specs.Open.{record_from, record_of, framed_from, framed_of, known_of, keys_from, offset_good, rising_from, starts_check, fence_good, fences_from, fences_good, content_check, file_check, opening, open_of}
use Rattle.frame.specs.Given.{early_numbers, opening_numbers}
use Rattle.frame.specs.Reserved.{kind_at}
use Rattle.frame.specs.Layout.{Section, raw_section, head_bytes, payload, entry, entries, body_bytes, trailer, lay_out}
use Rattle.refusal.specs.Check.{Check}

-- the three ids of both headers
abbrev pub ids : List ℕ
ids = 0x10 ∷ 0x11 ∷ 0x12 ∷ 0x13 ∷ 0x14 ∷ 0x15 ∷ 0x16 ∷ 0x17 ∷ 0x18 ∷ 0x19 ∷ 0x1a ∷ 0x1b ∷ 0x1c ∷ 0x1d ∷ 0x1e ∷ 0x1f ∷
    0x20 ∷ 0x21 ∷ 0x22 ∷ 0x23 ∷ 0x24 ∷ 0x25 ∷ 0x26 ∷ 0x27 ∷ 0x28 ∷ 0x29 ∷ 0x2a ∷ 0x2b ∷ 0x2c ∷ 0x2d ∷ 0x2e ∷ 0x2f ∷
    0x30 ∷ 0x31 ∷ 0x32 ∷ 0x33 ∷ 0x34 ∷ 0x35 ∷ 0x36 ∷ 0x37 ∷ 0x38 ∷ 0x39 ∷ 0x3a ∷ 0x3b ∷ 0x3c ∷ 0x3d ∷ 0x3e ∷ 0x3f ∷ []

-- no keys
unfoldable pub heading_only : List ℕ
heading_only =
    0x54 ∷ 0x47 ∷ 0x45 ∷ 0x44 ∷ 0x47 ∷ 0x45 ∷ 0x00 ∷ 0x00 ∷ 0x01 ∷ 0x00 ∷ 0x40 ∷ 0x00 ∷ 0x00 ∷ 0x00 ∷ 0x00 ∷ 0x00 ∷
    0x10 ∷ 0x11 ∷ 0x12 ∷ 0x13 ∷ 0x14 ∷ 0x15 ∷ 0x16 ∷ 0x17 ∷ 0x18 ∷ 0x19 ∷ 0x1a ∷ 0x1b ∷ 0x1c ∷ 0x1d ∷ 0x1e ∷ 0x1f ∷
    0x20 ∷ 0x21 ∷ 0x22 ∷ 0x23 ∷ 0x24 ∷ 0x25 ∷ 0x26 ∷ 0x27 ∷ 0x28 ∷ 0x29 ∷ 0x2a ∷ 0x2b ∷ 0x2c ∷ 0x2d ∷ 0x2e ∷ 0x2f ∷
    0x30 ∷ 0x31 ∷ 0x32 ∷ 0x33 ∷ 0x34 ∷ 0x35 ∷ 0x36 ∷ 0x37 ∷ 0x38 ∷ 0x39 ∷ 0x3a ∷ 0x3b ∷ 0x3c ∷ 0x3d ∷ 0x3e ∷ 0x3f ∷
    0x00 ∷ 0x00 ∷ 0x00 ∷ 0x04 ∷ 0x00 ∷ 0x01 ∷ 0x00 ∷ 0x00 ∷ 0x00 ∷ 0x40 ∷ 0x00 ∷ 0x00 ∷ 0x00 ∷ 0x00 ∷ 0x00 ∷ 0x00 ∷
    0x00 ∷ 0x00 ∷ 0x00 ∷ 0x00 ∷ 0x00 ∷ 0x00 ∷ 0x00 ∷ 0x00 ∷ 0x00 ∷ 0xc2 ∷ 0x94 ∷ 0xd3 ∷ 0x38 ∷ 0x05 ∷ 0x80 ∷ 0x06 ∷
    0x2d ∷ 0x02 ∷ 0x00 ∷ 0x00 ∷ 0x00 ∷ 0x40 ∷ 0x00 ∷ 0x00 ∷ 0x00 ∷ 0x00 ∷ 0x00 ∷ 0x00 ∷ 0x00 ∷ 0x03 ∷ 0x00 ∷ 0x00 ∷
    0x00 ∷ 0x00 ∷ 0x00 ∷ 0x00 ∷ 0x00 ∷ 0x6b ∷ 0x28 ∷ 0x2f ∷ 0xb2 ∷ 0x8b ∷ 0x65 ∷ 0x5d ∷ 0xeb ∷ 0x03 ∷ 0x00 ∷ 0x00 ∷
    0x00 ∷ 0x43 ∷ 0x00 ∷ 0x00 ∷ 0x00 ∷ 0x00 ∷ 0x00 ∷ 0x00 ∷ 0x00 ∷ 0x00 ∷ 0x00 ∷ 0x00 ∷ 0x00 ∷ 0x00 ∷ 0x00 ∷ 0x00 ∷
    0x00 ∷ 0xc2 ∷ 0x94 ∷ 0xd3 ∷ 0x38 ∷ 0x05 ∷ 0x80 ∷ 0x06 ∷ 0x2d ∷ 0x04 ∷ 0x00 ∷ 0x00 ∷ 0x00 ∷ 0x43 ∷ 0x00 ∷ 0x00 ∷
    0x00 ∷ 0x00 ∷ 0x00 ∷ 0x00 ∷ 0x00 ∷ 0x00 ∷ 0x00 ∷ 0x00 ∷ 0x00 ∷ 0x00 ∷ 0x00 ∷ 0x00 ∷ 0x00 ∷ 0xc2 ∷ 0x94 ∷ 0xd3 ∷
    0x38 ∷ 0x05 ∷ 0x80 ∷ 0x06 ∷ 0x2d ∷ 0x00 ∷ 0x00 ∷ 0x00 ∷ 0x00 ∷ 0x00 ∷ 0x00 ∷ 0x00 ∷ 0x00 ∷ 0x00 ∷ 0x00 ∷ 0x00 ∷
    0x00 ∷ 0x00 ∷ 0x00 ∷ 0x00 ∷ 0x00 ∷ 0x18 ∷ 0xdc ∷ 0xd1 ∷ 0x26 ∷ 0xdc ∷ 0x48 ∷ 0x7c ∷ 0xb0 ∷ 0xa9 ∷ 0x97 ∷ 0x00 ∷
    0x00 ∷ 0x00 ∷ 0x54 ∷ 0x47 ∷ 0x45 ∷ 0x44 ∷ 0x47 ∷ 0x45 ∷ 0x00 ∷ 0x00 ∷ []

-- one live edge: key 1, 2, partner 5, 1, log number 7
unfoldable pub one_edge : List ℕ
one_edge =
    0x54 ∷ 0x47 ∷ 0x45 ∷ 0x44 ∷ 0x47 ∷ 0x45 ∷ 0x00 ∷ 0x00 ∷ 0x01 ∷ 0x00 ∷ 0x40 ∷ 0x00 ∷ 0x00 ∷ 0x00 ∷ 0x00 ∷ 0x00 ∷
    0x10 ∷ 0x11 ∷ 0x12 ∷ 0x13 ∷ 0x14 ∷ 0x15 ∷ 0x16 ∷ 0x17 ∷ 0x18 ∷ 0x19 ∷ 0x1a ∷ 0x1b ∷ 0x1c ∷ 0x1d ∷ 0x1e ∷ 0x1f ∷
    0x20 ∷ 0x21 ∷ 0x22 ∷ 0x23 ∷ 0x24 ∷ 0x25 ∷ 0x26 ∷ 0x27 ∷ 0x28 ∷ 0x29 ∷ 0x2a ∷ 0x2b ∷ 0x2c ∷ 0x2d ∷ 0x2e ∷ 0x2f ∷
    0x30 ∷ 0x31 ∷ 0x32 ∷ 0x33 ∷ 0x34 ∷ 0x35 ∷ 0x36 ∷ 0x37 ∷ 0x38 ∷ 0x39 ∷ 0x3a ∷ 0x3b ∷ 0x3c ∷ 0x3d ∷ 0x3e ∷ 0x3f ∷
    0x00 ∷ 0x00 ∷ 0x00 ∷ 0x00 ∷ 0x00 ∷ 0x00 ∷ 0x00 ∷ 0x01 ∷ 0x00 ∷ 0x00 ∷ 0x00 ∷ 0x00 ∷ 0x00 ∷ 0x00 ∷ 0x00 ∷ 0x02 ∷
    0x00 ∷ 0x00 ∷ 0x00 ∷ 0x0b ∷ 0x00 ∷ 0x00 ∷ 0x01 ∷ 0x01 ∷ 0x05 ∷ 0x01 ∷ 0x00 ∷ 0x00 ∷ 0x00 ∷ 0x00 ∷ 0x00 ∷ 0x00 ∷
    0x00 ∷ 0x07 ∷ 0x00 ∷ 0x00 ∷ 0x00 ∷ 0x00 ∷ 0x00 ∷ 0x00 ∷ 0x00 ∷ 0x04 ∷ 0x00 ∷ 0x01 ∷ 0x00 ∷ 0x00 ∷ 0x00 ∷ 0x40 ∷
    0x00 ∷ 0x00 ∷ 0x00 ∷ 0x00 ∷ 0x00 ∷ 0x00 ∷ 0x00 ∷ 0x10 ∷ 0x00 ∷ 0x00 ∷ 0x00 ∷ 0x00 ∷ 0x00 ∷ 0x00 ∷ 0x00 ∷ 0xad ∷
    0x20 ∷ 0xb3 ∷ 0xc4 ∷ 0x74 ∷ 0x6c ∷ 0x84 ∷ 0xc4 ∷ 0x02 ∷ 0x00 ∷ 0x00 ∷ 0x00 ∷ 0x50 ∷ 0x00 ∷ 0x00 ∷ 0x00 ∷ 0x00 ∷
    0x00 ∷ 0x00 ∷ 0x00 ∷ 0x06 ∷ 0x00 ∷ 0x00 ∷ 0x00 ∷ 0x00 ∷ 0x00 ∷ 0x00 ∷ 0x00 ∷ 0xc2 ∷ 0x63 ∷ 0x38 ∷ 0x22 ∷ 0x30 ∷
    0xe6 ∷ 0xa2 ∷ 0xad ∷ 0x03 ∷ 0x00 ∷ 0x00 ∷ 0x00 ∷ 0x56 ∷ 0x00 ∷ 0x00 ∷ 0x00 ∷ 0x00 ∷ 0x00 ∷ 0x00 ∷ 0x00 ∷ 0x0b ∷
    0x00 ∷ 0x00 ∷ 0x00 ∷ 0x00 ∷ 0x00 ∷ 0x00 ∷ 0x00 ∷ 0x0d ∷ 0x98 ∷ 0x3a ∷ 0x41 ∷ 0x3b ∷ 0x74 ∷ 0xe4 ∷ 0x92 ∷ 0x04 ∷
    0x00 ∷ 0x00 ∷ 0x00 ∷ 0x61 ∷ 0x00 ∷ 0x00 ∷ 0x00 ∷ 0x00 ∷ 0x00 ∷ 0x00 ∷ 0x00 ∷ 0x08 ∷ 0x00 ∷ 0x00 ∷ 0x00 ∷ 0x00 ∷
    0x00 ∷ 0x00 ∷ 0x00 ∷ 0xaf ∷ 0x96 ∷ 0xb5 ∷ 0xd6 ∷ 0x58 ∷ 0x1e ∷ 0x67 ∷ 0x81 ∷ 0x01 ∷ 0x00 ∷ 0x00 ∷ 0x00 ∷ 0x00 ∷
    0x00 ∷ 0x00 ∷ 0x00 ∷ 0x01 ∷ 0x00 ∷ 0x00 ∷ 0x00 ∷ 0x00 ∷ 0x00 ∷ 0x00 ∷ 0x00 ∷ 0x18 ∷ 0x54 ∷ 0x1e ∷ 0x3e ∷ 0x9c ∷
    0xad ∷ 0x7a ∷ 0x7c ∷ 0xe9 ∷ 0x97 ∷ 0x00 ∷ 0x00 ∷ 0x00 ∷ 0x54 ∷ 0x47 ∷ 0x45 ∷ 0x44 ∷ 0x47 ∷ 0x45 ∷ 0x00 ∷ 0x00 ∷ []

pub laid_out :
    (lay_out (record {
      head = head_bytes 0 0 ids;
      sections = raw_section kind.keys [] ∷ raw_section kind.offsets (0 ∷ 0 ∷ 0 ∷ []) ∷ raw_section kind.partners [] ∷ raw_section kind.logs [] ∷ [];
      keycount = 0;
      edgecount = 0;
      bits = 24;
    }) ≡ heading_only)
    × (lay_out (record {
      head = head_bytes 0 0 ids;
      sections = raw_section kind.keys (0 ∷ 0 ∷ 0 ∷ 0 ∷ 0 ∷ 0 ∷ 0 ∷ 1 ∷ 0 ∷ 0 ∷ 0 ∷ 0 ∷ 0 ∷ 0 ∷ 0 ∷ 2 ∷ [])
          ∷ raw_section kind.offsets (0 ∷ 0 ∷ 0 ∷ 11 ∷ 0 ∷ 0 ∷ [])
          ∷ raw_section kind.partners (1 ∷ 1 ∷ 5 ∷ 1 ∷ 0 ∷ 0 ∷ 0 ∷ 0 ∷ 0 ∷ 0 ∷ 0 ∷ [])
          ∷ raw_section kind.logs (7 ∷ 0 ∷ 0 ∷ 0 ∷ 0 ∷ 0 ∷ 0 ∷ 0 ∷ []) ∷ [];
      keycount = 1;
      edgecount = 1;
      bits = 24;
    }) ≡ one_edge)
unfolding heading_only one_edge le_at le_bytes head_bytes payload entry entries body_bytes trailer lay_out mul fold xorshift rotl swap rrmxmx secret of1to3 of4to8 of9to16 small pair mix_step inward of17to128 onward of129to240 lane accumulate stir scramble turn run_on start_lanes twice merge finish large xxh3
laid_out = (refl, refl)

pub opened :
    (open_of heading_only ≡ Ok (record {
      keys = record { start = 64; len = 0 };
      offsets = record { start = 64; len = 3 };
      partners = record { start = 67; len = 0 };
      logs = record { start = 67; len = 0 };
      marked = false;
      dead = record { start = 0; len = 0 };
      indexed = false;
      starts = record { start = 0; len = 0 };
      keycount = 0;
      edgecount = 0;
      bits = 24;
    }))
    × (open_of one_edge ≡ Ok (record {
      keys = record { start = 64; len = 16 };
      offsets = record { start = 80; len = 6 };
      partners = record { start = 86; len = 11 };
      logs = record { start = 97; len = 8 };
      marked = false;
      dead = record { start = 0; len = 0 };
      indexed = false;
      starts = record { start = 0; len = 0 };
      keycount = 1;
      edgecount = 1;
      bits = 24;
    }))
unfolding heading_only one_edge le_at be_at id_at mul fold xorshift rotl swap rrmxmx secret of1to3 of4to8 of9to16 small pair mix_step inward of17to128 onward of129to240 lane accumulate stir scramble turn run_on start_lanes twice merge finish large xxh3 row_at rows_from end_from rows_of end_of has repeated section_of all kinds_good table_good each_row ranges sizes_good presence_good counts_good body_of size_check head_check tail_check sum_check ends_check rows_check footer_check shape_check frame_check record_from record_of framed_from framed_of known_of keys_from offset_good rising_from fence_good fences_from fences_good content_check file_check opening open_of
opened = (refl, refl)

-- what their header says, and that of a later writer's inverse file
abbrev pub header_with : ℕ → ℕ → ℕ → Header
header_with minor direction flags = record {
  minor = minor;
  direction = direction;
  flags = flags;
  edgetype = record { hi = 0x1011121314151617; lo = 0x18191a1b1c1d1e1f };
  source = record { hi = 0x2021222324252627; lo = 0x28292a2b2c2d2e2f };
  destination = record { hi = 0x3031323334353637; lo = 0x38393a3b3c3d3e3f };
}

pub headers : (header_in heading_only ≡ header_with 0 0 0) × (header_in one_edge ≡ header_with 0 0 0) × (header_in (head_bytes 200 0xb ids) ≡ header_with 200 1 0xb)
unfolding heading_only one_edge le_at le_bytes be_at halves_at head_bytes header_in
headers = (refl, refl, refl)

-- ---- places of 10 and 11: the first such entry, counted from 0

-- an entry of keys of one byte at `start`, by its codec
abbrev entry_of : ℕ → ℕ → Row
entry_of codec start = record { kind = kind.keys; codec = codec; namelen = 0; nameat = 0; start = start; len = 1; sum = 0 }

pub first_place :
    (codec_check (entry_of 1 64 ∷ entry_of 0 65 ∷ entry_of 1 66 ∷ []) ≡ Err (Refusal.Codec 0))
    × (codec_check (entry_of 0 64 ∷ entry_of 0 65 ∷ entry_of 1 66 ∷ []) ≡ Err (Refusal.Codec 2))
    × (range_check 67 (entry_of 0 63 ∷ entry_of 0 65 ∷ entry_of 0 67 ∷ []) ≡ Err (Refusal.Range 0))
    × (range_check 67 (entry_of 0 64 ∷ entry_of 0 65 ∷ entry_of 0 67 ∷ []) ≡ Err (Refusal.Range 2))
    × (range_check 67 (entry_of 0 64 ∷ entry_of 0 64 ∷ entry_of 0 66 ∷ []) ≡ Err (Refusal.Range 1))
    × (range_check 67 (entry_of 0 64 ∷ entry_of 0 65 ∷ entry_of 0 66 ∷ []) ≡ (Ok tt))
unfolding each_row ranges
first_place = (refl, refl, refl, refl, refl, refl)

-- ---- kinds at the ends of the reserved range

pub range_ends :
    (kind.reserved 6 ≡ false) × (kind.reserved 7 ≡ true) × (kind.reserved 8 ≡ true) × (kind.reserved 0x00FE ≡ true) × (kind.reserved 0x00FF ≡ true) × (kind.reserved 0x0100 ≡ false) × (kind.reserved 0 ≡ false)
    × (kind.unknown 0 ≡ true) × (kind.unknown 1 ≡ false) × (kind.unknown 6 ≡ false) × (kind.unknown 7 ≡ false) × (kind.unknown 0x00FF ≡ false) × (kind.unknown 0x0100 ≡ false) × (kind.unknown 0x0101 ≡ true)
    × (kind.unknown 0x01FF ≡ true) × (kind.unknown 0x0200 ≡ false) × (kind.unknown 0x0201 ≡ true) × (kind.unknown 0xFFFF ≡ true)
range_ends = (refl, refl, refl, refl, refl, refl, refl, refl, refl, refl, refl, refl, refl, refl, refl, refl, refl, refl)

-- d kinds from k on
abbrev up_from : ℕ → ℕ → List ℕ
up_from zero k = []
up_from (suc d) k = k ∷ up_from d (suc k)

-- every kind up to 0x0500: the range has no hole, and nothing beside it is of it; of those above it 0x0100 and 0x0200 alone are known
pub range_whole :
    (all kind.reserved (up_from 249 7) ≡ true)
    × (all (λ k. not (kind.reserved k)) (up_from 7 0) ≡ true)
    × (all (λ k. not (kind.reserved k)) (up_from 1024 256) ≡ true)
    × (all (λ k. not (kind.unknown k)) (up_from 256 1) ≡ true)
    × (all kind.unknown (up_from 255 257) ≡ true)
    × (all kind.unknown (up_from 768 513) ≡ true)
unfolding all
range_whole = (refl, refl, refl, refl, refl, refl)

-- the numbers of opening, in the order of checks
pub numbers :
    (early_numbers ≡ 1 ∷ 2 ∷ 3 ∷ 4 ∷ 5 ∷ 6 ∷ 7 ∷ 8 ∷ 9 ∷ [])
    × (opening_numbers ≡ 1 ∷ 2 ∷ 3 ∷ 4 ∷ 5 ∷ 6 ∷ 7 ∷ 8 ∷ 9 ∷ 36 ∷ 10 ∷ 11 ∷ 12 ∷ 13 ∷ 14 ∷ 15 ∷ 37 ∷ [])
numbers = (refl, refl)

-- ---- rules 9, 36, 10 and 11 of a table: 36 at the first entry of the range, after 9 and before 10 of any entry

-- a section without bytes, by its kind, codec and name; it lies at 64
abbrev empty_section : ℕ → ℕ → List ℕ → Section
empty_section k codec name = record { kind = k; codec = codec; sum = 0; name = name; bytes = [] }

abbrev bare : ℕ → Section
bare k = empty_section k 0 []

-- the kinds of a table's entries, and none after the last
abbrev three : List Section
three = empty_section 0x0101 9 (104 ∷ 105 ∷ []) ∷ bare 1 ∷ bare 0x00FF ∷ []

pub kinds_at : (kind_at (rows_of (body_bytes three 0 0 24)) 0 ≡ 0x0101) × (kind_at (rows_of (body_bytes three 0 0 24)) 1 ≡ 1) × (kind_at (rows_of (body_bytes three 0 0 24)) 2 ≡ 0x00FF) × (kind_at (rows_of (body_bytes three 0 0 24)) 3 ≡ 0)
unfolding le_at le_bytes entry entries body_bytes row_at rows_from rows_of kind_at
kinds_at = (refl, refl, refl, refl)

abbrev rules : ℕ → List Section → Check
rules limit ss = rows_check limit (body_bytes ss 0 0 24)

-- the four kinds that a file must have, and one more, first, in the middle and last
abbrev firstly : ℕ → Check
firstly k = rules 64 (bare k ∷ bare 1 ∷ bare 2 ∷ bare 3 ∷ bare 4 ∷ [])

abbrev amid : ℕ → Check
amid k = rules 64 (bare 1 ∷ bare 2 ∷ bare k ∷ bare 3 ∷ bare 4 ∷ [])

abbrev lastly : ℕ → Check
lastly k = rules 64 (bare 1 ∷ bare 2 ∷ bare 3 ∷ bare 4 ∷ bare k ∷ [])

pub one_more :
    (firstly 0 ≡ (Ok tt)) × (firstly 7 ≡ Err (Refusal.Reserved 0)) × (firstly 0x00FF ≡ Err (Refusal.Reserved 0)) × (firstly 0x0100 ≡ (Ok tt)) × (firstly 0x0101 ≡ (Ok tt))
    × (amid 0 ≡ (Ok tt)) × (amid 8 ≡ Err (Refusal.Reserved 2)) × (amid 0x00FF ≡ Err (Refusal.Reserved 2)) × (amid 0x0100 ≡ (Ok tt)) × (amid 0x0200 ≡ (Ok tt))
    × (lastly 0 ≡ (Ok tt)) × (lastly 7 ≡ Err (Refusal.Reserved 4)) × (lastly 0x00FF ≡ Err (Refusal.Reserved 4)) × (lastly 0x01FF ≡ (Ok tt)) × (lastly 0xFFFF ≡ (Ok tt))
unfolding le_at le_bytes entry entries body_bytes row_at rows_from end_from rows_of end_of has repeated all kinds_good table_good each_row ranges rows_check
one_more = (refl, refl, refl, refl, refl, refl, refl, refl, refl, refl, refl, refl, refl, refl, refl)

pub in_order :
    -- the first of two, also of one kind; every entry counts; whatever its codec and its name
    (rules 64 (bare 1 ∷ bare 0x00FF ∷ bare 2 ∷ bare 3 ∷ bare 4 ∷ bare 7 ∷ []) ≡ Err (Refusal.Reserved 1))
    × (rules 64 (bare 0 ∷ bare 1 ∷ bare 2 ∷ bare 0x0100 ∷ bare 3 ∷ bare 4 ∷ bare 5 ∷ bare 0xFFFF ∷ bare 6 ∷ bare 7 ∷ bare 7 ∷ []) ≡ Err (Refusal.Reserved 9))
    × (rules 64 (bare 1 ∷ bare 2 ∷ bare 3 ∷ empty_section 0x0080 9 (104 ∷ 105 ∷ []) ∷ bare 4 ∷ []) ≡ Err (Refusal.Reserved 3))
    × (rules 64 (empty_section 7 0 (104 ∷ []) ∷ bare 1 ∷ bare 2 ∷ bare 3 ∷ bare 4 ∷ []) ≡ Err (Refusal.Reserved 0))
    -- 10 before it and after it; alone it is told
    × (rules 64 (empty_section 1 1 [] ∷ bare 2 ∷ bare 3 ∷ bare 4 ∷ bare 7 ∷ []) ≡ Err (Refusal.Reserved 4))
    × (rules 64 (bare 7 ∷ empty_section 1 1 [] ∷ bare 2 ∷ bare 3 ∷ bare 4 ∷ []) ≡ Err (Refusal.Reserved 0))
    × (rules 64 (bare 0 ∷ empty_section 1 1 [] ∷ bare 2 ∷ bare 3 ∷ bare 4 ∷ []) ≡ Err (Refusal.Codec 1))
    -- 11 at the first entry, which ends after the limit; 10 comes before it
    × (rules 63 (bare 1 ∷ bare 2 ∷ bare 3 ∷ bare 4 ∷ bare 7 ∷ []) ≡ Err (Refusal.Reserved 4))
    × (rules 63 (bare 1 ∷ bare 2 ∷ bare 3 ∷ bare 4 ∷ bare 0x0101 ∷ []) ≡ Err (Refusal.Range 0))
    × (rules 63 (bare 1 ∷ bare 2 ∷ bare 3 ∷ empty_section 4 1 [] ∷ []) ≡ Err (Refusal.Codec 3))
    -- 9: a kind is missing; one is doubled after it; one that is read has a name; its own name is too long; the body is not filled
    × (rules 64 (bare 7 ∷ bare 1 ∷ bare 2 ∷ bare 3 ∷ []) ≡ Err Refusal.Table)
    × (rules 64 (bare 7 ∷ bare 1 ∷ bare 2 ∷ bare 3 ∷ bare 4 ∷ bare 4 ∷ []) ≡ Err Refusal.Table)
    × (rules 64 (bare 7 ∷ bare 1 ∷ bare 2 ∷ bare 3 ∷ empty_section 4 0 (104 ∷ []) ∷ []) ≡ Err Refusal.Table)
    × (rules 64 (empty_section 7 0 (replicate 64 104) ∷ bare 1 ∷ bare 2 ∷ bare 3 ∷ bare 4 ∷ []) ≡ Err Refusal.Table)
    × (rules 64 (empty_section 7 0 (replicate 63 104) ∷ bare 1 ∷ bare 2 ∷ bare 3 ∷ bare 4 ∷ []) ≡ Err (Refusal.Reserved 0))
    × (rows_check 64 (body_bytes (bare 7 ∷ bare 1 ∷ bare 2 ∷ bare 3 ∷ bare 4 ∷ []) 0 0 24 ++ (0 ∷ [])) ≡ Err Refusal.Table)
    -- the start index: once, without a name, raw
    × (rules 64 (bare 0x0200 ∷ bare 1 ∷ bare 2 ∷ bare 0x0200 ∷ bare 3 ∷ bare 4 ∷ []) ≡ Err Refusal.Table)
    × (rules 64 (bare 1 ∷ bare 2 ∷ bare 3 ∷ bare 4 ∷ empty_section 0x0200 0 (104 ∷ []) ∷ []) ≡ Err Refusal.Table)
    × (rules 64 (bare 1 ∷ bare 2 ∷ empty_section 0x0200 1 [] ∷ bare 3 ∷ bare 4 ∷ []) ≡ Err (Refusal.Codec 2))
unfolding le_at le_bytes entry entries body_bytes row_at rows_from end_from rows_of end_of has repeated all kinds_good table_good each_row ranges rows_check
in_order = (refl, refl, refl, refl, refl, refl, refl, refl, refl, refl, refl, refl, refl, refl, refl, refl, refl, refl, refl)

-- ---- rule 37: the start index of three keys and five edges, of no keys, and of a file

abbrev pub words : List ℕ → List ℕ
words [] = []
words (x ∷ xs) = le_bytes 8 x ++ words xs

abbrev starts37 : ℕ → ℕ → ℕ → ℕ → Check
starts37 a b c d = starts_check (words (a ∷ b ∷ c ∷ d ∷ [])) 3 5

pub starts_cases :
    (starts37 0 1 3 5 ≡ (Ok tt)) × (starts37 0 1 2 5 ≡ (Ok tt)) × (starts37 0 3 4 5 ≡ (Ok tt))
    -- the first is not 0
    × (starts37 1 2 3 5 ≡ Err (Refusal.Start 0)) × (starts37 (2 ^ 64 - 1) 1 3 5 ≡ Err (Refusal.Start 0)) × (starts37 0x0100 1 1 1 ≡ Err (Refusal.Start 0))
    -- one is not above the one before
    × (starts37 0 0 3 5 ≡ Err (Refusal.Start 1)) × (starts37 0 3 3 5 ≡ Err (Refusal.Start 2)) × (starts37 0 3 2 5 ≡ Err (Refusal.Start 2)) × (starts37 0 1 5 5 ≡ Err (Refusal.Start 3)) × (starts37 0 1 3 2 ≡ Err (Refusal.Start 3))
    -- the last is not the edge count
    × (starts37 0 1 3 4 ≡ Err (Refusal.Start 3)) × (starts37 0 1 3 6 ≡ Err (Refusal.Start 3))
    -- "A middle entry above the edge count is told at the next one that does not rise, or at n"
    × (starts37 0 6 3 5 ≡ Err (Refusal.Start 2)) × (starts37 0 6 7 5 ≡ Err (Refusal.Start 3)) × (starts37 0 6 7 8 ≡ Err (Refusal.Start 3)) × (starts37 0 1 (2 ^ 64 - 2) (2 ^ 64 - 1) ≡ Err (Refusal.Start 3))
    -- "No keys: one entry, 0"
    × (starts_check (words (0 ∷ [])) 0 0 ≡ (Ok tt)) × (starts_check (words (1 ∷ [])) 0 0 ≡ Err (Refusal.Start 0)) × (starts_check (words (0 ∷ [])) 0 1 ≡ Err (Refusal.Start 0))
unfolding le_at le_bytes offset_good rising_from
starts_cases = (refl, refl, refl, refl, refl, refl, refl, refl, refl, refl, refl, refl, refl, refl, refl, refl, refl, refl, refl, refl)

-- the file of one edge with a start index of these bytes before its keys, and with fences of these bytes
abbrev pub with_starts : ℕ → List ℕ → List Section → List ℕ
with_starts minor bytes more =
    lay_out (record {
      head = head_bytes minor 0 ids;
      sections = raw_section kind.starts bytes
          ∷ raw_section kind.keys (0 ∷ 0 ∷ 0 ∷ 0 ∷ 0 ∷ 0 ∷ 0 ∷ 1 ∷ 0 ∷ 0 ∷ 0 ∷ 0 ∷ 0 ∷ 0 ∷ 0 ∷ 2 ∷ [])
          ∷ raw_section kind.offsets (0 ∷ 0 ∷ 0 ∷ 11 ∷ 0 ∷ 0 ∷ [])
          ∷ raw_section kind.partners (1 ∷ 1 ∷ 5 ∷ 1 ∷ 0 ∷ 0 ∷ 0 ∷ 0 ∷ 0 ∷ 0 ∷ 0 ∷ [])
          ∷ raw_section kind.logs (7 ∷ 0 ∷ 0 ∷ 0 ∷ 0 ∷ 0 ∷ 0 ∷ 0 ∷ []) ∷ more;
      keycount = 1;
      edgecount = 1;
      bits = 24;
    })

pub starts_opened :
    (open_of (with_starts 0 (words (0 ∷ 1 ∷ [])) []) ≡ Ok (record {
      keys = record { start = 80; len = 16 };
      offsets = record { start = 96; len = 6 };
      partners = record { start = 102; len = 11 };
      logs = record { start = 113; len = 8 };
      marked = false;
      dead = record { start = 0; len = 0 };
      indexed = true;
      starts = record { start = 64; len = 16 };
      keycount = 1;
      edgecount = 1;
      bits = 24;
    }))
    × (file_check (with_starts 200 (words (0 ∷ 1 ∷ [])) []) ≡ (Ok tt))
    × (file_check (with_starts 1 (words (1 ∷ 1 ∷ [])) []) ≡ Err (Refusal.Start 0))
    × (file_check (with_starts 1 (words (0 ∷ 2 ∷ [])) []) ≡ Err (Refusal.Start 1))
    -- a length that the counts do not give is 12; 15 comes before 37
    × (file_check (with_starts 1 (words (0 ∷ [])) []) ≡ Err Refusal.Counts)
    × (file_check (with_starts 1 (words (0 ∷ 1 ∷ []) ++ (0 ∷ [])) []) ≡ Err Refusal.Counts)
    × (file_check (with_starts 1 (words (0 ∷ 1 ∷ 1 ∷ [])) []) ≡ Err Refusal.Counts)
    -- beside tombstones and fences, each with its own range
    × (open_of (with_starts 1 (words (0 ∷ 1 ∷ [])) (raw_section kind.tombstones (0 ∷ []) ∷ raw_section kind.fences (1 ∷ 0 ∷ 0 ∷ 0 ∷ 1 ∷ 0 ∷ 0 ∷ 0 ∷ 0 ∷ 0 ∷ 0 ∷ 0 ∷ 0 ∷ 0 ∷ 0 ∷ 1 ∷ 0 ∷ 0 ∷ 0 ∷ 0 ∷ 0 ∷ 0 ∷ 0 ∷ 2 ∷ words (0 ∷ [])) ∷ [])) ≡ Ok (record {
      keys = record { start = 80; len = 16 };
      offsets = record { start = 96; len = 6 };
      partners = record { start = 102; len = 11 };
      logs = record { start = 113; len = 8 };
      marked = true;
      dead = record { start = 121; len = 1 };
      indexed = true;
      starts = record { start = 64; len = 16 };
      keycount = 1;
      edgecount = 1;
      bits = 24;
    }))
    × (file_check (with_starts 1 (words (0 ∷ 2 ∷ [])) (raw_section kind.fences [] ∷ [])) ≡ Err Refusal.Fences)
unfolding le_at le_bytes head_bytes payload entry entries body_bytes trailer lay_out be_at id_at mul fold xorshift rotl swap rrmxmx secret of1to3 of4to8 of9to16 small pair mix_step inward of17to128 onward of129to240 lane accumulate stir scramble turn run_on start_lanes twice merge finish large xxh3 row_at rows_from end_from rows_of end_of has repeated section_of all kinds_good table_good each_row ranges sizes_good presence_good counts_good body_of size_check head_check tail_check sum_check ends_check rows_check footer_check shape_check frame_check record_from record_of framed_from framed_of known_of keys_from offset_good rising_from fence_good fences_from fences_good content_check file_check opening open_of
starts_opened = (refl, refl, refl, refl, refl, refl, refl, refl, refl)
