-- A later writer's file, by computation: minor 200, and a section of an unknown kind with a name, a codec and a checksum of its
-- own. It opens, and its stripped copy is the file of 218 bytes that has no keys.
use Rattle.std.specs.Prelude.{◌≡◌, refl, ℕ, List, [], ◌∷◌, true, false, Ok, Err}
use Rattle.codes.specs.Little.{le_at, le_bytes}
use Rattle.codes.specs.Ids.{be_at, id_at, halves_at}
use Rattle.xxh3_spec.specs.Xxh3.{mul, fold, xorshift, rotl, swap, rrmxmx, secret, of1to3, of4to8, of9to16, small, pair, mix_step, inward, of17to128, onward, of129to240, lane, accumulate, stir, scramble, turn, run_on, start_lanes, twice, merge, finish, large, xxh3}
use Rattle.refusal.specs.declared.Refusal.{Refusal}
use Rattle.frame.specs.declared.Opened.{Opened}
use Rattle.frame.specs.Kind as kind
use Rattle.frame.specs.Frame.{row_at, rows_from, end_from, rows_of, end_of, has, repeated, section_of, all, kinds_good, table_good, each_row, ranges, sizes_good, presence_good, counts_good, body_of, header_in, at_minor, size_check, head_check, tail_check, sum_check, frame_check, record_from, record_of, framed_from, framed_of, shape_check, ends_check, footer_check, rows_check}
use Rattle.frame.specs.Open.{known_of, keys_from, offset_good, rising_from, fence_good, fences_from, fences_good, content_check, file_check, opening, open_of}
use Rattle.frame.specs.Layout.{Section, raw_section, head_bytes, payload, entry, entries, body_bytes, trailer, lay_out}
use Rattle.frame.proofs.Laws.Cases.{ids, heading_only}
use Rattle.demand3.specs.Strip.{section_at, kept_of, stripped, strip}

-- such a file by its minor version and the kind of that section
unfoldable pub later_with : ℕ → ℕ → List ℕ
later_with minor k = lay_out (record {
  head = head_bytes minor 0 ids;
  sections = raw_section kind.keys []
      ∷ raw_section kind.offsets (0 ∷ 0 ∷ 0 ∷ [])
      ∷ record { kind = k; codec = 9; sum = 5; name = 104 ∷ 105 ∷ []; bytes = 1 ∷ 2 ∷ 3 ∷ 4 ∷ [] }
      ∷ raw_section kind.partners [] ∷ raw_section kind.logs [] ∷ [];
  keycount = 0;
  edgecount = 0;
  bits = 24;
})

abbrev pub later_file : List ℕ
later_file = later_with 200 0x7001

-- what opening gives for it, where the section is skipped
abbrev later_record : Opened
later_record = record {
  keys = record { start = 64; len = 0 };
  offsets = record { start = 64; len = 3 };
  partners = record { start = 71; len = 0 };
  logs = record { start = 71; len = 0 };
  marked = false;
  dead = record { start = 0; len = 0 };
  indexed = false;
  starts = record { start = 0; len = 0 };
  keycount = 0;
  edgecount = 0;
  bits = 24;
}

pub opens_later : (open_of later_file ≡ Ok later_record) × (strip later_file ≡ heading_only)
unfolding later_with heading_only le_at le_bytes be_at id_at mul fold xorshift rotl swap rrmxmx secret of1to3 of4to8 of9to16 small pair mix_step inward of17to128 onward of129to240 lane accumulate stir scramble turn run_on start_lanes twice merge finish large xxh3 row_at rows_from end_from rows_of end_of has repeated section_of all kinds_good table_good each_row ranges sizes_good presence_good counts_good body_of size_check head_check tail_check sum_check frame_check record_from record_of framed_from framed_of known_of keys_from offset_good rising_from fence_good fences_from fences_good content_check file_check opening open_of head_bytes payload entry entries body_bytes trailer lay_out section_at kept_of stripped strip shape_check ends_check footer_check rows_check
opens_later = (refl, refl)

-- with a kind of the reserved range it does not open, whatever its minor version, and `strip` leaves that section where it is; with the
-- kinds beside the range and with 0 it opens
pub opens_never :
    (open_of (later_with 200 0x00FF) ≡ Err (Refusal.Reserved 2))
    × (open_of (later_with 0 0x0007) ≡ Err (Refusal.Reserved 2))
    × (open_of (strip (later_with 200 0x00FF)) ≡ Err (Refusal.Reserved 2))
    × (open_of (later_with 200 0x0101) ≡ Ok later_record)
    × (open_of (later_with 0 0x0000) ≡ Ok later_record)
unfolding later_with heading_only le_at le_bytes be_at id_at mul fold xorshift rotl swap rrmxmx secret of1to3 of4to8 of9to16 small pair mix_step inward of17to128 onward of129to240 lane accumulate stir scramble turn run_on start_lanes twice merge finish large xxh3 row_at rows_from end_from rows_of end_of has repeated section_of all kinds_good table_good each_row ranges sizes_good presence_good counts_good body_of size_check head_check tail_check sum_check frame_check record_from record_of framed_from framed_of known_of keys_from offset_good rising_from fence_good fences_from fences_good content_check file_check opening open_of head_bytes payload entry entries body_bytes trailer lay_out section_at kept_of stripped strip shape_check ends_check footer_check rows_check
opens_never = (refl, refl, refl, refl, refl)

-- its header is the copy's, at minor version 200
pub header_later : header_in later_file ≡ at_minor 200 (header_in heading_only)
unfolding later_with heading_only le_at le_bytes be_at halves_at head_bytes lay_out header_in
header_later = refl

-- with a start index too, of no keys: it is kept, and its copy has minor version 1
abbrev indexed_by : ℕ → List Section → List ℕ
indexed_by minor more = lay_out (record {
  head = head_bytes minor 0 ids;
  sections = raw_section kind.starts (0 ∷ 0 ∷ 0 ∷ 0 ∷ 0 ∷ 0 ∷ 0 ∷ 0 ∷ [])
      ∷ raw_section kind.keys []
      ∷ raw_section kind.offsets (0 ∷ 0 ∷ 0 ∷ [])
      ∷ raw_section kind.partners [] ∷ raw_section kind.logs [] ∷ more;
  keycount = 0;
  edgecount = 0;
  bits = 24;
})

abbrev later_indexed : List ℕ
later_indexed = indexed_by 200 (record { kind = 0x0201; codec = 9; sum = 5; name = 104 ∷ 105 ∷ []; bytes = 1 ∷ 2 ∷ 3 ∷ 4 ∷ [] } ∷ [])

pub opens_indexed :
    (open_of later_indexed ≡ Ok (record {
      keys = record { start = 72; len = 0 };
      offsets = record { start = 72; len = 3 };
      partners = record { start = 75; len = 0 };
      logs = record { start = 75; len = 0 };
      marked = false;
      dead = record { start = 0; len = 0 };
      indexed = true;
      starts = record { start = 64; len = 8 };
      keycount = 0;
      edgecount = 0;
      bits = 24;
    }))
    × (strip later_indexed ≡ indexed_by 1 [])
    × (strip (indexed_by 0 []) ≡ indexed_by 1 [])
    × (strip (indexed_by 1 []) ≡ indexed_by 1 [])
unfolding le_at le_bytes be_at id_at mul fold xorshift rotl swap rrmxmx secret of1to3 of4to8 of9to16 small pair mix_step inward of17to128 onward of129to240 lane accumulate stir scramble turn run_on start_lanes twice merge finish large xxh3 row_at rows_from end_from rows_of end_of has repeated section_of all kinds_good table_good each_row ranges sizes_good presence_good counts_good body_of size_check head_check tail_check sum_check frame_check record_from record_of framed_from framed_of known_of keys_from offset_good rising_from fence_good fences_from fences_good content_check file_check opening open_of head_bytes payload entry entries body_bytes trailer lay_out section_at kept_of stripped strip shape_check ends_check footer_check rows_check
opens_indexed = (refl, refl, refl, refl)
