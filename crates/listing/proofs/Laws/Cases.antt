-- The files of 218 and 256 bytes, listed by the definitions.
use Rattle.std.specs.Prelude.{◌≡◌, refl, Err, Ok}
use Rattle.codes.specs.Little.{le_at}
use Rattle.codes.specs.Ids.{be_at, id_at, halves_at}
use Rattle.xxh3_spec.specs.Xxh3.{mul, fold, xorshift, rotl, swap, rrmxmx, secret, of1to3, of4to8, of9to16, small, pair, mix_step, inward, of17to128, onward, of129to240, lane, accumulate, stir, scramble, turn, run_on, start_lanes, twice, merge, finish, large, xxh3}
use Rattle.refusal.specs.declared.Refusal.{Refusal}
use Rattle.frame.specs.Frame.{row_at, rows_from, end_from, rows_of, end_of, has, repeated, section_of, all, kinds_good, table_good, each_row, ranges, sizes_good, presence_good, counts_good, body_of, size_check, head_check, tail_check, sum_check, frame_check, record_from, record_of, framed_from, framed_of, shape_check, ends_check, footer_check, rows_check}
use Rattle.frame.specs.Open.{known_of, keys_from, offset_good, rising_from, fence_good, fences_from, fences_good, content_check, file_check}
use Rattle.frame.proofs.Laws.Cases.{heading_only, one_edge}
use Rattle.reader.specs.Rows.{row_in, row_of}
use Rattle.listing.specs.List.{list_check, counted, listed_of, no_row, row_of_section, row_is}

-- four sections: a table of 64 rows or of 4 has room, one of 3 has not
pub answers : (listed_of heading_only 64 ≡ Ok 4) × (listed_of one_edge 4 ≡ Ok 4)
    × (listed_of one_edge 3 ≡ Err (Refusal.Room 4)) × (listed_of heading_only 0 ≡ Err (Refusal.Room 4))
unfolding heading_only one_edge le_at be_at id_at halves_at mul fold xorshift rotl swap rrmxmx secret of1to3 of4to8 of9to16 small pair mix_step inward of17to128 onward of129to240 lane accumulate stir scramble turn run_on start_lanes twice merge finish large xxh3 row_at rows_from end_from rows_of end_of has repeated section_of all kinds_good table_good each_row ranges sizes_good presence_good counts_good body_of size_check head_check tail_check sum_check frame_check record_from record_of framed_from framed_of known_of keys_from offset_good rising_from fence_good fences_from fences_good content_check file_check list_check counted listed_of shape_check ends_check footer_check rows_check
answers = (refl, refl, refl, refl)

-- the first and the last row, with the place of a name that is empty; and none after it
pub rows : (row_is one_edge 0 ≡ record { kind = 1; codec = 0; namelen = 0; nameat = 135; start = 64; len = 16; sum = 0xc4846c74c4b320ad })
    × (row_is one_edge 3 ≡ record { kind = 4; codec = 0; namelen = 0; nameat = 219; start = 97; len = 8; sum = 0x81671e58d6b596af })
    × (row_is one_edge 4 ≡ no_row)
unfolding one_edge le_at row_at end_from body_of row_in row_of row_of_section row_is
rows = (refl, refl, refl)
