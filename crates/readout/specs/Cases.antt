-- Two files that the second program made, checked in full and read out by the definitions; and damaged ones.
use Rattle.std.specs.Prelude.{◌≡◌, refl, [], ◌∷◌, ◌++◌, set, Err, Ok}
use Rattle.codes.specs.Little.{le_at, le_bytes}
use Rattle.codes.specs.Ids.{be_at, be_bytes, id_at, id_bytes, halves_at}
use Rattle.codes.specs.Varint.{last_byte, var_from, varint_at}
use Rattle.xxh3_spec.specs.Xxh3.{mul, fold, xorshift, rotl, swap, rrmxmx, secret, of1to3, of4to8, of9to16, small, pair, mix_step, inward, of17to128, onward, of129to240, lane, accumulate, stir, scramble, turn, run_on, start_lanes, twice, merge, finish, large, xxh3}
use Rattle.refusal.specs.declared.Refusal.{Refusal}
use Rattle.frame.specs.Frame.{row_at, rows_from, end_from, rows_of, end_of, has, repeated, section_of, all, kinds_good, table_good, each_row, ranges, sizes_good, presence_good, counts_good, body_of, size_check, head_check, tail_check, sum_check, frame_check, record_from, record_of, framed_from, framed_of, shape_check, ends_check, footer_check, rows_check}
use Rattle.frame.specs.Open.{known_of, keys_from, offset_good, rising_from, fence_good, fences_from, fences_good, content_check, file_check}
use Rattle.frame.specs.Layout.{head_bytes, payload, entry, entries, body_bytes, trailer, lay_out}
use Rattle.frame.proofs.Laws.Cases.{ids, heading_only, one_edge, words, with_starts}
use Rattle.group.specs.Group.{onVarint, split_step, dense_step, step_at, on_step, cons, walk_from, degree_of, head_of, on_head, group_of, partners_of}
use Rattle.lookup.specs.Lookup.{group_check}
use Rattle.batch.specs.Batch.{heading_bytes, edge_bytes, records_of, batch_bytes}
use Rattle.full_check.specs.Full.{sums_from, dense_of, groups_from, degrees_from, dense_from, stray_from, dead_from, data_good, edges_check, full_check}
use Rattle.readout.specs.Edges.{edges_from, read_from, edges_in}
use Rattle.readout.specs.ReadOut.{heading_in, batch_in}

pub cases_pass : (full_check heading_only ≡ (Ok tt)) × (full_check one_edge ≡ (Ok tt))
unfolding heading_only one_edge le_at be_at id_at halves_at last_byte var_from varint_at mul fold xorshift rotl swap rrmxmx secret of1to3 of4to8 of9to16 small pair mix_step inward of17to128 onward of129to240 lane accumulate stir scramble turn run_on start_lanes twice merge finish large xxh3 row_at rows_from end_from rows_of end_of has repeated section_of all kinds_good table_good each_row ranges sizes_good presence_good counts_good body_of size_check head_check tail_check sum_check frame_check record_from record_of framed_from framed_of known_of keys_from offset_good rising_from fence_good fences_from fences_good content_check file_check onVarint split_step dense_step step_at on_step cons walk_from degree_of head_of on_head group_of partners_of group_check sums_from dense_of groups_from degrees_from dense_from dead_from data_good edges_check full_check shape_check ends_check footer_check rows_check
cases_pass = (refl, refl)

-- a byte of the log numbers; flag bit 2 without a dense group; a tag that is unknown, which its checksum tells first
pub damaged : (full_check (set one_edge 97 8) ≡ Err (Refusal.Sum 3)) × (full_check (set one_edge 12 4) ≡ Err Refusal.Data)
    × (full_check (set one_edge 87 2) ≡ Err (Refusal.Sum 2))
unfolding one_edge le_at be_at id_at halves_at last_byte var_from varint_at mul fold xorshift rotl swap rrmxmx secret of1to3 of4to8 of9to16 small pair mix_step inward of17to128 onward of129to240 lane accumulate stir scramble turn run_on start_lanes twice merge finish large xxh3 row_at rows_from end_from rows_of end_of has repeated section_of all kinds_good table_good each_row ranges sizes_good presence_good counts_good body_of size_check head_check tail_check sum_check frame_check record_from record_of framed_from framed_of known_of keys_from offset_good rising_from fence_good fences_from fences_good content_check file_check onVarint split_step dense_step step_at on_step cons walk_from degree_of head_of on_head group_of partners_of group_check sums_from dense_of groups_from degrees_from dense_from dead_from data_good edges_check full_check shape_check ends_check footer_check rows_check
damaged = (refl, refl, refl)

pub read : (batch_in heading_only ≡ 3 ∷ 0 ∷ ids)
    × (batch_in one_edge ≡ (3 ∷ 0 ∷ ids) ++ (1 ∷ 0 ∷ 0 ∷ 0 ∷ 0 ∷ 0 ∷ 0 ∷ 0 ∷ 1 ∷ 0 ∷ 0 ∷ 0 ∷ 0 ∷ 0 ∷ 0 ∷ 0 ∷ 2
    ∷ 0 ∷ 0 ∷ 0 ∷ 0 ∷ 0 ∷ 0 ∷ 0 ∷ 5 ∷ 0 ∷ 0 ∷ 0 ∷ 0 ∷ 0 ∷ 0 ∷ 0 ∷ 1 ∷ 7 ∷ 0 ∷ 0 ∷ 0 ∷ 0 ∷ 0 ∷ 0 ∷ 0 ∷ []))
unfolding heading_only one_edge le_at le_bytes be_at be_bytes id_at id_bytes halves_at last_byte var_from varint_at row_at rows_from rows_of has section_of body_of record_from record_of known_of onVarint split_step dense_step step_at on_step cons walk_from degree_of head_of on_head group_of partners_of heading_bytes edge_bytes records_of batch_bytes edges_from read_from edges_in heading_in batch_in
read = (refl, refl)

-- the file of one edge with a start index before its keys: it passes at any minor version; one that does not begin at 0 does not
-- open
pub starts_pass :
    (full_check (with_starts 0 (words (0 ∷ 1 ∷ [])) []) ≡ (Ok tt)) × (full_check (with_starts 200 (words (0 ∷ 1 ∷ [])) []) ≡ (Ok tt))
    × (full_check (with_starts 1 (words (1 ∷ 1 ∷ [])) []) ≡ Err (Refusal.Start 0))
unfolding head_bytes payload entry entries body_bytes trailer lay_out le_bytes le_at be_at id_at halves_at last_byte var_from varint_at mul fold xorshift rotl swap rrmxmx secret of1to3 of4to8 of9to16 small pair mix_step inward of17to128 onward of129to240 lane accumulate stir scramble turn run_on start_lanes twice merge finish large xxh3 row_at rows_from end_from rows_of end_of has repeated section_of all kinds_good table_good each_row ranges sizes_good presence_good counts_good body_of size_check head_check tail_check sum_check frame_check record_from record_of framed_from framed_of known_of keys_from offset_good rising_from fence_good fences_from fences_good content_check file_check onVarint split_step dense_step step_at on_step cons walk_from degree_of head_of on_head group_of partners_of group_check sums_from dense_of groups_from degrees_from dense_from stray_from dead_from data_good edges_check full_check shape_check ends_check footer_check rows_check
starts_pass = (refl, refl, refl)
