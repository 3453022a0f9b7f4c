-- The start index in the full check, by computing: two keys, of one edge and of two, the last of which is dead.
use Rattle.std.specs.Prelude.{◌≡◌, refl, [], ◌∷◌, true, false, Err, Ok}
use Rattle.codes.specs.Little.{le_at, le_bytes}
use Rattle.codes.specs.Ids.{halves_at}
use Rattle.codes.specs.Varint.{last_byte, var_from, varint_at}
use Rattle.refusal.specs.declared.Refusal.{Refusal}
use Rattle.group.specs.Group.{onVarint, split_step, dense_step, step_at, on_step, cons, walk_from, degree_of, head_of, on_head, group_of, partners_of}
use Rattle.lookup.specs.Lookup.{group_check}
use Rattle.lookup.proofs.Laws.Cases.{known_by}
use Rattle.full_check.specs.Full.{dense_of, groups_from, degrees_from, dense_from, stray_from, dead_from, data_good, edges_check}

pub starts_checked :
    (edges_check 2 (known_by 1 3 false []) ≡ (Ok tt))
    × (edges_check 2 (known_by 1 3 true (0 ∷ 1 ∷ 3 ∷ [])) ≡ (Ok tt))
    -- it rises from 0 to the edge count, and is wrong in the middle
    × (edges_check 2 (known_by 1 3 true (0 ∷ 2 ∷ 3 ∷ [])) ≡ Err Refusal.Data)
    -- every entry is compared
    × (edges_check 2 (known_by 1 3 true (1 ∷ 1 ∷ 3 ∷ [])) ≡ Err Refusal.Data)
    × (edges_check 2 (known_by 1 3 true (0 ∷ 1 ∷ 4 ∷ [])) ≡ Err Refusal.Data)
    -- entries that are not there are not looked at; a group's fault is told first
    × (edges_check 2 (known_by 1 3 false (0 ∷ 2 ∷ 3 ∷ [])) ≡ (Ok tt))
    × (edges_check 2 (known_by 0 3 true (0 ∷ 2 ∷ 3 ∷ [])) ≡ Err (Refusal.DegreeZero 0 0))
unfolding known_by le_at le_bytes halves_at last_byte var_from varint_at onVarint split_step dense_step step_at on_step cons walk_from degree_of head_of on_head group_of partners_of group_check dense_of groups_from degrees_from dense_from stray_from dead_from data_good edges_check
starts_checked = (refl, refl, refl, refl, refl, refl, refl)
