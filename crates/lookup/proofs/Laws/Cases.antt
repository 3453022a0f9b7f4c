-- Lookups by a start index, by computing: two keys, of one edge and of two, where five log numbers are known. Of what is known, and by
-- a record.
use Rattle.std.specs.Prelude.{◌≡◌, refl, ℕ, ◌+◌, ◌-◌, ◌^◌, List, [], ◌∷◌, ◌++◌, Bool, true, false}
use Rattle.codes.specs.declared.ids.Id.{Id}
use Rattle.codes.specs.Little.{le_at, le_bytes}
use Rattle.codes.specs.Ids.{be_at, id_at, halves_at, order}
use Rattle.codes.specs.Varint.{last_byte, var_from, varint_at}
use Rattle.refusal.specs.declared.Refusal.{Refusal}
use Rattle.frame.specs.declared.Opened.{Opened}
use Rattle.frame.specs.Frame.{sizes_good}
use Rattle.frame.specs.Open.{Known, known_of, record_within}
use Rattle.frame.proofs.Laws.Cases.{words}
use Rattle.index.specs.Find.{narrowed, find_from, find_in}
use Rattle.degrees.specs.Degrees.{positive, degree_in, degree_at, plus, edges_before, start_of}
use Rattle.group.specs.Group.{onVarint, split_step, dense_step, step_at, on_step, cons, walk_from, degree_of, head_of, on_head, group_of, partners_of}
use Rattle.lookup.specs.Lookup.{Outcome, found, refused, outcome, group_check, group_fault, before, within, first_of, logs_from, marks_from, short, look_check, look_group, on_found, look_in, look_with}

-- what is known, by the degree's byte of the first group, the edge count, whether there is a start index, and its entries
unfoldable pub known_by : ℕ → ℕ → Bool → List ℕ → Known
known_by degree edges there entries = record {
  keys = 0 ∷ 0 ∷ 0 ∷ 0 ∷ 0 ∷ 0 ∷ 0 ∷ 1 ∷ 0 ∷ 0 ∷ 0 ∷ 0 ∷ 0 ∷ 0 ∷ 0 ∷ 2 ∷ 0 ∷ 0 ∷ 0 ∷ 0 ∷ 0 ∷ 0 ∷ 0 ∷ 1 ∷ 0 ∷ 0 ∷ 0 ∷ 0 ∷ 0 ∷ 0 ∷ 0 ∷ 3 ∷ [];
  offsets = 0 ∷ 0 ∷ 0 ∷ 11 ∷ 0 ∷ 0 ∷ 31 ∷ 0 ∷ 0 ∷ [];
  partners = degree ∷ 1 ∷ 5 ∷ (words (1 ∷ []) ++ (2 ∷ 1 ∷ 5 ∷ (words (1 ∷ []) ++ (0 ∷ words (2 ∷ [])))));
  logs = words (10 ∷ 20 ∷ 30 ∷ 40 ∷ 50 ∷ []);
  dead = 4 ∷ [];
  indexed = there;
  starts = words entries;
  keycount = 2;
  edgecount = edges;
  bits = 24;
}

-- the first key and the second, with room for two edges
abbrev look : Bool → ℕ → Known → Outcome
look full lo k = look_in full (record { bytes = 32; logs = 2; marks = 2 }) k (2 ^ 64 + lo)

abbrev one : List Id
one = record { hi = 5; lo = 1 } ∷ []

abbrev two : List Id
two = record { hi = 5; lo = 1 } ∷ record { hi = 5; lo = 2 } ∷ []

pub by_starts :
    -- by the degrees, and by entries that say the same
    (look true 2 (known_by 1 5 false []) ≡ found 0 2 one (10 ∷ []) (0 ∷ []))
    × (look true 3 (known_by 1 5 false []) ≡ found 1 1 two (20 ∷ 30 ∷ []) (0 ∷ 1 ∷ []))
    × (look true 2 (known_by 1 5 true (0 ∷ 1 ∷ 3 ∷ [])) ≡ found 0 2 one (10 ∷ []) (0 ∷ []))
    × (look true 3 (known_by 1 5 true (0 ∷ 1 ∷ 3 ∷ [])) ≡ found 1 1 two (20 ∷ 30 ∷ []) (0 ∷ 1 ∷ []))
    -- by entries that say otherwise: the start is theirs, not the sum
    × (look true 2 (known_by 1 5 true (2 ∷ 3 ∷ 5 ∷ [])) ≡ found 0 2 one (30 ∷ []) (1 ∷ []))
    × (look true 3 (known_by 1 5 true (2 ∷ 3 ∷ 5 ∷ [])) ≡ found 1 1 two (40 ∷ 50 ∷ []) (0 ∷ 0 ∷ []))
    -- a difference unlike the degree, too large and too small; partners alone do not see it
    × (look true 2 (known_by 1 5 true (0 ∷ 2 ∷ 3 ∷ [])) ≡ refused (Refusal.Degrees 0))
    × (look true 3 (known_by 1 5 true (0 ∷ 2 ∷ 3 ∷ [])) ≡ refused (Refusal.Degrees 1))
    × (look true 3 (known_by 1 5 true (0 ∷ 3 ∷ 1 ∷ [])) ≡ refused (Refusal.Degrees 1))
    × (look false 3 (known_by 1 5 true (0 ∷ 2 ∷ 3 ∷ [])) ≡ found 1 1 two [] [])
    -- an end at the edge count, and one above it; numbers do not wrap
    × (look true 3 (known_by 1 3 true (0 ∷ 1 ∷ 3 ∷ [])) ≡ found 1 1 two (20 ∷ 30 ∷ []) (0 ∷ 1 ∷ []))
    × (look true 3 (known_by 1 2 true (0 ∷ 1 ∷ 3 ∷ [])) ≡ refused (Refusal.Degrees 1))
    × (look true 2 (known_by 1 2 true (0 ∷ 1 ∷ 3 ∷ [])) ≡ found 0 2 one (10 ∷ []) (0 ∷ []))
    × (look true 3 (known_by 1 5 true (0 ∷ (2 ^ 64 - 1) ∷ 1 ∷ [])) ≡ refused (Refusal.Degrees 1))
    × (look true 3 (known_by 1 5 true (0 ∷ (2 ^ 64 - 3) ∷ (2 ^ 64 - 1) ∷ [])) ≡ refused (Refusal.Degrees 1))
    -- an earlier degree of 0: the sum stops there, the start index does not read it
    × (look true 3 (known_by 0 5 false []) ≡ refused (Refusal.Degrees 1))
    × (look true 3 (known_by 0 5 true (0 ∷ 1 ∷ 3 ∷ [])) ≡ found 1 1 two (20 ∷ 30 ∷ []) (0 ∷ 1 ∷ []))
    × (look true 2 (known_by 0 5 true (0 ∷ 1 ∷ 3 ∷ [])) ≡ refused (Refusal.DegreeZero 0 0))
unfolding known_by le_at le_bytes be_at id_at halves_at order last_byte var_from varint_at narrowed find_from find_in positive degree_in degree_at plus edges_before start_of onVarint split_step dense_step step_at on_step cons walk_from degree_of head_of on_head group_of partners_of outcome group_check group_fault before within first_of logs_from marks_from short look_check look_group on_found look_in
by_starts = (refl, refl, refl, refl, refl, refl, refl, refl, refl, refl, refl, refl, refl, refl, refl, refl, refl, refl)

-- ---- by a record: the same sections one after the other in a file of 137 bytes, with the entries last

unfoldable pub file_with : List ℕ → List ℕ
file_with entries =
    let k : Known = known_by 1 5 true entries in
    k.keys ++ (k.offsets ++ (k.partners ++ (k.logs ++ (4 ∷ words entries))))

-- its record, with the start index as it is told
abbrev record_with : Bool → ℕ → ℕ → Opened
record_with there start len = record {
  keys = record { start = 0; len = 32 };
  offsets = record { start = 32; len = 9 };
  partners = record { start = 41; len = 31 };
  logs = record { start = 72; len = 40 };
  marked = true;
  dead = record { start = 112; len = 1 };
  indexed = there;
  starts = record { start = start; len = len };
  keycount = 2;
  edgecount = 5;
  bits = 24;
}

abbrev by : Bool → List ℕ → Opened → Outcome
by full entries o = look_with full (record { bytes = 32; logs = 2; marks = 2 }) (2 ^ 64 + 3) (file_with entries) o

abbrev shifted : List ℕ
shifted = 2 ∷ 3 ∷ 5 ∷ []

pub by_record :
    -- the record's own start index, or none where it says so
    (by true shifted (record_with true 113 24) ≡ found 1 1 two (40 ∷ 50 ∷ []) (0 ∷ 0 ∷ []))
    × (by true shifted (record_with false 113 24) ≡ found 1 1 two (20 ∷ 30 ∷ []) (0 ∷ 1 ∷ []))
    × (by true (0 ∷ 2 ∷ 3 ∷ []) (record_with true 113 24) ≡ refused (Refusal.Degrees 1))
    × (by false (0 ∷ 2 ∷ 3 ∷ []) (record_with true 113 24) ≡ found 1 1 two [] [])
    -- 21, of partners alone too: a length that is not that of two keys; an end past the file; a start past it
    × (by true shifted (record_with true 113 16) ≡ refused Refusal.Record) × (by false shifted (record_with true 113 16) ≡ refused Refusal.Record)
    × (by true shifted (record_with true 105 32) ≡ refused Refusal.Record) × (by false shifted (record_with true 105 32) ≡ refused Refusal.Record)
    × (by true shifted (record_with true 114 24) ≡ refused Refusal.Record) × (by false shifted (record_with true 114 24) ≡ refused Refusal.Record)
    × (by true shifted (record_with true (2 ^ 64 - 1) 24) ≡ refused Refusal.Record) × (by false shifted (record_with true (2 ^ 64 - 1) 24) ≡ refused Refusal.Record)
    × (by true shifted (record_with true 113 (2 ^ 64 - 1)) ≡ refused Refusal.Record) × (by false shifted (record_with true 113 (2 ^ 64 - 1)) ≡ refused Refusal.Record)
    -- any numbers, where the record says that there is none
    × (by true shifted (record_with false (2 ^ 64 - 1) (2 ^ 64 - 1)) ≡ found 1 1 two (20 ∷ 30 ∷ []) (0 ∷ 1 ∷ []))
    × (by false shifted (record_with false (2 ^ 64 - 1) (2 ^ 64 - 1)) ≡ found 1 1 two [] [])
unfolding file_with known_by sizes_good record_within known_of le_at le_bytes be_at id_at halves_at order last_byte var_from varint_at narrowed find_from find_in positive degree_in degree_at plus edges_before start_of onVarint split_step dense_step step_at on_step cons walk_from degree_of head_of on_head group_of partners_of outcome group_check group_fault before within first_of logs_from marks_from short look_check look_group on_found look_in look_with
by_record = (refl, refl, refl, refl, refl, refl, refl, refl, refl, refl, refl, refl, refl, refl, refl, refl)
