-- The start index: when opening refuses it, what a lookup takes from it, and that it does not show in a file that passes the full
-- check.
use Rattle.std.specs.Prelude.{◌≡◌, ◌↔◌, ◌⊎◌, ℕ, ◌+◌, ◌/◌, ◌≤◌, ◌<◌, List, Bool, true, false, length, Ok, Err}
use Rattle.codes.specs.declared.ids.Id.{Id}
use Rattle.refusal.specs.declared.Refusal.{Refusal}
use Rattle.frame.specs.declared.Range.{Range}
use Rattle.frame.specs.declared.Opened.{Opened}
use Rattle.frame.specs.Frame.{rows_of, body_of, flags_of, record_of}
use Rattle.frame.specs.Open.{Known, known_of, bytes_at, start_at, record_good, file_check, open_of}
use Rattle.frame.proofs.Laws.Open.{Recorded}
use Rattle.group.specs.Group.{is_good, group_of, partners_of}
use Rattle.degrees.specs.Degrees.{edges_before}
use Rattle.lookup.specs.Lookup.{found, refused, Rooms, before, logs_from, marks_from, look_in, look_with, look_of}
use Rattle.lookup.specs.Given.{GroupIn}
use Rattle.lookup.specs.Starts.{SameGroup, SameBut}
use Rattle.index.specs.declared.keys.Found.{Found}
use Rattle.index.specs.Find.{find_in}
use Rattle.full_check.specs.Full.{sums_from, groups_from, degrees_from, stray_in, edges_check, full_check}
use Rattle.full_check.specs.Starts.{hidden}
use Rattle.agreement.specs.SameEdges.{unindexed}
use Rattle.promises.specs.Given.{Gives}

-- ---- 19 by the start index, of what is known of a file: the group of key i is found and good, and its two entries differ by another
-- number than its degree, or the later is above the edge count. Earlier groups are not asked.

abbrev pub UnlikeIn : Known → ℕ → ℕ → Type 0
UnlikeIn k key i =
    GroupIn k key i
    (λ g. (is_good (group_of g) ≡ true)
    × ((start_at k.starts i + length (partners_of (group_of g)) ≡ start_at k.starts (i + 1) → ⊥) ⊎ (k.edgecount < start_at k.starts (i + 1))))

pub record StartIndex : Type 0 where
  pub unlike : (k : Known) → k.indexed ≡ true → (full : Bool) (rooms : Rooms) (key i : ℕ)
      → (look_in full rooms k key ≡ refused (Refusal.Degrees i)) ↔ ((full ≡ true) × UnlikeIn k key i)
  -- "A lookup takes its start there": log numbers and marks of an answer are those from the group's own entry on
  pub taken : (k : Known) → k.indexed ≡ true → (rooms : Rooms) (key : ℕ) {i c : ℕ} {ps : List Id} {ls ms : List ℕ} → look_in true rooms k key ≡ found i c ps ls ms
      → (ls ≡ logs_from (length ps) k.logs (start_at k.starts i)) × (ms ≡ marks_from (length ps) k.dead (start_at k.starts i))
  -- what a lookup is by a record that fits, and of a file that opens: the lookup in what is known by that record
  pub record_looks : (full : Bool) (rooms : Rooms) (key : ℕ) (f : List ℕ) (o : Opened) → record_good f o ≡ true → look_with full rooms key f o ≡ look_in full rooms (known_of f o) key
  pub file_looks : (full : Bool) (rooms : Rooms) (key : ℕ) (f : List ℕ) (o : Opened) → open_of f ≡ Ok o → look_of full rooms key f ≡ look_in full rooms (known_of f o) key
  -- what is known of the start index is the record's own; without it, the earlier degrees are summed
  pub own : (f : List ℕ) (o : Opened) → ((known_of f o).indexed ≡ o.indexed) × (o.indexed ≡ true → (known_of f o).starts ≡ bytes_at f o.starts)
  pub summed : (k : Known) → k.indexed ≡ false → (i d : ℕ) → before k i d ≡ edges_before k.partners k.offsets (k.bits / 8) i
  -- 21 exactly where the record's numbers, those of a start index that it says is there among them, do not fit the file
  pub record_told : (full : Bool) (rooms : Rooms) (key : ℕ) (f : List ℕ) (o : Opened) → Gives refused (look_with full rooms key f o) 21 0 0 ↔ (Recorded (length f) o → ⊥)
  -- a file passes the full check exactly if it opens, its sums are right and its edges pass
  pub passes : (f : List ℕ)
      → (full_check f ≡ (Ok tt)) ↔ ((file_check f ≡ (Ok tt)) × (sums_from f (rows_of (body_of f)) 0 ≡ (Ok tt)) × (edges_check (flags_of f) (known_of f (record_of f)) ≡ (Ok tt)))
  -- 23: the edges of a file pass the full check exactly if they pass without the start index, and each entry says how many edges stand
  -- before its group
  pub checked : (flags : ℕ) (k : Known)
      → (edges_check flags k ≡ (Ok tt))
      ↔ ((edges_check flags (hidden k) ≡ (Ok tt))
      × (k.indexed ≡ true → (j : ℕ) → j ≤ k.keycount → start_at k.starts j ≡ degrees_from k.partners k.offsets (k.bits / 8) j 0))
  -- and by no other number: where all groups are good, an entry that is not as the degrees is 23
  pub stray : (flags : ℕ) (k : Known) → groups_from k.partners k.offsets (k.bits / 8) k.keycount 0 ≡ (Ok tt) → stray_in k ≡ true → edges_check flags k ≡ Err Refusal.Data
  -- "With the index in the record the earlier degrees are not read at all": what stands in other groups changes nothing
  pub alone : (k j : Known) → k.indexed ≡ true → j.indexed ≡ true → SameBut k j → (full : Bool) (rooms : Rooms) (key : ℕ)
      → ((i c : ℕ) → find_in k.keys k.keycount key ≡ Found.At i c → SameGroup k j i) → look_in full rooms k key ≡ look_in full rooms j key
  -- "for a file that passes the full check, the lookup by a record with the index and by the same record without it give the same
  -- answer", whatever numbers stand in the range's place
  pub unseen : (f : List ℕ) → full_check f ≡ (Ok tt) → (r : Range) (full : Bool) (rooms : Rooms) (key : ℕ)
      → look_with full rooms key f (unindexed r (record_of f)) ≡ look_with full rooms key f (record_of f)
