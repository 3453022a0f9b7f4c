-- Demand 2: "For each well-formed batch within the limits, given room, the file we write passes the full check, reads out to
-- that same batch, and a lookup of any key gives exactly its written partners, in order, with log numbers and dead marks, or
-- absence."
use Rattle.std.specs.Prelude.{◌≡◌, ℕ, ◌*◌, ◌^◌, ◌≤◌, List, true, false, length, ltb, Ok}
use Rattle.base.specs.Pick.{pick}
use Rattle.base.specs.Bytes.{Bytes}
use Rattle.frame.specs.Frame.{record_of}
use Rattle.lookup.specs.Lookup.{Rooms, look_of, look_with}
use Rattle.lookup.specs.Calls.{alone}
use Rattle.batch.specs.Batch.{heading_of, edges_of, batch_check}
use Rattle.batch_groups.specs.Groups.{any_dead, groups_of}
use Rattle.write_image.specs.Image.{any_dense, flags_by, file_of}
use Rattle.full_check.specs.Full.{full_check}
use Rattle.readout.specs.ReadOut.{batch_in}
use Rattle.agreement.specs.SameEdges.{of_key, Says, Enough}
use Rattle.agreement.specs.Heading.{header_for}
use Rattle.reader.specs.Header.{header_of}
use Rattle.demand2.specs.Answers.{outcome_for}

-- the file of a batch
abbrev pub file_for : List ℕ → List ℕ
file_for s = file_of (heading_of s) (edges_of s)

-- the flags that the writer sets: "Bit 2 is set exactly if a group is dense, bit 1 exactly if an edge is dead, bit 0 never",
-- and bit 3 by the direction
abbrev pub flags_for : List ℕ → ℕ
flags_for s = flags_by (heading_of s).direction (any_dense (length (groups_of (edges_of s))) (groups_of (edges_of s))) (any_dead (edges_of s))

-- the minor version: 1 "from 1,025 keys up", otherwise 0
abbrev pub minor_for : List ℕ → ℕ
minor_for s = pick (ltb 1024 (length (groups_of (edges_of s)))) 1 0

-- "more keys, edges or file bytes than the bounds" is not the case
pub record Limits (s : List ℕ) : Type 0 where
  pub keys : length (groups_of (edges_of s)) ≤ 2 ^ 24
  pub edges : length (edges_of s) ≤ 2 ^ 26
  pub bytes : length (file_for s) ≤ 2 ^ 30

-- a batch that demand 2 speaks of: bytes, without fault, within the limits; of either direction
pub record Lawful (s : List ℕ) : Type 0 where
  pub bytes : Bytes s
  pub fine : batch_check s ≡ (Ok tt)
  pub limits : Limits s

pub record Demand2 (s : List ℕ) : Type 0 where
  pub passes_check : full_check (file_for s) ≡ (Ok tt)
  -- the read-out is that same batch, byte for byte
  pub reads_out : batch_in (file_for s) ≡ s
  -- its header is the batch's heading, with the writer's minor version and flags
  pub says_header : header_of (file_for s) ≡ Ok (header_for (minor_for s) (flags_for s) s)
  -- it has a start index "from 1,025 keys up", and not below
  pub has_starts : (record_of (file_for s)).indexed ≡ ltb 1024 (length (groups_of (edges_of s)))
  -- a lookup with enough room says exactly the written edges of its key; also by the record that opening gave
  pub looks_up : (key : ℕ) (rooms : Rooms) → Enough rooms (length (of_key key (edges_of s))) → Says true (look_of true rooms key (file_for s)) (of_key key (edges_of s))
  pub looks_up_with : (key : ℕ) (rooms : Rooms) → Enough rooms (length (of_key key (edges_of s)))
      → Says true (look_with true rooms key (file_for s) (record_of (file_for s))) (of_key key (edges_of s))
  -- partners alone
  pub finds : (key n : ℕ) → 16 * length (of_key key (edges_of s)) ≤ n → Says false (look_of false (alone n) key (file_for s)) (of_key key (edges_of s))
  pub finds_with : (key n : ℕ) → 16 * length (of_key key (edges_of s)) ≤ n
      → Says false (look_with false (alone n) key (file_for s) (record_of (file_for s))) (of_key key (edges_of s))
  -- and to the last number: the index is the key's place among the written keys, the count is the halving rule's own
  pub looks_up_is : (key : ℕ) (rooms : Rooms) → Enough rooms (length (of_key key (edges_of s))) → look_of true rooms key (file_for s) ≡ outcome_for true key (edges_of s)
  pub looks_up_with_is : (key : ℕ) (rooms : Rooms) → Enough rooms (length (of_key key (edges_of s)))
      → look_with true rooms key (file_for s) (record_of (file_for s)) ≡ outcome_for true key (edges_of s)
  pub finds_is : (key n : ℕ) → 16 * length (of_key key (edges_of s)) ≤ n → look_of false (alone n) key (file_for s) ≡ outcome_for false key (edges_of s)
  pub finds_with_is : (key n : ℕ) → 16 * length (of_key key (edges_of s)) ≤ n
      → look_with false (alone n) key (file_for s) (record_of (file_for s)) ≡ outcome_for false key (edges_of s)
