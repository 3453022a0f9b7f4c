-- The full check: "opening, 22, all groups, 23".
use Rattle.std.specs.Prelude.{ℕ, zero, suc, ◌+◌, ◌-◌, ◌*◌, ◌/◌, List, [], ◌∷◌, Bool, false, not, ◌&&◌, ◌||◌, length, eqb, Result, Ok, Err}
use Rattle.std.specs.Bool.{beq}
use Rattle.base.specs.Pick.{pick}
use Rattle.xxh3_spec.specs.Xxh3.{xxh3}
use Rattle.refusal.specs.declared.Refusal.{Refusal}
use Rattle.refusal.specs.Check.{◌⊳◌, refuse, Check}
use Rattle.frame.specs.declared.Row.{Row}
use Rattle.frame.specs.Frame.{range_of, rows_of, flag, flags_of, body_of, record_of}
use Rattle.frame.specs.Open.{Known, known_of, bytes_at, start_at, file_check, opening}
use Rattle.degrees.specs.Degrees.{group_at}
use Rattle.group.specs.Group.{Decoded, good, bad, group_of, partners_of}
use Rattle.lookup.specs.Lookup.{group_check, mark_at}
use Rattle.full_check.specs.declared.groups.Groups.{Groups}
use Rattle.full_check.specs.declared.marks.Marks.{Marks}
use Rattle.frame.specs.Opening.{Opening}
pub mod Laws

-- ---- 22: "a section's checksum, skipped kinds too", at the "first entry"

abbrev pub sum_good : List ℕ → Row → Bool
sum_good f r = eqb (xxh3 (bytes_at f (range_of r))) r.sum

unfoldable pub sums_from : List ℕ → List Row → ℕ → Check
sums_from f [] k = Ok tt
sums_from f (r ∷ rs) k = pick (sum_good f r) (sums_from f rs (k + 1)) (Err (Refusal.Sum k))

-- ---- a group is dense

unfoldable pub dense_of : Decoded → Bool
dense_of (good dense ps) = dense
dense_of (bad f) = false

-- ---- "all groups": the first group that has a fault, by that fault. d groups from group i on; p the partners, o the
-- offsets, w bytes each

module _ (p o : List ℕ) (w : ℕ) where
  abbrev pub group_in : ℕ → Decoded
  group_in i = group_of (group_at p o w i)

  unfoldable pub groups_from : ℕ → ℕ → Check
  groups_from zero i = Ok tt
  groups_from (suc d) i = group_check i (group_in i) ⊳ groups_from d (i + 1)

  -- the sum of their degrees
  unfoldable pub degrees_from : ℕ → ℕ → ℕ
  degrees_from zero i = 0
  degrees_from (suc d) i = length (partners_of (group_in i)) + degrees_from d (i + 1)

  -- one of them is dense
  unfoldable pub dense_from : ℕ → ℕ → Bool
  dense_from zero i = false
  dense_from (suc d) i = dense_of (group_in i) || dense_from d (i + 1)

  -- of the entries of the start index s from group i on, before which there are e edges, one is not as the degrees: "The full check
  -- compares every entry with the degrees"
  unfoldable pub stray_from : List ℕ → ℕ → ℕ → ℕ → Bool
  stray_from s zero i e = not (eqb (start_at s i) e)
  stray_from s (suc d) i e = not (eqb (start_at s i) e) || stray_from s d (i + 1) (e + length (partners_of (group_in i)))

-- ---- 23: "degree sum not the edge count; bit 1 or 2 not as the data; unused bits", and an entry of the start index unlike the degrees

-- one of d edges from edge e on is dead; s the tombstones
unfoldable pub dead_from : ℕ → List ℕ → ℕ → Bool
dead_from zero s e = false
dead_from (suc d) s e = eqb (mark_at s e) 1 || dead_from d s (e + 1)

-- what the tombstones say of so many edges: one is dead; a bit past the last edge is set
abbrev pub marks_of : List ℕ → ℕ → Marks
marks_of s edges = record { dead = dead_from edges s 0; unused = dead_from (8 * length s - edges) s edges }

-- flags, edge count, tombstones; the groups' degree sum, whether one is dense, and whether an entry of the start index is unlike them
unfoldable pub data_good : ℕ → ℕ → List ℕ → ℕ → Bool → Bool → Bool
data_good flags edges s sum dense stray =
    eqb sum edges
    && (beq (flag 1 flags) (marks_of s edges).dead && (beq (flag 2 flags) dense && (not (marks_of s edges).unused && not stray)))

-- ---- the check

-- where there is a start index
abbrev pub stray_in : Known → Bool
stray_in k = k.indexed && stray_from k.partners k.offsets (k.bits / 8) k.starts k.keycount 0 0

-- of what is known of a file with these flags
unfoldable pub edges_check : ℕ → Known → Check
edges_check flags k =
    let w : ℕ = k.bits / 8 in
    let n : ℕ = k.keycount in
    groups_from k.partners k.offsets w n 0
    ⊳ refuse Refusal.Data
    (not (data_good flags k.edgecount k.dead (degrees_from k.partners k.offsets w n 0) (dense_from k.partners k.offsets w n 0) (stray_in k)))

unfoldable pub full_check : List ℕ → Check
full_check f =
    file_check f ⊳ sums_from f (rows_of (body_of f)) 0 ⊳ edges_check (flags_of f) (known_of f (record_of f))

-- ---- what the pass over the groups answers

unfoldable pub groups_told : Check → ℕ → Bool → Bool → Result Groups Refusal
groups_told (Ok _) sum dense stray = Ok (record { edges = sum; dense = dense; stray = stray })
groups_told (Err r) sum dense stray = Err r

-- with the start index s, where it is there
unfoldable pub groups_seen : List ℕ → List ℕ → ℕ → ℕ → Bool → List ℕ → Result Groups Refusal
groups_seen p o w n there s = groups_told (groups_from p o w n 0) (degrees_from p o w n 0) (dense_from p o w n 0) (there && stray_from p o w s n 0 0)

-- the record of a file that passes
unfoldable pub checked_of : List ℕ → Opening
checked_of f = opening (full_check f) (record_of f)
