-- A lookup, as a function of what is known of a file: the bytes of the known sections, the counts, the offset bits.
use Rattle.std.specs.Prelude.{ℕ, zero, suc, ◌+◌, ◌*◌, ◌/◌, ◌%◌, ◌^◌, List, [], ◌∷◌, Bool, false, not, ◌&&◌, ◌||◌, length, get_or, ltb, leb, Result, Ok, Err, Option, Some, None}
use Rattle.base.specs.Pick.{pick}
use Rattle.base.specs.Over.{part, over}
use Rattle.codes.specs.declared.ids.Id.{Id}
use Rattle.codes.specs.Little.{le_at}
use Rattle.refusal.specs.declared.Refusal.{Refusal}
use Rattle.refusal.specs.Check.{◌⊳◌, refuse, Check}
use Rattle.frame.specs.declared.Opened.{Opened}
use Rattle.frame.specs.Kind as kind
use Rattle.frame.specs.Open.{Known, known_of, record_good, open_of, offset_at}
use Rattle.index.specs.declared.keys.Found.{Found}
use Rattle.index.specs.Find.{find_in}
use Rattle.degrees.specs.Degrees.{misplaced, edges_before, start_of}
use Rattle.group.specs.Fault.{refusal_of}
use Rattle.group.specs.Group.{Decoded, good, bad, group_of, partners_of, bytes_of}
use Rattle.lookup.specs.declared.Looked.{Looked}
use Rattle.frame.specs.Opening.{Opening}

-- what a lookup gives: the group's index, the keys compared, its partners, their log numbers and dead marks; absence, with
-- the keys compared; or a refusal
pub data Outcome : Type 0 where
  found : ℕ → ℕ → List Id → List ℕ → List ℕ → Outcome
  absent : ℕ → Outcome
  refused : Refusal → Outcome

unfoldable pub outcome : Check → Outcome → Outcome
outcome (Ok _) x = x
outcome (Err r) x = refused r

-- how much the lent outputs hold: partner bytes, log numbers, dead marks
pub record Rooms : Type 0 where
  pub bytes : ℕ
  pub logs : ℕ
  pub marks : ℕ

-- ---- the group asked for: i, from a to e of the partners p

-- its first fault, by its own number, at its byte, with the group beside it
unfoldable pub group_check : ℕ → Decoded → Check
group_check i (good dense ps) = Ok tt
group_check i (bad f) = Err (refusal_of i f)

-- "14 at the group comes right after the search if its two offsets fall or pass the partner range", then the group's faults
unfoldable pub group_fault : List ℕ → ℕ → ℕ → ℕ → Check
group_fault p a e i = refuse (Refusal.Offset i) (misplaced p a e) ⊳ group_check i (group_of (part p a e))

-- ---- its edges

-- "One u64 per edge, in file order": d of them from edge e on
unfoldable pub logs_from : ℕ → List ℕ → ℕ → List ℕ
logs_from zero s e = []
logs_from (suc d) s e = le_at s (kind.log_size * e) 8 ∷ logs_from d s (e + 1)

-- "Edge e is bit e mod 8 of byte e/8"; past the section's end every edge is live
abbrev pub mark_at : List ℕ → ℕ → ℕ
mark_at s e = get_or s (e / 8) 0 / 2 ^ (e % 8) % 2

unfoldable pub marks_from : ℕ → List ℕ → ℕ → List ℕ
marks_from zero s e = []
marks_from (suc d) s e = mark_at s e ∷ marks_from d s (e + 1)

-- where the d edges of group i begin: by the start index where there is one, otherwise the sum of the earlier degrees
unfoldable pub before : Known → ℕ → ℕ → Option ℕ
before k i d = pick k.indexed (start_of k.starts i d) (edges_before k.partners k.offsets (k.bits / 8) i)

-- "the sum through this group" is at most the edge count; by the start index, "an end above the edge count" is refused
unfoldable pub within : ℕ → ℕ → Option ℕ → Bool
within edges d (Some s) = leb (s + d) edges
within edges d None = false

unfoldable pub first_of : Option ℕ → ℕ
first_of (Some s) = s
first_of None = 0

-- an output is too short for d edges; partners alone lend only the first
unfoldable pub short : Bool → Rooms → ℕ → Bool
short full rooms d = ltb rooms.bytes (16 * d) || (full && (ltb rooms.logs d || ltb rooms.marks d))

-- ---- a lookup; full: with log numbers and dead marks, otherwise partners alone

module _ (full : Bool) (rooms : Rooms) where
  module _ (k : Known) where
    abbrev pub offset : ℕ → ℕ
    offset i = offset_at k.offsets (k.bits / 8) i

    abbrev pub partners_at : ℕ → List Id
    partners_at i = partners_of (group_of (part k.partners (offset i) (offset (i + 1))))

    -- "group faults in reading order, 19, 20"; "Partners alone never give 19"
    unfoldable pub look_check : ℕ → ℕ → Check
    look_check i d =
        group_fault k.partners (offset i) (offset (i + 1)) i
        ⊳ refuse (Refusal.Degrees i) (full && not (within k.edgecount d (before k i d)))
        ⊳ refuse (Refusal.Room d) (short full rooms d)

    -- the group of key i, after c comparisons
    unfoldable pub look_group : ℕ → ℕ → Outcome
    look_group i c =
        let d : ℕ = length (partners_at i) in
        outcome (look_check i d)
        (found i c (partners_at i) (pick full (logs_from d k.logs (first_of (before k i d))) []) (pick full (marks_from d k.dead (first_of (before k i d))) []))

    unfoldable pub on_found : Found → Outcome
    on_found (Found.At i c) = look_group i c
    on_found (Found.Absent c) = absent c

    unfoldable pub look_in : ℕ → Outcome
    look_in key = on_found (find_in k.keys k.keycount key)

  -- with an opened record, whoever filled it: 21 first
  unfoldable pub look_with : ℕ → List ℕ → Opened → Outcome
  look_with key f o = outcome (refuse Refusal.Record (not (record_good f o))) (look_in (known_of f o) key)

  -- of a file: opening first
  unfoldable pub on_opening : ℕ → List ℕ → Opening → Outcome
  on_opening key f (Ok o) = look_in (known_of f o) key
  on_opening key f (Err r) = refused r

  unfoldable pub look_of : ℕ → List ℕ → Outcome
  look_of key f = on_opening key f (open_of f)

-- ---- what the call answers, and what it leaves in the outputs

unfoldable pub looked_of : Outcome → Result Looked Refusal
looked_of (found i c ps logs marks) = Ok (Looked.Found (length ps) i c)
looked_of (absent c) = Ok (Looked.Absent c)
looked_of (refused r) = Err r

unfoldable pub partners_left : Outcome → List ℕ → List ℕ
partners_left (found i c ps logs marks) out = over (bytes_of ps) out
partners_left (absent c) out = out
partners_left (refused r) out = out

unfoldable pub logs_left : Outcome → List ℕ → List ℕ
logs_left (found i c ps logs marks) out = over logs out
logs_left (absent c) out = out
logs_left (refused r) out = out

unfoldable pub marks_left : Outcome → List ℕ → List ℕ
marks_left (found i c ps logs marks) out = over marks out
marks_left (absent c) out = out
marks_left (refused r) out = out
