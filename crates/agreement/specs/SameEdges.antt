-- Whenever the full check passes, both users see the same edges: for every key, the lookup with enough room gives exactly
-- the read-out's edges of that key, in order, with log numbers and dead marks, and absence exactly if it has none.
use Rattle.std.specs.Prelude.{◌≡◌, Bool, eqb}
use Prim.Native.Nat.{ℕ, ◌*◌, ◌≤◌}
use mathlib.Core.List.{List, [], ◌∷◌}
use Rattle.std.proofs.Math.Bool.{true, false}
use Rattle.std.proofs.Math.ListN.{length}
use Rattle.batch.specs.Batch.{partners_in, logs_in}
use Rattle.base.specs.Pick.{pick}
use Rattle.codes.specs.declared.ids.Id.{Id}
use Rattle.codes.specs.Ids.{id_number}
use Rattle.frame.specs.declared.Range.{Range}
use Rattle.frame.specs.declared.Opened.{Opened}
use Rattle.frame.specs.Frame.{record_of}
use Rattle.frame.specs.Open.{known_of}
use Rattle.lookup.specs.Lookup.{Outcome, found, absent, refused, Rooms}
use Rattle.batch.specs.declared.Edge.{Edge}
use Rattle.readout.specs.Edges.{edges_in}

-- ---- the words of the statement

-- of edges, those of one key, in their order
unfoldable pub of_key : ℕ → List Edge → List Edge
of_key k [] = []
of_key k (e ∷ es) = pick (eqb (id_number e.key) k) (e ∷ of_key k es) (of_key k es)

-- their dead marks as a lookup writes them
unfoldable pub mark_bytes_in : List Edge → List ℕ
mark_bytes_in [] = []
mark_bytes_in (e ∷ es) = pick e.dead 1 0 ∷ mark_bytes_in es

-- an outcome says that a key has these edges and no others; full: with log numbers and dead marks
unfoldable pub Says : Bool → Outcome → List Edge → Type 0
Says full (found i c ps logs marks) es = (1 ≤ length es) × (ps ≡ partners_in es) × (logs ≡ pick full (logs_in es) []) × (marks ≡ pick full (mark_bytes_in es) [])
Says full (absent c) es = es ≡ []
Says full (refused r) es = ⊥

-- what an outcome shows of a key: whether it is there, its partners, log numbers and dead marks
pub record Shown : Type 0 where
  pub there : Bool
  pub partners : List Id
  pub logs : List ℕ
  pub marks : List ℕ

unfoldable pub shown_by : Outcome → Shown
shown_by (found i c ps logs marks) = record { there = true; partners = ps; logs = logs; marks = marks }
shown_by (absent c) = record { there = false; partners = []; logs = []; marks = [] }
shown_by (refused r) = record { there = false; partners = []; logs = []; marks = [] }

-- ---- the statement

-- a record without its start index, with r in the range's place
abbrev pub unindexed : Range → Opened → Opened
unindexed r o = record {
  keys = o.keys;
  offsets = o.offsets;
  partners = o.partners;
  logs = o.logs;
  marked = o.marked;
  dead = o.dead;
  indexed = false;
  starts = r;
  keycount = o.keycount;
  edgecount = o.edgecount;
  bits = o.bits;
}

-- all edges of a file, as its read-out gives them
abbrev pub edges_of_file : List ℕ → List Edge
edges_of_file f = edges_in (known_of f (record_of f))

-- room for so many edges
pub record Enough (rooms : Rooms) (d : ℕ) : Type 0 where
  pub bytes : 16 * d ≤ rooms.bytes
  pub logs : d ≤ rooms.logs
  pub marks : d ≤ rooms.marks
