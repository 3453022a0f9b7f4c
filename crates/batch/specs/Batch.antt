-- A batch: "One byte of kind, then a body whose length the kind fixes. Kind 3, first and once: direction byte 0 or 1
-- (another is 24), three ids (50 bytes in all). Kind 1 live and kind 2 dead edge: key, partner, log number u64 (41 bytes in
-- all). Edges strictly increase by key, then partner."
use Rattle.std.specs.Prelude.{ℕ, zero, suc, ◌+◌, ◌-◌, ◌*◌, ◌/◌, List, [], ◌∷◌, ◌++◌, Bool, true, ◌&&◌, ◌||◌, length, get_or, ltb, leb, eqb, Ok, Err}
use Rattle.base.specs.Pick.{pick}
use Rattle.base.specs.Over.{part}
use Rattle.codes.specs.declared.ids.Id.{Id}
use Rattle.codes.specs.Little.{le_at, le_bytes}
use Rattle.codes.specs.Ids.{halves_at, id_number, id_bytes}
use Rattle.refusal.specs.declared.Refusal.{Refusal}
use Rattle.refusal.specs.Check.{◌⊳◌, refuse, Check}
use Rattle.batch.specs.declared.Edge.{Edge}
pub mod Laws

-- bytes of the heading's record, and of an edge's
abbrev pub heading_size : ℕ
heading_size = 50

abbrev pub record_size : ℕ
record_size = 41

-- ---- records, from bytes

pub record Heading : Type 0 where
  -- 1 says that the file is inverse
  pub direction : ℕ
  -- edge type, source label and destination label, 16 bytes each
  pub ids : List ℕ

unfoldable pub heading_of : List ℕ → Heading
heading_of s = record { direction = get_or s 1 0; ids = part s 2 heading_size }

-- the edge in the record at i
unfoldable pub edge_at : List ℕ → ℕ → Edge
edge_at s i = record { key = halves_at s (i + 1); partner = halves_at s (i + 17); log = le_at s (i + 33) 8; dead = eqb (get_or s i 0) 2 }

-- where the record of edge e begins
abbrev pub place : ℕ → ℕ
place e = heading_size + record_size * e

-- d edges from edge e on
unfoldable pub edges_at : ℕ → List ℕ → ℕ → List Edge
edges_at zero s e = []
edges_at (suc d) s e = edge_at s (place e) ∷ edges_at d s (e + 1)

-- how many whole records follow the heading
abbrev pub record_count : List ℕ → ℕ
record_count s = (length s - heading_size) / record_size

-- the edges of a batch without fault
unfoldable pub edges_of : List ℕ → List Edge
edges_of s = edges_at (record_count s) s 0

-- ---- what edges hold

unfoldable pub partners_in : List Edge → List Id
partners_in [] = []
partners_in (e ∷ es) = e.partner ∷ partners_in es

unfoldable pub logs_in : List Edge → List ℕ
logs_in [] = []
logs_in (e ∷ es) = e.log ∷ logs_in es

unfoldable pub marks_in : List Edge → List Bool
marks_in [] = []
marks_in (e ∷ es) = e.dead ∷ marks_in es

-- ---- and back

unfoldable pub heading_bytes : Heading → List ℕ
heading_bytes h = 3 ∷ h.direction ∷ h.ids

abbrev pub kind_of : Bool → ℕ
kind_of dead = pick dead 2 1

unfoldable pub edge_bytes : Edge → List ℕ
edge_bytes e = kind_of e.dead ∷ (id_bytes e.key ++ (id_bytes e.partner ++ le_bytes 8 e.log))

unfoldable pub records_of : List Edge → List ℕ
records_of [] = []
records_of (e ∷ es) = edge_bytes e ++ records_of es

unfoldable pub batch_bytes : Heading → List Edge → List ℕ
batch_bytes h es = heading_bytes h ++ records_of es

-- ---- the first faulty record: 24 "unknown, cut or misplaced", 25 "order", each at "its first byte"

-- by key, then partner
unfoldable pub before : Edge → Edge → Bool
before a b =
    ltb (id_number a.key) (id_number b.key)
    || (eqb (id_number a.key) (id_number b.key) && ltb (id_number a.partner) (id_number b.partner))

-- edge e is above the one before it
unfoldable pub in_order : List ℕ → ℕ → Bool
in_order s zero = true
in_order s (suc e) = before (edge_at s (place e)) (edge_at s (place (suc e)))

abbrev pub is_edge : ℕ → Bool
is_edge kind = eqb kind 1 || eqb kind 2

-- d whole records from edge e on, and what lies after them
unfoldable pub fault_from : ℕ → List ℕ → ℕ → Check
fault_from zero s e = pick (eqb (place e) (length s)) (Ok tt) (Err (Refusal.Batch (place e)))
fault_from (suc d) s e =
    pick (is_edge (get_or s (place e) 0))
    (pick (in_order s e) (fault_from d s (e + 1)) (Err (Refusal.Unordered (place e))))
    (Err (Refusal.Batch (place e)))

-- a whole heading of direction 0 or 1 stands first
unfoldable pub headed : List ℕ → Bool
headed s = leb heading_size (length s) && (eqb (get_or s 0 0) 3 && leb (get_or s 1 0) 1)

unfoldable pub batch_check : List ℕ → Check
batch_check s = pick (headed s) (fault_from (record_count s) s 0) (Err (Refusal.Batch 0))
