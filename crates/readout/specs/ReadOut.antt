-- The read-out: "the full check", then 20 with the bytes needed, then the batch: heading and edges of the file.
use Rattle.std.specs.Prelude.{ℕ, ◌+◌, ◌*◌, List, length, ltb, Result, Ok, Err}
use Rattle.base.specs.Over.{part, over}
use Rattle.refusal.specs.declared.Refusal.{Refusal}
use Rattle.refusal.specs.Check.{◌⊳◌, refuse, Check}
use Rattle.frame.specs.Frame.{flags_of, direction_of, record_of}
use Rattle.frame.specs.Open.{known_of}
use Rattle.batch.specs.Batch.{Heading, batch_bytes, place}
use Rattle.full_check.specs.Full.{full_check}
use Rattle.readout.specs.Edges.{edges_in}
pub mod Laws

-- the direction is flag bit 3, "inverse file"; the three ids stand in the header as in the heading
unfoldable pub heading_in : List ℕ → Heading
heading_in f = record { direction = direction_of (flags_of f); ids = part f 16 64 }

unfoldable pub batch_in : List ℕ → List ℕ
batch_in f = batch_bytes (heading_in f) (edges_in (known_of f (record_of f)))

-- "bytes needed": the heading and a record for each edge
abbrev pub needed_for : List ℕ → ℕ
needed_for f = place (record_of f).edgecount

unfoldable pub read_check : List ℕ → ℕ → Check
read_check f room = full_check f ⊳ refuse (Refusal.Room (needed_for f)) (ltb room (needed_for f))

-- ---- what the call answers, and what it leaves in the output

unfoldable pub read_answer : Check → ℕ → Result ℕ Refusal
read_answer (Ok _) bytes = Ok bytes
read_answer (Err r) bytes = Err r

unfoldable pub read_leaves : Check → List ℕ → List ℕ → List ℕ
read_leaves (Ok _) batch out = over batch out
read_leaves (Err r) batch out = out

unfoldable pub read_out_of : List ℕ → ℕ → Result ℕ Refusal
read_out_of f room = read_answer (read_check f room) (needed_for f)

unfoldable pub read_out_leaves : List ℕ → List ℕ → List ℕ
read_out_leaves f out = read_leaves (read_check f (length out)) (batch_in f) out
