-- What the writer answers and leaves: "Writer: first faulty record, then 26, then 20."
use Rattle.std.specs.Prelude.{◌≡◌, ℕ, List, length, leb, Result, Ok, Err}
use Rattle.base.specs.Pick.{pick}
use Rattle.base.specs.Over.{over}
use Rattle.refusal.specs.declared.Refusal.{Refusal}
use Rattle.refusal.specs.Check.{◌⊳◌, refuse, Check}
use Rattle.batch.specs.Batch.{heading_of, edges_of, batch_check}
use Rattle.write_image.specs.Image.{file_of}
use Rattle.write_plan.specs.Bounds.{too_many}
pub mod Laws

-- the file of a batch
abbrev pub file_in : List ℕ → List ℕ
file_in s = file_of (heading_of s) (edges_of s)

-- its size where nothing is refused
unfoldable pub written_answer : Check → ℕ → Result ℕ Refusal
written_answer (Ok _) size = Ok size
written_answer (Err r) size = Err r

-- "first faulty record, then 26", "more keys, edges or file bytes than the bounds"
unfoldable pub needed_check : List ℕ → Check
needed_check s = batch_check s ⊳ refuse Refusal.Bounds (too_many (heading_of s) (edges_of s))

-- how many bytes a file of this batch takes
unfoldable pub needed_of : List ℕ → Result ℕ Refusal
needed_of s = written_answer (needed_check s) (length (file_in s))

-- "then 20", "output too short": the place is the bytes needed
abbrev pub fitted : (Result ℕ Refusal) → ℕ → Result ℕ Refusal
fitted (Ok size) room = pick (leb size room) (Ok size) (Err (Refusal.Room size))
fitted (Err r) room = Err r

unfoldable pub written_of : List ℕ → ℕ → Result ℕ Refusal
written_of s room = fitted (needed_of s) room

-- the file over the output, or the output as it was
unfoldable pub write_leaves : (Result ℕ Refusal) → List ℕ → List ℕ → List ℕ
write_leaves (Ok size) file o = over file o
write_leaves (Err r) file o = o

pub record Wrote (s o : List ℕ) (r : Result ℕ Refusal) (o' : List ℕ) : Type 0 where
  pub answer : r ≡ written_of s (length o)
  pub output : o' ≡ write_leaves (written_of s (length o)) (file_in s) o
