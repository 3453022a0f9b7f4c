-- What the writer's C calls tell of the library's answers.
use Rattle.std.specs.Prelude.{◌≡◌, ℕ, List, length}
use Rattle.write_file.specs.Written.{write_leaves, written_of, file_in}
use Rattle.edge_sst_c.specs.declared.desk.EdgeSstDone.{EdgeSstDone}
use Rattle.edge_sst_c.specs.Desk.{done_told}

-- what a call of the writer tells and leaves
pub record WroteTold (s o : List ℕ) (r : EdgeSstDone) (out : List ℕ) : Type 0 where
  pub answer : r ≡ done_told (written_of s (length o))
  pub output : out ≡ write_leaves (written_of s (length o)) (file_in s) o
