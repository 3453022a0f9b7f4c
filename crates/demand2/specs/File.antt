-- The writer's file: it opens to what was written, passes the full check, and reads out to the same batch.
use Rattle.std.specs.Prelude.{◌≡◌, ℕ, ◌/◌, ◌%◌, ◌≤◌, Bool}
use mathlib.Core.List.{List}
use Rattle.std.proofs.Math.Bool.{false}
use Rattle.std.proofs.Math.ListN.{length}
use Rattle.frame.specs.Kind as kind
use Rattle.frame.specs.Frame.{flag}
use Rattle.batch.specs.declared.Edge.{Edge}
use Rattle.batch.specs.Batch.{Heading}
use Rattle.batch_groups.specs.Groups.{groups_of, Grouped}
use Rattle.write_image.specs.Image.{file_of}

pub record Flags (direction : ℕ) (dense dead : Bool) (flags : ℕ) : Type 0 where
  pub few : flags ≤ 15
  pub properties : flag 0 flags ≡ false
  pub marked : flag 1 flags ≡ dead
  pub thick : flag 2 flags ≡ dense
  pub way : flags / 8 % 2 ≡ direction

-- ---- the file of a heading and edges

pub record WrittenFile (h : Heading) (es : List Edge) : Type 0 where
  pub way : h.direction ≤ 1
  pub ids : length h.ids ≡ 48
  pub order : Grouped 0 (groups_of es)
  pub keys : length (groups_of es) ≤ kind.most_keys
  pub edges : length es ≤ kind.most_edges
  pub size : length (file_of h es) ≤ kind.most_bytes
