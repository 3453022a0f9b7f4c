use mathlib.Core.Path.{◌≡◌}
use Prim.Native.Nat.{ℕ, ◌-◌, ◌≤◌}
use mathlib.Core.List.{List}
use lib.ListN.{drop}
use Rattle.batch.specs.Batch.{marks_in, edges_of}
use Rattle.batch.specs.declared.Edge.{Edge}
use Rattle.write_image.specs.Image.{octet}
use Rattle.write_sections.proofs.by_edge.octet_of.Given as goal

-- the marks from edge k on
pub record Head (es : List Edge) (i j k x : ℕ) : Type 0 where
  pub above : i ≤ k
  pub upto : k ≤ j
  pub marks : x ≡ octet (j - k) (marks_in (drop k es))

abbrev pub invariant-loop-k : goal.invariant-loop-k
invariant-loop-k l = Head (edges_of l.batch) l.i l.j l.k l.x
