use Prim.Native.Nat.{ℕ, ◌-◌, ◌≤◌}
use mathlib.Core.List.{List}
use lib.ListN.{length, drop}
use Rattle.base.specs.Put.{Left}
use Rattle.batch.specs.declared.Edge.{Edge}
use Rattle.batch_groups.specs.Groups.{groups_of}
use Rattle.write_image.specs.Image.{numbers, firsts_from, start_bytes}
use Rattle.batch.specs.Batch.{edges_of}
use Rattle.write_sections.proofs.starts.put_starts.Given as goal

pub record Head (es : List Edge) (o : List ℕ) (at : ℕ) (out : List ℕ) (i to : ℕ) : Type 0 where
  pub upto : i ≤ length es
  pub left : Left out to (numbers 8 (firsts_from i (groups_of (drop i es)))) o at (start_bytes (groups_of es))

abbrev pub invariant-loop-i : goal.invariant-loop-i
invariant-loop-i l = Head (edges_of l.batch) l.initial.out l.at l.out l.i l.to

abbrev pub decreases-loop-i : goal.decreases-loop-i
decreases-loop-i l = l.n - l.i
