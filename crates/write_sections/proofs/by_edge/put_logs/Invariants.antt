use Prim.Native.Nat.{ℕ, ◌-◌, ◌≤◌}
use mathlib.Core.List.{List}
use Rattle.base.specs.Over.{part}
use Rattle.base.specs.Put.{Left}
use Rattle.batch.specs.declared.Edge.{Edge}
use Rattle.write_image.specs.Image.{log_bytes}
use Rattle.batch.specs.Batch.{edges_of}
use Rattle.write_sections.proofs.by_edge.put_logs.Given as goal

pub record Head (es : List Edge) (i j : ℕ) (o : List ℕ) (at : ℕ) (out : List ℕ) (k to : ℕ) : Type 0 where
  pub upto : k ≤ j
  pub left : Left out to (log_bytes (part es k j)) o at (log_bytes (part es i j))

abbrev pub invariant-loop-k : goal.invariant-loop-k
invariant-loop-k l = Head (edges_of l.batch) l.i l.j l.initial.out l.at l.out l.k l.to
