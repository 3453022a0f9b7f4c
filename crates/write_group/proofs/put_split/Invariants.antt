use Prim.Native.Nat.{ℕ, ◌-◌, ◌≤◌}
use mathlib.Core.List.{List}
use Rattle.batch.specs.Batch.{partners_in, edges_of}
use Rattle.base.specs.Over.{part}
use Rattle.base.specs.Put.{Left}
use Rattle.batch.specs.declared.Edge.{Edge}
use Rattle.group.specs.Written.{split_from}
use Rattle.write_image.specs.Image.Laws.{Rise}
use Rattle.write_group.proofs.put_split.Given as goal

pub record Head (es : List Edge) (i j : ℕ) (o : List ℕ) (at : ℕ) (out : List ℕ) (k to hi : ℕ) : Type 0 where
  pub from : i ≤ k
  pub upto : k ≤ j
  pub rise : Rise hi (partners_in (part es k j))
  pub left : Left out to (split_from hi (partners_in (part es k j))) o at (split_from 0 (partners_in (part es i j)))

abbrev pub invariant-loop-k : goal.invariant-loop-k
invariant-loop-k l = Head (edges_of l.batch) l.i l.j l.initial.out l.at l.out l.k l.to l.hi
