use Prim.Native.Nat.{ℕ, ◌-◌, ◌≤◌}
use mathlib.Core.List.{List}
use Rattle.batch.specs.Batch.{partners_in, edges_of}
use Rattle.base.specs.Over.{part}
use Rattle.base.specs.Put.{Left}
use Rattle.batch.specs.declared.Edge.{Edge}
use Rattle.group.specs.Group.{bytes_of}
use Rattle.write_group.proofs.put_dense.Given as goal

pub record Head (es : List Edge) (i j : ℕ) (o : List ℕ) (at : ℕ) (out : List ℕ) (k to : ℕ) : Type 0 where
  pub from : i ≤ k
  pub upto : k ≤ j
  pub left : Left out to (bytes_of (partners_in (part es k j))) o at (bytes_of (partners_in (part es i j)))

abbrev pub invariant-loop-k : goal.invariant-loop-k
invariant-loop-k l = Head (edges_of l.batch) l.i l.j l.initial.out l.at l.out l.k l.to
