use mathlib.Core.Path.{◌≡◌}
use Prim.Native.Nat.{◌-◌, ◌<◌}
use lib.ListN.{get_or}
use Rattle.batch_groups.specs.Groups.{none}
use Rattle.batch.specs.Batch.{edges_of}
use Rattle.write_group.specs.Span.{Going}
use Rattle.write_group.proofs.span_at.Given as goal

abbrev pub invariant-loop-j : goal.invariant-loop-j
invariant-loop-j l = (l.i < l.j) × (l.key ≡ (get_or (edges_of l.batch) l.i none).key) × Going (edges_of l.batch) l.i l.j l.hi l.cost
