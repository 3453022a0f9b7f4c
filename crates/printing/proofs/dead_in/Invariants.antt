-- `printing::dead_in` meets its contract. Invariant: the dead so far and those of the edges that are left are all of them.
use Rattle.std.specs.Prelude.{◌≡◌, ◌+◌, ◌-◌, ◌≤◌}
use Rattle.batch.specs.Batch.{edges_at, edges_of}
use Rattle.printing.specs.Printed.{dead_in}
use Rattle.printing.proofs.dead_in.Given as goal

abbrev pub invariant-loop-k : goal.invariant-loop-k
invariant-loop-k l = (l.dead ≤ l.k) × (l.dead + dead_in (edges_at (l.edges - l.k) l.batch l.k) ≡ dead_in (edges_of l.batch))
