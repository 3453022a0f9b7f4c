-- `printing::print_batch` meets its contract: each page is a part of what is printed, and the next goes on where it ended.
use mathlib.Core.Path.{◌≡◌}
use Prim.Native.Nat.{◌-◌, ◌≤◌}
use lib.ListN.{length}
use Rattle.printing.proofs.print_batch.Given as goal

abbrev pub invariant-loop-next : goal.invariant-loop-next
invariant-loop-next l = (l.next ≤ l.lines) × (length l.out ≡ length l.initial.out)

abbrev pub decreases-loop-next : goal.decreases-loop-next
decreases-loop-next l = l.lines - l.next
