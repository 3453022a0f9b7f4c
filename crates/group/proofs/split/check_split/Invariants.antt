-- `group::split::check_split` meets its contract. Invariant: k partners were good, and what is left gives the whole answer.
use mathlib.Core.Bool.{false}
use Rattle.group.specs.Group.{floor_of}
use Rattle.group.proofs.Laws.Group.{Checked}
use Rattle.group.proofs.split.check_split.Given as goal

abbrev pub invariant-loop-k : goal.invariant-loop-k
invariant-loop-k l = Checked false l.g l.at l.degree l.i l.k l.last.hi (floor_of l.k l.last)
