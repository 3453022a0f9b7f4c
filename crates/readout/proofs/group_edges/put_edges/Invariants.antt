-- `readout::group_edges::put_edges` meets its contract. Invariant: `Giving`, of the edges that are still to be written.
use Rattle.readout.specs.Edges.Laws.{Giving}
use Rattle.readout.proofs.group_edges.put_edges.Given as goal

abbrev pub invariant-loop-k : goal.invariant-loop-k
invariant-loop-k l = Giving l.dense l.g l.at l.d l.key l.logs l.dead l.first l.initial.out l.out l.i l.k l.hi
