-- `readout::edges::put_all` meets its contract. Invariant: `Reading`, of the groups whose edges are still to be written.
use Rattle.readout.specs.Edges.Laws.{Reading}
use Rattle.readout.proofs.edges.put_all.Given as goal

abbrev pub invariant-loop-i : goal.invariant-loop-i
invariant-loop-i l = Reading l.keys l.partners l.offs l.w l.logs l.dead l.n l.initial.out l.out l.i l.a l.first
