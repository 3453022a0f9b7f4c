-- `readout::group_edges::put_edges` meets its contract. Invariant: `Giving`, of the edges that are still to be written.
use mathlib.Core.Path.{sym, ◌∙◌}
use Rattle.readout.specs.Edges.Laws.{giving_room, giving_on, giving_not_bad, giving_end}
use native.Mathlib.Omega.{arith}
use Rattle.readout.proofs.group_edges.put_edges.Goals as goal

pub put_edge-requires : goal.put_edge-requires
put_edge-requires c = let a = c.args in
    let l = c.loop-k in
    giving_room a.dense a.g.now a.at a.d a.key a.logs.now a.dead.now a.first a.out.now l.out l.i l.k l.hi l.invariant (omega arith) _ _ (sym c.step_at.ensures ∙ c.in-Ok.is) c.requires.room

pub loop-k-preserved : goal.loop-k-preserved
loop-k-preserved c = let a = c.args in
    let l = c.loop-k in
    giving_on a.dense a.g.now a.at a.d a.key a.logs.now a.dead.now a.first a.out.now l.out l.i l.k l.hi l.invariant (omega arith) _ _ (sym c.step_at.ensures ∙ c.in-Ok.is) c.edge_with-e.ensures c.put_edge.ensures

pub returns-in_default : goal.returns-in_default
returns-in_default c = let a = c.args in
    let l = c.loop-k in
    absurd (giving_not_bad a.dense a.g.now a.at a.d a.key a.logs.now a.dead.now a.first a.out.now l.out l.i l.k l.hi l.invariant (omega arith) _ (sym c.step_at.ensures ∙ c.in_default.is))

pub returns : goal.returns
returns c = let a = c.args in
    let l = c.loop-k in
    giving_end a.dense a.g.now a.at a.d a.key a.logs.now a.dead.now a.first a.out.now l.out l.i l.k l.hi l.invariant (omega arith)
