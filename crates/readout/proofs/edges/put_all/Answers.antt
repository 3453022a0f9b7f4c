-- `readout::edges::put_all` meets its contract. Invariant: `Reading`, of the groups whose edges are still to be written.
use Prim.Native.Nat.{◌+◌}
use Rattle.readout.specs.Edges.Laws.{reading_good, reading_few, reading_room, reading_on, reading_end}
use native.Mathlib.Omega.{arith}
use borrow.Author.Rules.{rules}
use mathlib.Core.Path.{◌≡◌}
use Rattle.frame.specs.Open.{offset_at}
use Rattle.readout.proofs.edges.put_all.Goals as goal

pub put_group_edges-first-requires : goal.put_group_edges-first-requires
put_group_edges-first-requires c = let a = c.args in
    let l = c.loop-i in
    let r = c.requires.0 in
    let edges = r.edges in
    let logs = r.logbytes in
    let q : c.offset_at-e.result ≡ offset_at a.offs.now a.w (l.i + 1) = search rules in
    let few = reading_few a.keys.now a.partners.now a.offs.now a.w a.logs.now a.dead.now a.n a.out.now l.out l.i l.a l.first l.invariant (omega arith) q in
    record { good = reading_good a.keys.now a.partners.now a.offs.now a.w a.logs.now a.dead.now a.n a.out.now l.out l.i l.a l.first l.invariant (omega arith) q; bound = omega arith; numbers = omega arith; room = reading_room a.keys.now a.partners.now a.offs.now a.w a.logs.now a.dead.now a.n a.out.now l.out l.i l.a l.first l.invariant (omega arith) q c.key_at-key.ensures c.requires.1 }

pub loop-i-preserved : goal.loop-i-preserved
loop-i-preserved c = let a = c.args in
    let l = c.loop-i in
    reading_on a.keys.now a.partners.now a.offs.now a.w a.logs.now a.dead.now a.n a.out.now l.out l.i l.a l.first l.invariant (omega arith) (search rules) c.key_at-key.ensures c.put_group_edges-first.ensures.0 c.put_group_edges-first.ensures.1

pub returns : goal.returns
returns c = let a = c.args in
    let l = c.loop-i in
    reading_end a.keys.now a.partners.now a.offs.now a.w a.logs.now a.dead.now a.n a.out.now l.out l.i l.a l.first l.invariant (omega arith)
