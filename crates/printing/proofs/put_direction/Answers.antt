-- `printing::put_direction` meets its contract.
use Rattle.std.proofs.Common.{eq-eqb, ne_eqb}
use Rattle.printing.proofs.put_direction.Goals as goal

pub put_labelled-requires : goal.put_labelled-requires
put_labelled-requires c = rw (eq-eqb c.args.direction 1 c.if-direction-eq1.true) at c.requires

pub returns-then-direction-eq1 : goal.returns-then-direction-eq1
returns-then-direction-eq1 c = rw (eq-eqb c.args.direction 1 c.if-direction-eq1.true) c.put_labelled.ensures

pub put_labelled-requires-2 : goal.put_labelled-requires-2
put_labelled-requires-2 c = rw (ne_eqb c.args.direction 1 c.if-direction-eq1.false) at c.requires

pub returns : goal.returns
returns c = rw (ne_eqb c.args.direction 1 c.if-direction-eq1.false) c.put_labelled-2.ensures
