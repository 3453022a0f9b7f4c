-- `printing::put_life` meets its contract.
use Rattle.printing.proofs.put_life.Goals as goal

pub put_word-requires : goal.put_word-requires
put_word-requires c = rw c.if-dead.true at c.requires

pub returns-then-dead : goal.returns-then-dead
returns-then-dead c = rw c.if-dead.true c.put_word.ensures

pub put_word-requires-2 : goal.put_word-requires-2
put_word-requires-2 c = rw c.if-dead.false at c.requires

pub returns : goal.returns
returns c = rw c.if-dead.false c.put_word-2.ensures
