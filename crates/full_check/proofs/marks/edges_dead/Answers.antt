-- `marks::edges_dead` meets its contract.
use mathlib.Core.Path.{sym, ◌∙◌}
use Rattle.full_check.specs.Marks.{parts_some, parts_rest}
use Rattle.full_check.proofs.marks.edges_dead.Goals as goal

pub returns-then-bytes_dead : goal.returns-then-bytes_dead
returns-then-bytes_dead c = let a = c.args in c.if-bytes_dead.true ∙ parts_some a.s.now a.n c.bytes_dead.ensures c.if-bytes_dead.true

pub returns-else-bytes_dead : goal.returns-else-bytes_dead
returns-else-bytes_dead c = let a = c.args in parts_rest a.s.now a.n c.bytes_dead.ensures c.if-bytes_dead.false c.some_dead.ensures
