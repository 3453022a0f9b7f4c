use native.Mathlib.Omega.{arith}
use Rattle.write_frame.specs.Runs.{row_parts}
use Rattle.write_frame.proofs.put_row.Goals as goal

pub overflow_add-at-4 : goal.overflow_add-at-4
overflow_add-at-4 c = omega (arith, c.requires.1)

pub overflow_add-at-5 : goal.overflow_add-at-5
overflow_add-at-5 c = omega (arith, c.requires.1)

pub put_le-requires-6 : goal.put_le-requires-6
put_le-requires-6 c = omega (arith, c.requires.0)

pub overflow_add-result : goal.overflow_add-result
overflow_add-result c = omega (arith, c.requires.1)

pub returns : goal.returns
returns c = let a = c.args in row_parts a.out.now a.at a.r c.put_le.ensures c.put_le-2.ensures c.put_le-3.ensures c.put_le-4.ensures c.put_le-5.ensures c.put_le-6.ensures
