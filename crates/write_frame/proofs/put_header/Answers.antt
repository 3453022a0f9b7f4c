use native.Mathlib.Omega.{arith}
use Rattle.write_frame.specs.Runs.{head_parts}
use Rattle.write_frame.proofs.put_header.Goals as goal

pub returns : goal.returns
returns c = let a = c.args in head_parts a.out.now a.minor a.flags a.ids.now (omega arith) c.put_le.ensures c.put_le-2.ensures c.put_le-3.ensures c.put_le-4.ensures c.put_le-5.ensures c.put_words.ensures
