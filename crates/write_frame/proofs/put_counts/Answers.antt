use native.Mathlib.Omega.{arith}
use Rattle.write_frame.specs.Runs.{count_parts}
use Rattle.write_frame.proofs.put_counts.Goals as goal

pub returns : goal.returns
returns c = let a = c.args in count_parts a.out.now a.at a.keys a.edges a.bits (omega arith) c.put_le.ensures c.put_le-2.ensures c.put_le-3.ensures
