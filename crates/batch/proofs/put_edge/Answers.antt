use native.Mathlib.Omega.{arith}
use lib.ListN.{length-set}
use lib.Seq.{length-sets}
use Rattle.batch.specs.Batch.Laws.{record_parts}
use Rattle.batch.proofs.put_edge.Goals as goal

-- src/lib.rt:71:5
pub put_id-requires : goal.put_id-requires
put_id-requires c = simp length-set (omega arith)

-- src/lib.rt:72:5
pub put_id-requires-2 : goal.put_id-requires-2
put_id-requires-2 c = simp (c.put_id.ensures, length-sets, length-set) (omega arith)

-- src/lib.rt:73:5
pub put_le-requires : goal.put_le-requires
put_le-requires c = simp (c.put_id-2.ensures, c.put_id.ensures, length-sets, length-set) (omega arith)

-- src/lib.rt:64:1
pub shape_of-out : goal.shape_of-out
shape_of-out c = simp (c.put_le.ensures, c.put_id-2.ensures, c.put_id.ensures, length-sets, length-set)

-- src/lib.rt:64:1
pub returns : goal.returns
returns c =
    let a = c.args in
    cc (record_parts a.out.now a.at a.e)
