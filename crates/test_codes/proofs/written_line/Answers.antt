-- `test_codes::written_line` meets its contract.
use mathlib.Core.Path.{ap}
use native.Mathlib.Omega.{arith}
use lib.ListN.{length}
use lib.Seq.{length-sets}
use Rattle.codes.specs.Varint.Laws.{var_bytes_length}
use Rattle.test_codes.proofs.written_line.Goals as goal

pub put_varint-n-requires : goal.put_varint-n-requires
put_varint-n-requires c = omega (arith, var_bytes_length c.le-x.result)

pub slice_bounds-hex_bytes-end : goal.slice_bounds-hex_bytes-end
slice_bounds-hex_bytes-end c =
    let n = var_bytes_length c.le-x.result in
    let p = c.put_varint-n.ensures in
    let e = p.place in
    let s = simp length-sets at (ap length p.bytes) in
    omega arith
