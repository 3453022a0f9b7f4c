-- `rows::section_at` meets its contract.
use mathlib.Core.Path.{ap}
use lib.ListN.{length}
use Rattle.frame.proofs.Laws.Open.{body_length}
use native.Mathlib.Omega.{arith}
use Rattle.reader.proofs.rows.section_at.Goals as goal

pub row_in-requires : goal.row_in-requires
row_in-requires c =
    let e = ap length c.body_of.ensures in
    let l = body_length c.args.file.now (omega arith) (omega arith) in
    (omega arith, omega arith, omega arith)
