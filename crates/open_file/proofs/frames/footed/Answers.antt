-- `frames::footed` meets its contract.
use mathlib.Core.Path.{ap}
use lib.ListN.{length}
use Rattle.frame.proofs.Laws.Open.{body_length}
use native.Mathlib.Omega.{arith}
use Rattle.open_file.proofs.frames.footed.Goals as goal

pub rows_framing-requires : goal.rows_framing-requires
rows_framing-requires c =
    let e = ap length c.body_of.ensures in
    let l = body_length c.args.t.now (omega arith) (omega arith) in
    (omega arith, omega arith)
