-- `edge_sst::printed` meets its contract: the room is enough for the batch of a small file.
use native.Mathlib.Omega.{arith}
use Rattle.printing.proofs.Laws.Printed.{small_enough}
use Rattle.edge_sst.proofs.printed.Goals as goal

pub print_file-requires : goal.print_file-requires
print_file-requires c = let f = c.args.file.now in (small_enough f _ (omega arith) (omega arith), omega arith)
