-- `test_print::print_named` meets its contract: the room is enough for the batch of a small file.
use native.Mathlib.Omega.{arith}
use lib.ListN.{length}
use Rattle.printing.proofs.Laws.Printed.{small_enough}
use Rattle.test_print.proofs.print_named.Goals as goal

pub print_file-requires : goal.print_file-requires
print_file-requires c = let p = c in (small_enough p.args.file.now (length p.args.room.now) p.requires.0 p.requires.1, omega arith)
