-- `test_print::main` meets its contract.
use native.Mathlib.Omega.{arith}
use Rattle.test_print.proofs.main.Goals as goal

pub corpus-requires : goal.corpus-requires
corpus-requires c = (omega arith, omega arith, omega arith)
