use mathlib.Core.Path.{sym}
use native.Mathlib.Omega.{arith}
use Rattle.write_image.specs.Image.Laws.{width_small, width_large}
use Rattle.write_plan.proofs.width_of.Goals as goal

pub returns-then-bytes-lt-NARROW : goal.returns-then-bytes-lt-NARROW
returns-then-bytes-lt-NARROW c = (sym (width_small c.args.bytes c.if-bytes-lt-NARROW.true), omega arith)

pub returns-else-bytes-lt-NARROW : goal.returns-else-bytes-lt-NARROW
returns-else-bytes-lt-NARROW c = (sym (width_large c.args.bytes (omega arith)), omega arith)
