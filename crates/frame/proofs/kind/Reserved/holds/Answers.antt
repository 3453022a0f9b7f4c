use borrow.Author.Tests.{le-leb, lt-leb}
use native.Mathlib.Omega.{arith}
use Rattle.frame.proofs.kind.Reserved.holds.Goals as goal

pub returns-then-k-lt-FIRST : goal.returns-then-k-lt-FIRST
returns-then-k-lt-FIRST c = rw (lt-leb 7 c.args.k (omega arith))

pub returns : goal.returns
returns c = rw (le-leb 7 c.args.k (omega arith))
