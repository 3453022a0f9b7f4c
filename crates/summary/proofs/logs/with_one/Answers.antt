-- `summary::logs::with_one` meets its contract.
use Rattle.std.proofs.Common.{arith}
use Rattle.summary.proofs.Laws.Logs.{one_below, one_above, one_within}
use Rattle.summary.proofs.logs.with_one.Goals as goal

pub returns-then-x-s : goal.returns-then-x-s
returns-then-x-s c = let s = c in one_below s.args.s s.args.x s.requires (omega arith)

pub returns-then-s-x : goal.returns-then-s-x
returns-then-s-x c = let s = c in one_above s.args.s s.args.x s.requires (omega arith)

pub returns : goal.returns
returns c = let s = c in one_within s.args.s s.args.x s.requires (omega arith) (omega arith)
