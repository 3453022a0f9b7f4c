-- `summary::logs::sign` meets its contract.
use Rattle.std.proofs.Common.{ℕ, ◌+◌, ◌-◌, ◌^◌, ◌%◌, arith}
use Rattle.summary.proofs.Laws.Logs.{narrow_sure, wide_sure}
use Rattle.summary.proofs.logs.sign.Goals as goal

-- x less y, modulo 2^64
abbrev less : ℕ → ℕ → ℕ
less x y = (x + (2 ^ 64 - y)) % 2 ^ 64

pub returns-then-this-lt-TOP : goal.returns-then-this-lt-TOP
returns-then-this-lt-TOP g c = let s = c.args.s in
    let x = c.args.x in
    narrow_sure s x (less x s.smallest) (less s.largest x) (omega arith) (omega arith) (omega arith) (omega arith) (omega arith) (omega arith)

pub returns : goal.returns
returns g c = let s = c.args.s in
    let x = c.args.x in
    wide_sure s x (less x s.smallest) (less s.largest x) (omega arith) (omega arith) (omega arith) (omega arith) (omega arith) (omega arith) (omega arith) (omega arith)
