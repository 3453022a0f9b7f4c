use Rattle.std.proofs.Common.{◌≡◌, length, take}
use Rattle.xxh3_running.specs.Running.{last_bytes}
use Rattle.xxh3_running.proofs.lent.last_bytes.Given as goal

abbrev pub invariant-loop-i : goal.invariant-loop-i
invariant-loop-i l = (length l.last ≡ 64) × (take l.i l.last ≡ take l.i (last_bytes l.total l.buffer))
