use Rattle.std.proofs.Common.{◌≡◌, ◌∙◌, length, length-set, sym, arith}
use Rattle.xxh3_running.proofs.Steps.{same_step, same_all}
use Rattle.xxh3_running.specs.Running.{last_bytes}
use Rattle.xxh3_running.proofs.Laws.Running.{last_at, length_last}
use Rattle.xxh3_running.proofs.lent.last_bytes.Goals as goal

pub loop-i-preserved : goal.loop-i-preserved
loop-i-preserved c =
    let a = c.args in
    let z = c.loop-i.invariant in
    let n : length a.buffer.now ≡ 256 = c.requires in
    let i = c.loop-i.i in
    let m = length_last a.total a.buffer.now n in
    (length-set c.loop-i.last i _ ∙ z.0, same_step c.loop-i.last (last_bytes a.total a.buffer.now) i _ (omega arith) (omega arith) z.1 (sym (last_at a.total a.buffer.now i n (omega arith))))

pub returns : goal.returns
returns c =
    let a = c.args in
    let z = c.loop-i.invariant in
    let n : length a.buffer.now ≡ 256 = c.requires in
    let m = length_last a.total a.buffer.now n in
    let all : c.loop-i.i ≡ 64 = omega arith in
    same_all 64 c.loop-i.last (last_bytes a.total a.buffer.now) (omega arith) (omega arith) (rw all at z.1)
