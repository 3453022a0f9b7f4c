use Rattle.std.proofs.Common.{List, ℕ, ◌+◌, ap, ◌∙◌, get_or, set, arith}
use Rattle.std.proofs.lemmas.List.Edits.{sets}
use lib.Seq.{take_all}
use Rattle.xxh3_running.proofs.Steps.{put_step}
use Rattle.xxh3_running.proofs.lent.put.Goals as goal

pub loop-i-preserved : goal.loop-i-preserved
loop-i-preserved c =
    let a = c.args in
    let i = c.loop-i.i in
    ap (λ (l : List ℕ). set l (a.at + i) (get_or a.s.now i 0)) c.loop-i.invariant ∙ put_step a.s.now a.buffer.now a.at i c.loop-i-test.true

pub returns : goal.returns
returns c =
    let a = c.args in
    c.loop-i.invariant ∙ ap (sets a.buffer.now a.at) (take_all c.loop-i.i a.s.now (omega arith))
