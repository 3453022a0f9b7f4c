-- `lookup::known::fill_logs` meets its contract. Invariant: what is still to be written, written over what is there, is the whole.
use mathlib.Core.Path.{sym, ◌∙◌}
use Rattle.base.specs.Over.{sets_over}
use Rattle.lookup.specs.Lookup.{logs_from}
use Rattle.lookup.proofs.Laws.Lookup.{logs_on, logs_none, length_logs}
use native.Mathlib.Omega.{arith}
use Rattle.lookup.proofs.known.fill_logs.Goals as goal

pub loop-j-preserved : goal.loop-j-preserved
loop-j-preserved c = let a = c.args in let l = c.loop-j in sym (logs_on a.s.now a.first a.d l.j l.out _ (omega arith) c.le.ensures.value) ∙ l.invariant

pub returns : goal.returns
returns c =
    let a = c.args in
    let l = c.loop-j in
    let z = logs_none a.s.now a.first a.d l.j (omega arith) in
    (rw z at l.invariant) ∙ sets_over (logs_from a.d a.s.now a.first) a.out.now (rw length_logs (omega arith))
