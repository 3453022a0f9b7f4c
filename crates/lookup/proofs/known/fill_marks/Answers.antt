-- `lookup::known::fill_marks` meets its contract. Invariant: what is still to be written, written over what is there, is the whole.
use mathlib.Core.Path.{sym, ◌∙◌}
use Rattle.base.specs.Over.{sets_over}
use Rattle.lookup.specs.Lookup.{marks_from}
use Rattle.lookup.proofs.Laws.Lookup.{marks_on, marks_none, length_marks}
use native.Mathlib.Omega.{arith}
use Rattle.lookup.proofs.known.fill_marks.Goals as goal

pub loop-j-preserved : goal.loop-j-preserved
loop-j-preserved c = let a = c.args in let l = c.loop-j in sym (marks_on a.s.now a.first a.d l.j l.out _ (omega arith) c.mark_at.ensures) ∙ l.invariant

pub returns : goal.returns
returns c =
    let a = c.args in
    let l = c.loop-j in
    let z = marks_none a.s.now a.first a.d l.j (omega arith) in
    (rw z at l.invariant) ∙ sets_over (marks_from a.d a.s.now a.first) a.out.now (rw length_marks (omega arith))
