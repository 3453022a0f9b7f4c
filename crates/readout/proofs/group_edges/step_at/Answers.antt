-- `readout::group_edges::step_at` meets its contract.
use mathlib.Core.Path.{sym, ap, ◌∙◌}
use mathlib.Core.Bool.{Bool}
use Rattle.group.specs.Group.{step_at}
use Rattle.group.proofs.Laws.Group.{step_dense, step_split}
use Rattle.readout.proofs.group_edges.step_at.Goals as goal

pub returns-then-dense : goal.returns-then-dense
returns-then-dense c = let a = c.args in
    c.dense_step.ensures ∙ sym (step_dense a.g.now a.i a.hi) ∙ ap (λ (b : Bool). step_at b a.g.now a.i a.hi) (sym c.if-dense.true)

pub returns-else-dense : goal.returns-else-dense
returns-else-dense c = let a = c.args in
    c.split_step.ensures ∙ sym (step_split a.g.now a.i a.hi) ∙ ap (λ (b : Bool). step_at b a.g.now a.i a.hi) (sym c.if-dense.false)
