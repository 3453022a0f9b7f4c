-- `readout::group_edges::dense_step` meets its contract.
use mathlib.Core.Path.{sym, ap, ◌∙◌}
use Prim.Native.Nat.{◌+◌, ◌<◌}
use lib.ListN.{length}
use Rattle.std.specs.Prelude.{Ok, Err}
use Rattle.codes.specs.declared.ids.Id.{Id}
use Rattle.group.proofs.Laws.Group.{dense_short, dense_good}
use native.Mathlib.Omega.{arith}
use Rattle.readout.proofs.group_edges.dense_step.Goals as goal

pub returns-then-g-lt-DENSE : goal.returns-then-g-lt-DENSE
returns-then-g-lt-DENSE c =
    let a = c.args in
    let few : length a.g.now < a.i + 16 = grind arith in
    ap Err c.at.ensures ∙ sym (dense_short a.g.now a.i few)

pub returns : goal.returns
returns c = let a = c.args in
    ap (λ (x : Id). Ok (x, a.i + 16)) c.id_at.ensures ∙ sym (dense_good a.g.now a.i (omega arith))
