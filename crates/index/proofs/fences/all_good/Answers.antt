-- `fences::all_good` meets its contract. Invariant: what is left to check from i on gives the whole.
use mathlib.Core.Path.{◌∙◌, sym}
use native.Mathlib.Omega.{arith}
use Rattle.index.specs.Cases.{fences_bad, fences_on, fences_none}
use Rattle.index.proofs.fences.all_good.Goals as goal

pub returns-then-not-fence_good : goal.returns-then-not-fence_good
returns-then-not-fence_good c =
    let a = c.args in
    let l = c.loop-i in
    let e = sym c.fence_good.ensures ∙ c.if-not-fence_good.true in
    sym (fences_bad a.x.now a.keys.now a.stride a.count l.i (omega arith) e) ∙ l.invariant

pub loop-i-preserved : goal.loop-i-preserved
loop-i-preserved c =
    let a = c.args in
    let l = c.loop-i in
    let e = sym c.fence_good.ensures ∙ c.if-not-fence_good.false in
    sym (fences_on a.x.now a.keys.now a.stride a.count l.i (omega arith) e) ∙ l.invariant

pub returns : goal.returns
returns c =
    let a = c.args in
    let l = c.loop-i in
    sym (fences_none a.x.now a.keys.now a.stride a.count l.i (omega arith)) ∙ l.invariant
