-- `fences::fence_good` meets its contract.
use mathlib.Core.Path.{ap}
use Prim.Native.Nat.{ℕ, ◌+◌, ◌*◌}
use lib.Dec.{eqb}
use Rattle.frame.specs.Open.{fence_good}
use Rattle.index.specs.Compare.{eqb_read}
use Rattle.index.proofs.fences.fence_good.Goals as goal

pub returns-then-same_id : goal.returns-then-same_id
unfolding fence_good
returns-then-same_id c =
    let a = c.args in
    let e = eqb_read a.x.now (8 + 24 * a.i) c.id_at.ensures a.keys.now (a.i * a.stride * 16) c.key_at.ensures c.same_id.ensures c.if-same_id.true in
    rw e (ap (λ (v : ℕ). eqb v (16 * (a.i * a.stride))) c.le.ensures.value)

pub returns-else-same_id : goal.returns-else-same_id
unfolding fence_good
returns-else-same_id c =
    let a = c.args in
    let e = eqb_read a.x.now (8 + 24 * a.i) c.id_at.ensures a.keys.now (a.i * a.stride * 16) c.key_at.ensures c.same_id.ensures c.if-same_id.false in
    rw e c.if-same_id.false
