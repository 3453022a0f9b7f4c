-- `codes::little::put_le` meets its contract. Invariant: what is still to be written, written over what is there, is the whole.
use mathlib.Core.Path.{◌≡◌, ◌∙◌, sym}
use Prim.Native.Nat.{◌-◌}
use native.Mathlib.Omega.{arith}
use native.Mathlib.Nat.{add-zero, sub-zero}
use lib.ListN.{length-set}
use Rattle.codes.specs.Little.Laws.{le_bytes_zero, le_bytes_put}
use Rattle.codes.proofs.little.put_le.Goals as goal

pub loop-k-init : goal.loop-k-init
loop-k-init c = (omega arith, omega arith, rw (add-zero, sub-zero))

pub loop-k-preserved : goal.loop-k-preserved
loop-k-preserved c =
    let a = c.args in
    let l = c.loop-k in
    (omega arith, rw length-set (omega arith), sym (le_bytes_put l.out a.at a.n l.k l.y (omega arith)) ∙ l.invariant.2)

pub returns : goal.returns
returns c =
    let a = c.args in
    let l = c.loop-k in
    let z : a.n - l.k ≡ 0 = omega arith in
    (rw (z, le_bytes_zero) at l.invariant.2)
