-- `codes::ids::put_be` meets its contract. Invariant: what is still to be written, written over what is there, is the whole.
use mathlib.Core.Path.{◌≡◌, ◌∙◌, sym, refl}
use Prim.Native.Nat.{◌-◌, ◌+◌}
use native.Mathlib.Nat.{sub-zero}
use native.Mathlib.Omega.{arith}
use lib.ListN.{length-set}
use Rattle.codes.specs.Ids.Laws.{be_bytes_zero, put_down}
use Rattle.codes.proofs.ids.put_be.Goals as goal

pub loop-k-init : goal.loop-k-init
loop-k-init c = (omega arith, refl, rw sub-zero)

pub loop-k-preserved : goal.loop-k-preserved
loop-k-preserved c =
    let a = c.args in
    let l = c.loop-k in
    let less : a.n - (l.k + 1) ≡ a.n - l.k - 1 = omega arith in
    let place : a.n - 1 - l.k ≡ a.n - l.k - 1 = omega arith in
    (omega arith, rw length-set (omega arith), rw (less, place) (sym (put_down l.out a.at (a.n - l.k) l.y (omega arith)) ∙ l.invariant.2))

pub returns : goal.returns
returns c =
    let l = c.loop-k in
    let z : c.args.n - l.k ≡ 0 = omega arith in
    (rw (z, be_bytes_zero) at l.invariant.2)
