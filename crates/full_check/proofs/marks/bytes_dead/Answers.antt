-- `marks::bytes_dead` meets its contract. Invariant: one of the edges left is dead exactly if one of all is.
use mathlib.Core.Path.{refl, ap}
use Prim.Native.Nat.{ℕ, ◌*◌}
use native.Mathlib.Nat.{sub-zero}
use Rattle.full_check.specs.Full.{dead_from}
use Rattle.full_check.specs.Marks.{bytes_some, bytes_on, bytes_end}
use native.Mathlib.Omega.{arith}
use Rattle.full_check.proofs.marks.bytes_dead.Goals as goal

pub loop-b-init : goal.loop-b-init
loop-b-init c = let a = c.args in ap (λ (x : ℕ). dead_from (8 * x) a.s.now 0) (sub-zero a.m)

pub returns-then-s-b-ne0 : goal.returns-then-s-b-ne0
returns-then-s-b-ne0 c = let a = c.args in let l = c.loop-b in bytes_some a.s.now a.m l.b l.invariant (omega arith) refl (omega (arith, c.type_inv.s l.b)) (λ q. omega arith)

pub loop-b-preserved : goal.loop-b-preserved
loop-b-preserved c = let a = c.args in let l = c.loop-b in bytes_on a.s.now a.m l.b l.invariant (omega arith) refl (omega arith)

pub returns : goal.returns
returns c = let a = c.args in let l = c.loop-b in bytes_end a.s.now a.m l.b l.invariant (omega arith)
