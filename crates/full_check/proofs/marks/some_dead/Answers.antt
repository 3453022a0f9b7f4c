-- `marks::some_dead` meets its contract. Invariant: one of the edges left is dead exactly if one of all is.
use mathlib.Core.Path.{ap₂}
use Prim.Native.Nat.{ℕ}
use native.Mathlib.Nat.{sub-zero, add-zero}
use Rattle.full_check.specs.Full.{dead_from}
use Rattle.full_check.specs.Marks.{marks_some, marks_on, marks_end}
use native.Mathlib.Omega.{arith}
use Rattle.full_check.proofs.marks.some_dead.Goals as goal

pub loop-j-init : goal.loop-j-init
loop-j-init c = let a = c.args in ap₂ (λ (x y : ℕ). dead_from x a.s.now y) (sub-zero a.d) (add-zero a.e)

pub returns-then-mark_at-eq1 : goal.returns-then-mark_at-eq1
returns-then-mark_at-eq1 c = let a = c.args in let l = c.loop-j in marks_some a.s.now a.e a.d l.j l.invariant (omega arith) c.mark_at.ensures (omega arith)

pub loop-j-preserved : goal.loop-j-preserved
loop-j-preserved c = let a = c.args in let l = c.loop-j in marks_on a.s.now a.e a.d l.j l.invariant (omega arith) c.mark_at.ensures (λ q. omega arith)

pub returns : goal.returns
returns c = let a = c.args in let l = c.loop-j in marks_end a.s.now a.e a.d l.j l.invariant (omega arith)
