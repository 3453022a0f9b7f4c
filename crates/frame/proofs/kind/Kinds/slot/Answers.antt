use borrow.Author.Tests.{ne_eqb}
use Rattle.frame.proofs.kind.Kinds.slot.Goals as goal

pub returns-then-k-eq-KIND : goal.returns-then-k-eq-KIND
returns-then-k-eq-KIND c = rw c.if-k-eq-KIND.true

pub returns-then-k-eq-KIND-2 : goal.returns-then-k-eq-KIND-2
returns-then-k-eq-KIND-2 c = rw c.if-k-eq-KIND-2.true

pub returns-then-k-eq-KIND-3 : goal.returns-then-k-eq-KIND-3
returns-then-k-eq-KIND-3 c = rw c.if-k-eq-KIND-3.true

pub returns-then-k-eq-KIND-4 : goal.returns-then-k-eq-KIND-4
returns-then-k-eq-KIND-4 c = rw c.if-k-eq-KIND-4.true

pub returns-then-k-eq-KIND-5 : goal.returns-then-k-eq-KIND-5
returns-then-k-eq-KIND-5 c = rw c.if-k-eq-KIND-5.true

pub returns-then-k-eq-KIND-6 : goal.returns-then-k-eq-KIND-6
returns-then-k-eq-KIND-6 c = rw c.if-k-eq-KIND-6.true

pub returns-then-k-eq-KIND-7 : goal.returns-then-k-eq-KIND-7
returns-then-k-eq-KIND-7 c = rw c.if-k-eq-KIND-7.true

pub returns : goal.returns
returns c =
    let k = c.args.k in
    simp (ne_eqb k 1 c.if-k-eq-KIND.false, ne_eqb k 2 c.if-k-eq-KIND-2.false, ne_eqb k 3 c.if-k-eq-KIND-3.false, ne_eqb k 4 c.if-k-eq-KIND-4.false, ne_eqb k 5 c.if-k-eq-KIND-5.false, ne_eqb k 6 c.if-k-eq-KIND-6.false, ne_eqb k 512 c.if-k-eq-KIND-7.false)
