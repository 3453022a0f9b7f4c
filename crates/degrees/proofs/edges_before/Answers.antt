-- `degrees::edges_before` meets its contract. Invariant: `sum` is the edges before group j, and `a` is its offset.
use mathlib.Core.Path.{◌≡◌, sym, ◌∙◌}
use Rattle.degrees.specs.Degrees.Laws.{before_none, before_bad, before_over, before_on, before_all, degree_is}
use native.Mathlib.Omega.{arith}
use borrow.Author.Rules.{rules}
use Rattle.degrees.proofs.edges_before.Goals as goal

pub loop-j-init : goal.loop-j-init
loop-j-init c = (omega arith, (search rules), before_none _ _ _)

pub returns-in_err-degree : goal.returns-in_err-degree
returns-in_err-degree c = let a = c.args in
    let l = c.loop-j in
    c.from_residual.ensures
    ∙ sym (before_bad a.partners.now a.offs.now a.w a.most a.n l.j l.sum (omega arith) l.invariant.2 (degree_is a.partners.now a.offs.now a.w l.j l.invariant.1 (search rules) (sym c.degree_in.ensures ∙ c.in_err-degree.was)))

pub returns-then-most-sum : goal.returns-then-most-sum
returns-then-most-sum c = let a = c.args in
    let l = c.loop-j in
    sym (before_over a.partners.now a.offs.now a.w a.most a.n l.j l.sum (omega arith) l.invariant.2 _ (degree_is a.partners.now a.offs.now a.w l.j l.invariant.1 (search rules) (sym c.degree_in.ensures ∙ c.in_ok-degree.was)) (omega arith))

pub loop-j-preserved : goal.loop-j-preserved
loop-j-preserved c = let a = c.args in
    let l = c.loop-j in
    (omega arith, (search rules), before_on a.partners.now a.offs.now a.w a.most a.n l.j l.sum (omega arith) l.invariant.2 _ (degree_is a.partners.now a.offs.now a.w l.j l.invariant.1 (search rules) (sym c.degree_in.ensures ∙ c.in_ok-degree.was)))

pub returns : goal.returns
returns c = let a = c.args in
    let l = c.loop-j in
    let e : l.j ≡ a.n = omega arith in
    sym (before_all a.partners.now a.offs.now a.w a.most a.n l.sum (rw e at l.invariant.2) (omega arith))
