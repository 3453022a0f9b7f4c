-- `rising` meets its contract. Invariant: `last` is number i, it rises, and what is left to check from i on gives the whole.
use Rattle.std.proofs.Common.{◌+◌, ◌*◌, ◌≤◌, true, false, sym, ◌∙◌, arith, mul-le-mul_right}
use native.Mathlib.Nat.{sub-zero}
use borrow.Author.Tests.{eq-eqb, ne_eqb}
use Rattle.index.specs.Cases.{first_at, first_rises, next_rises, rising_first, rising_on, rising_bad, rising_end}
use Rattle.index.proofs.rising.rising.Goals as goal

pub returns-then-last-ne0 : goal.returns-then-last-ne0
returns-then-last-ne0 g c = λ told. let a = c.args in sym (rising_first told a.s.now g.row.W a.n a.end (λ q. c.if-last-ne0.true (c.le-last.ensures.value ∙ first_at a.s.now g.row.W ∙ q)))

pub loop-i-init : goal.loop-i-init
loop-i-init g c =
    let first = c.le-last.ensures.value ∙ first_at c.args.s.now g.row.W in
    record { read = first; rises = first_rises c.args.s.now g.row.W (sym first ∙ c.if-last-ne0.false); left = λ told. rw sub-zero }

pub le-next-requires : goal.le-next-requires
le-next-requires g c =
    let m : (c.loop-i.i + 2) * g.row.W ≤ (c.args.n + 1) * g.row.W = mul-le-mul_right g.row.W (omega arith) in
    (omega arith, omega arith)

pub returns-then-next-last : goal.returns-then-next-last
returns-then-next-last g c =
    let a = c.args in
    let l = c.loop-i in
    λ told. sym (rising_bad told a.s.now g.row.W a.n a.end l.i (omega arith) l.invariant.rises (omega arith)) ∙ l.invariant.left told

pub loop-i-preserved : goal.loop-i-preserved
loop-i-preserved g c =
    let a = c.args in
    let l = c.loop-i in
    record {
      read = c.le-next.ensures.value;
      rises = next_rises a.s.now g.row.W l.i (omega arith);
      left = λ told. sym (rising_on told a.s.now g.row.W a.n a.end l.i (omega arith) l.invariant.rises) ∙ l.invariant.left told;
    }

pub returns-then-last-end : goal.returns-then-last-end
returns-then-last-end g c =
    let a = c.args in
    let l = c.loop-i in
    let ne = ne_eqb _ _ (λ q. c.if-last-end.true (l.invariant.read ∙ q)) in
    λ told. sym (rising_end told a.s.now g.row.W a.n a.end l.i (omega arith) l.invariant.rises false ne) ∙ l.invariant.left told

pub returns : goal.returns
returns g c =
    let a = c.args in
    let l = c.loop-i in
    let eq = eq-eqb _ _ (sym l.invariant.read ∙ c.if-last-end.false) in
    λ told. sym (rising_end told a.s.now g.row.W a.n a.end l.i (omega arith) l.invariant.rises true eq) ∙ l.invariant.left told
