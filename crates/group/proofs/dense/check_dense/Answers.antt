-- `group::dense::check_dense` meets its contract. Invariant: k partners were good, `last` is the upper half of the last of them, and what is left gives the whole answer.
use mathlib.Core.Path.{◌≡◌, sym, ap, ◌∙◌}
use Prim.Native.Nat.{◌+◌, ◌*◌}
use native.Mathlib.Omega.{arith}
use mathlib.Core.Bool.{true}
use Rattle.std.specs.Prelude.{Err}
use Rattle.group.proofs.Laws.Group.{check_start, check_end, check_over}
use Rattle.group.proofs.dense.check_dense.Goals as goal
use Rattle.group.proofs.dense.check_dense.Invariants.{passed_first, passed_low, passed_on, cut}

pub returns-then-count-eq0 : goal.returns-then-count-eq0
returns-then-count-eq0 c =
    let a = c.args in
    let few = c.whole-count.ensures.2 (omega arith) in
    ap Err c.at.ensures ∙ sym (cut a.g.now a.at a.degree a.at 0 0 0 (check_start true a.g.now a.at a.degree) (omega arith) (omega arith))

pub loop-k-init : goal.loop-k-init
loop-k-init c = let a = c.args in passed_first a.g.now a.at a.degree (omega arith) (omega arith) c.be64-last.ensures

pub precedes-requires : goal.precedes-requires
precedes-requires c = (omega arith, omega arith, c.loop-k.invariant.3, c.be64-hi.ensures)

pub returns-then-not-precedes : goal.returns-then-not-precedes
returns-then-not-precedes c =
    let a = c.args in
    let l = c.loop-k in
    ap Err c.at-then-not-precedes.ensures
    ∙ sym (passed_low a.g.now a.at a.degree l.last (a.at + 16 * l.k) l.k l.invariant (omega arith) (omega arith) (sym c.precedes.ensures ∙ c.if-not-precedes.true))

pub loop-k-preserved : goal.loop-k-preserved
loop-k-preserved c =
    let a = c.args in
    let l = c.loop-k in
    passed_on a.g.now a.at a.degree l.last (a.at + 16 * l.k) l.k l.invariant (omega arith) (omega arith) c.be64-hi.ensures (sym c.precedes.ensures ∙ c.if-not-precedes.false)

pub returns-then-count-degree : goal.returns-then-count-degree
returns-then-count-degree c =
    let a = c.args in
    let l = c.loop-k in
    let few = c.whole-count.ensures.2 c.if-count-degree.true in
    let all : c.whole-count.result ≡ l.k = omega arith in
    ap Err c.at-then-count-degree.ensures
    ∙ rw all (sym (cut a.g.now a.at a.degree (a.at + 16 * l.k) l.k _ _ l.invariant.4 (omega arith) (omega arith)))

pub returns-then-end-g : goal.returns-then-end-g
returns-then-end-g c =
    let a = c.args in
    let l = c.loop-k in
    let all : c.whole-count.result ≡ l.k = omega arith in
    ap Err c.at-then-end-g.ensures
    ∙ rw all (sym (check_over true a.g.now a.at a.degree (a.at + 16 * l.k) l.k _ _ l.invariant.4 (omega arith) (λ q. omega arith)))

pub returns : goal.returns
returns c =
    let a = c.args in
    let l = c.loop-k in
    sym (check_end true a.g.now a.at a.degree (a.at + 16 * l.k) l.k _ _ l.invariant.4 (omega arith) (omega arith) (omega arith))
