-- `group::split::in_order` meets its contract.
use mathlib.Core.Path.{◌≡◌, sym, ap, ◌∙◌}
use native.Mathlib.Omega.{arith}
use borrow.Author.Tests.{eq-eqb}
use Rattle.std.specs.Ordering.{is_lt}
use Rattle.codes.specs.Ids.{id_number, order}
use Rattle.codes.specs.Ids.Laws.{derived_order}
use Rattle.group.proofs.Laws.Group.{less_id, above_first, above_next}
use Rattle.group.proofs.split.in_order.Goals as goal

pub returns-then-k-eq0 : goal.returns-then-k-eq0
returns-then-k-eq0 c = let a = c.args in eq-eqb a.k 0 c.if-k-eq0.true ∙ sym (above_first a.k a.last a.id c.if-k-eq0.true)

pub returns-else-k-eq0 : goal.returns-else-k-eq0
returns-else-k-eq0 c = let a = c.args in
    let z : c.is_lt.result ≡ is_lt (order (id_number a.last) (id_number a.id)) = c.is_lt.ensures ∙ ap is_lt c.compare.ensures in
    let d = ap is_lt (derived_order a.last a.id (omega arith) (omega arith)) in
    z ∙ sym d ∙ less_id a.last a.id (omega arith) (omega arith) ∙ sym (above_next a.k a.last a.id c.if-k-eq0.false)
