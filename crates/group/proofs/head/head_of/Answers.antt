-- `group::head::head_of` meets its contract: each way out is a case of head_of.
use mathlib.Core.Path.{sym, ap, ◌∙◌}
use native.Mathlib.Omega.{arith}
use Rattle.std.specs.Prelude.{Err}
use Rattle.group.proofs.Laws.Group.{head_unread, head_none, head_short, head_split, head_dense, head_tag}
use Rattle.group.proofs.head.head_of.Goals as goal

pub returns-in-Err : goal.returns-in-Err
returns-in-Err c = ap Err c.at.ensures ∙ sym (head_unread c.args.g.now _ (sym c.short_at.ensures ∙ c.in-Err.is))

pub returns-then-degree-eq0 : goal.returns-then-degree-eq0
returns-then-degree-eq0 c = ap Err c.at-then-degree-eq0.ensures ∙ sym (head_none c.args.g.now _ _ (sym c.short_at.ensures ∙ c.in-Ok.is) c.if-degree-eq0.true)

pub returns-then-g-tag : goal.returns-then-g-tag
returns-then-g-tag c =
    ap Err c.at-then-g-tag.ensures ∙ sym (head_short c.args.g.now _ _ (sym c.short_at.ensures ∙ c.in-Ok.is) c.if-degree-eq0.false c.if-g-tag.true)

pub returns-in-1 : goal.returns-in-1
returns-in-1 c = sym (head_split c.args.g.now _ _ (sym c.short_at.ensures ∙ c.in-Ok.is) c.if-degree-eq0.false c.if-g-tag.false c.in-1.is)

pub returns-in-16 : goal.returns-in-16
returns-in-16 c = sym (head_dense c.args.g.now _ _ (sym c.short_at.ensures ∙ c.in-Ok.is) c.if-degree-eq0.false c.if-g-tag.false c.in-16.is)

pub returns-in_default : goal.returns-in_default
returns-in_default c =
    ap Err c.at-in_default.ensures ∙ sym (head_tag c.args.g.now _ _ (sym c.short_at.ensures ∙ c.in-Ok.is) c.if-degree-eq0.false c.if-g-tag.false (λ q. omega arith) (λ q. omega arith))
