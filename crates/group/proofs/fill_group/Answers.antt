-- `group::fill_group` meets its contract: the head of a good group chooses how its payload is written.
use mathlib.Core.Path.{sym, ap, ◌∙◌}
use Prim.Native.Nat.{ℕ}
use native.Mathlib.Omega.{arith}
use mathlib.Core.List.{List}
use mathlib.Core.Bool.{true, false}
use Rattle.std.specs.Prelude.{Ok}
use Rattle.base.specs.Over.{over}
use Rattle.group.specs.Group.{Decoded, partners_of, bytes_of}
use Rattle.group.proofs.Laws.Group.{group_bad, not_bad}
use Rattle.group.proofs.Laws.Good.{fill, fill_length}
use Rattle.group.proofs.fill_group.Goals as goal

pub fill_split-requires : goal.fill_split-requires
fill_split-requires c =
    let f = fill c.args.g.now false _ _ (sym c.head_of.ensures ∙ c.in-Ok-Split.is ∙ ap Ok c.in-Ok-Split.field-0-is) c.requires.0 in
    let count = f.count in
    (f.rest, omega arith)

pub fill_dense-requires : goal.fill_dense-requires
fill_dense-requires c =
    let f = fill c.args.g.now true _ _ (sym c.head_of.ensures ∙ c.in-Ok-Dense.is ∙ ap Ok c.in-Ok-Dense.field-0-is) c.requires.0 in
    let count = f.count in
    let long = fill_length c.args.g.now _ _ (λ k. (c.type_inv.g k).fits) f in
    (f.within, omega arith)

pub returns-in-Err : goal.returns-in-Err
returns-in-Err c = absurd (not_bad c.requires.0 (group_bad c.args.g.now _ (sym c.head_of.ensures ∙ c.in-Err.is)))

pub returns-in-Ok-Split : goal.returns-in-Ok-Split
returns-in-Ok-Split c =
    let a = c.args in
    let f = fill c.args.g.now false _ _ (sym c.head_of.ensures ∙ c.in-Ok-Split.is ∙ ap Ok c.in-Ok-Split.field-0-is) c.requires.0 in
    c.fill_split.ensures ∙ ap (λ (w : Decoded). over (bytes_of (partners_of w)) a.out.now) (sym f.walk)

pub returns-in-Ok-Dense : goal.returns-in-Ok-Dense
returns-in-Ok-Dense c =
    let a = c.args in
    let f = fill c.args.g.now true _ _ (sym c.head_of.ensures ∙ c.in-Ok-Dense.is ∙ ap Ok c.in-Ok-Dense.field-0-is) c.requires.0 in
    c.fill_dense.ensures ∙ ap (λ (t : List ℕ). over t a.out.now) (f.payload (λ k. (c.type_inv.g k).fits))
