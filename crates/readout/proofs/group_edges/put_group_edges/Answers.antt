-- `readout::group_edges::put_group_edges` meets its contract: the head of a good group says how its payload is read.
use mathlib.Core.Path.{sym, ap, ◌∙◌}
use Rattle.std.specs.Prelude.{Ok}
use Prim.Native.Nat.{ℕ, ◌+◌}
use mathlib.Core.Bool.{true, false}
use lib.Seq.{sets}
use Rattle.batch.specs.Batch.{place, records_of}
use Rattle.group.specs.Group.{Decoded, partners_of}
use Rattle.group.proofs.Laws.Group.{group_bad, not_bad}
use Rattle.group.proofs.Laws.Good.{fill}
use Rattle.readout.specs.Edges.{edges_from}
use native.Mathlib.Omega.{arith}
use Rattle.readout.proofs.group_edges.put_group_edges.Goals as goal

pub put_edges-requires : goal.put_edges-requires
put_edges-requires c = let f = fill c.args.g.now false _ _ (sym c.head_of.ensures ∙ c.in-Ok-Split.is ∙ ap Ok c.in-Ok-Split.field-0-is) c.requires.good in
    let count = f.count in
    let q = c.requires in
    let bound = q.bound in
    let numbers = q.numbers in
    record { good = f.rest; bound = omega arith; numbers = omega arith; room = rw (← f.walk) q.room }

pub overflow_add-result : goal.overflow_add-result
overflow_add-result c = let f = fill c.args.g.now false _ _ (sym c.head_of.ensures ∙ c.in-Ok-Split.is ∙ ap Ok c.in-Ok-Split.field-0-is) c.requires.good in
    let count = f.count in
    let q = c.requires.bound in
    omega arith

pub put_edges-requires-in-Ok-Dense : goal.put_edges-requires-in-Ok-Dense
put_edges-requires-in-Ok-Dense c = let f = fill c.args.g.now true _ _ (sym c.head_of.ensures ∙ c.in-Ok-Dense.is ∙ ap Ok c.in-Ok-Dense.field-0-is) c.requires.good in
    let count = f.count in
    let q = c.requires in
    let bound = q.bound in
    let numbers = q.numbers in
    record { good = f.rest; bound = omega arith; numbers = omega arith; room = rw (← f.walk) q.room }

pub overflow_add-result-in-Ok-Dense : goal.overflow_add-result-in-Ok-Dense
overflow_add-result-in-Ok-Dense c = let f = fill c.args.g.now true _ _ (sym c.head_of.ensures ∙ c.in-Ok-Dense.is ∙ ap Ok c.in-Ok-Dense.field-0-is) c.requires.good in
    let count = f.count in
    let q = c.requires.bound in
    omega arith

pub returns-in-Ok-Split : goal.returns-in-Ok-Split
returns-in-Ok-Split c = let a = c.args in
    let f = fill c.args.g.now false _ _ (sym c.head_of.ensures ∙ c.in-Ok-Split.is ∙ ap Ok c.in-Ok-Split.field-0-is) c.requires.good in
    (ap (λ (t : ℕ). a.first + t) (sym f.count), c.put_edges.ensures ∙ ap (λ (t : Decoded). sets a.out.now (place a.first) (records_of (edges_from a.logs.now a.dead.now a.key a.first (partners_of t)))) (sym f.walk))

pub returns-in-Ok-Dense : goal.returns-in-Ok-Dense
returns-in-Ok-Dense c = let a = c.args in
    let f = fill c.args.g.now true _ _ (sym c.head_of.ensures ∙ c.in-Ok-Dense.is ∙ ap Ok c.in-Ok-Dense.field-0-is) c.requires.good in
    (ap (λ (t : ℕ). a.first + t) (sym f.count), c.put_edges-in-Ok-Dense.ensures ∙ ap (λ (t : Decoded). sets a.out.now (place a.first) (records_of (edges_from a.logs.now a.dead.now a.key a.first (partners_of t)))) (sym f.walk))

pub returns-in-Err : goal.returns-in-Err
returns-in-Err c = absurd (not_bad c.requires.good (group_bad c.args.g.now _ (sym c.head_of.ensures ∙ c.in-Err.is)))
