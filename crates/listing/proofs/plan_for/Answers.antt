-- `plan_for` meets its contract.
use mathlib.Core.Path.{sym, ap, ◌∙◌}
use Prim.Native.Nat.{ℕ}
use Rattle.std.specs.Prelude.{Ok, Err}
use Rattle.std.proofs.lemmas.Result.{err_from_is_err_and}
use Rattle.refusal.specs.declared.Refusal.{Refusal}
use Rattle.frame.proofs.Laws.Open.{opens_parts}
use Rattle.listing.proofs.Laws.List.{plan_unopened, plan_short, plan_good}
use native.Mathlib.Omega.{arith}
use Rattle.listing.proofs.plan_for.Goals as goal

pub returns-in_err-open : goal.returns-in_err-open
returns-in_err-open c =
    let a = c.args in
    let p = err_from_is_err_and c.from_residual.result c.from_residual.ensures.1 in
    rw (p.1, p.2) (sym (plan_unopened a.file.now a.room _ (sym c.«open».ensures ∙ c.in_err-open.was)))

pub count_of-count-requires : goal.count_of-count-requires
count_of-count-requires c = (opens_parts c.args.file.now _ (sym c.«open».ensures ∙ c.in_ok-open.was)).frames

pub returns-then-room-count : goal.returns-then-room-count
returns-then-room-count c =
    let a = c.args in
    let e = c.count_of-count.ensures in
    ap (λ (n : ℕ). Err (Refusal.Room n)) e ∙ sym (plan_short a.file.now a.room _ (sym c.«open».ensures ∙ c.in_ok-open.was) (omega arith))

pub returns : goal.returns
returns c =
    let a = c.args in
    let e = c.count_of-count.ensures in
    ap Ok e ∙ sym (plan_good a.file.now a.room _ (sym c.«open».ensures ∙ c.in_ok-open.was) (omega arith))
