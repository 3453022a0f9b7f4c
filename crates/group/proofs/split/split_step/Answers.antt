-- `group::split::split_step` meets its contract: each way out is a case of split_step.
use mathlib.Core.Path.{sym, ap, ◌∙◌}
use Prim.Native.Nat.{ℕ, ◌+◌, ◌-◌, ◌^◌, ◌≤◌, ◌<◌}
use native.Mathlib.Omega.{arith}
use Rattle.codes.specs.Varint.Laws.{varint_next}
use Rattle.group.proofs.Laws.Group.{split_unread, split_over, split_short, split_good}
use Rattle.group.proofs.split.split_step.Goals as goal
use Rattle.std.specs.Prelude.{Ok, Err}

-- whether a sum fits
passes : (hi v : ℕ) → hi < 2 ^ 64 → 18446744073709551615 - hi < v → 2 ^ 64 ≤ hi + v
passes hi v b h = omega arith

keeps : (hi v : ℕ) → hi < 2 ^ 64 → v ≤ 18446744073709551615 - hi → hi + v < 2 ^ 64
keeps hi v b h = omega arith

pub returns-in-Err : goal.returns-in-Err
returns-in-Err c =
    let a = c.args in
    ap Err c.at.ensures ∙ sym (split_unread a.g.now a.i a.hi _ (sym c.short_at.ensures ∙ c.in-Err.is))

pub returns-then-hi-difference : goal.returns-then-hi-difference
returns-then-hi-difference c =
    let a = c.args in
    ap Err c.at-then-hi-difference.ensures ∙ sym (split_over a.g.now a.i a.hi _ _ (sym c.short_at.ensures ∙ c.in-Ok.is) (passes a.hi _ c.ranges.hi.fits c.if-hi-difference.true))

pub overflow_add-after : goal.overflow_add-after
overflow_add-after c =
    let a = c.args in
    let next = (varint_next a.g.now a.i _ _ (sym c.short_at.ensures ∙ c.in-Ok.is)).1 in
    omega arith

pub returns-then-g-after : goal.returns-then-g-after
returns-then-g-after c =
    let a = c.args in
    ap Err c.at-then-g-after.ensures ∙ sym (split_short a.g.now a.i a.hi _ _ (sym c.short_at.ensures ∙ c.in-Ok.is) (keeps a.hi _ c.ranges.hi.fits c.if-hi-difference.false) c.if-g-after.true)

pub returns : goal.returns
returns c =
    let a = c.args in
    let v = c.in-Ok.read.0 in
    let n = c.in-Ok.read.1 in
    ap (λ (t : ℕ). Ok (record { hi = a.hi + v; lo = t }, n + 8)) c.le-lo.ensures.value
    ∙ sym (split_good a.g.now a.i a.hi v n (sym c.short_at.ensures ∙ c.in-Ok.is) (keeps a.hi v c.ranges.hi.fits c.if-hi-difference.false) c.if-g-after.false)
