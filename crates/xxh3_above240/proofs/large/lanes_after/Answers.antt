use Rattle.std.proofs.Common.{◌≡◌, ℕ, suc, ◌+◌, ◌-◌, ◌%◌, sym, ap, ◌∙◌, arith}
use Rattle.xxh3_spec.specs.Xxh3.{run_on, secret}
use Rattle.xxh3_spec.specs.Xxh3.Laws.{run_none}
use Rattle.xxh3_above240.proofs.Stripes.{whole, ends}
use Rattle.xxh3_above240.proofs.large.lanes_after.Goals as goal

pub loop-end-init : goal.loop-end-init
loop-end-init c =
    let a = c.args in
    let f = a.k % 16 in
    let e : 16 - f - 16 ≡ 0 = omega arith in (
      16 - f,
      0,
      record { bytes = omega arith; last = omega arith; first = omega arith },
      sym (ap (λ (x : ℕ). run_on secret a.a a.s.now a.k x) e ∙ run_none secret a.a a.s.now a.k),
    )

pub returns-then-end-lt16 : goal.returns-then-end-lt16
returns-then-end-lt16 c =
    let a = c.args in
    let l = c.loop-end in
    ends secret a.a a.s.now a.k a.n l.to l.end
    l.invariant.0 l.invariant.1 l.invariant.2 c.if-end-lt16.true l.invariant.3
    c.block-x.ensures

pub loop-end-preserved : goal.loop-end-preserved
loop-end-preserved c =
    let a = c.args in
    let l = c.loop-end in
    let u = l.invariant.0 in
    let lies = l.invariant.2 in
    let e : u ≡ u + 16 - 16 = omega arith in (
      u + 16,
      suc l.invariant.1,
      record { bytes = omega (arith, lies); last = omega (arith, lies); first = omega (arith, lies) },
      whole secret a.a a.s.now a.k a.n l.to l.end
          u l.invariant.1 lies (let h = c.if-end-lt16.false in omega (arith, h)) l.invariant.3
          c.block-x.ensures
          c.scramble-next.ensures
          ∙ ap (λ (x : ℕ). run_on secret a.a a.s.now a.k x) e,
    )
