use mathlib.Core.Path.{◌≡◌, sym, ap, ◌∙◌}
use Prim.Native.Nat.{ℕ, ◌-◌, ◌<◌}
use native.Mathlib.Omega.{arith}
use Rattle.batch.specs.Batch.{place, edge_at}
use Rattle.batch_faults.specs.Tally.{follow_by}
use Rattle.batch_faults.specs.Tally.Laws.{follow_first, follow_next}
use Rattle.batch_faults.proofs.follow_at.Goals as goal

at : (e : ℕ) → 0 < e → place (e - 1) ≡ place e - 41
at e h = omega arith

pub returns-then-e-eq0 : goal.returns-then-e-eq0
returns-then-e-eq0 c = follow_first c.args.s.now c.args.e c.if-e-eq0.true

pub returns : goal.returns
returns c =
    let a = c.args in
    let s = a.s.now in
    let e = a.e in
    c.follow_by.ensures ∙ ap (λ (t : ℕ). follow_by (edge_at s t) (edge_at s (place e))) (sym (at e (omega arith))) ∙ sym (follow_next s e (omega arith))
