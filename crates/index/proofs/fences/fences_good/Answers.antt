-- `fences::fences_good` meets its contract, test by test.
use mathlib.Core.Path.{◌≡◌, ◌∙◌, sym, ap}
use Prim.Native.Nat.{ℕ, ◌+◌, ◌-◌, ◌/◌, ◌%◌, ◌≤◌, min}
use native.Mathlib.Omega.{arith}
use Rattle.index.specs.Cases.{fences_stride, fences_count, fences_length, fences_walked, rounded}
use Rattle.index.proofs.fences.fences_good.Goals as goal
use Rattle.index.proofs.fences.fences_good.Goals.{then-stride-lt1-via-then-stride-lt1, then-stride-lt1-via-else-stride-lt1+then-count-div_ceil, then-stride-lt1-via-else-stride-lt1+else-count-div_ceil+then-x-head-2}

-- a count is that of m keys, which are the n that there are
counted : (m n s : ℕ) {r : ℕ} → 1 ≤ s → r ≡ m / s + min 1 (m % s) → m ≡ n → r ≡ (n + (s - 1)) / s
counted m n s l e f = e ∙ rounded m s l ∙ ap (λ (x : ℕ). (x + (s - 1)) / s) f

pub returns-then-stride-lt1 : goal.returns-then-stride-lt1
returns-then-stride-lt1 c =
    let a = c.args in
    let stride = c.le-stride in
    let count = c.le-count in
    elim c.then-stride-lt1.branch [
      | then-stride-lt1-via-then-stride-lt1 w ↦ sym (fences_stride a.x.now a.keys.now a.n (omega arith) stride.result stride.ensures.value w.if-stride-lt1.true)
      | then-stride-lt1-via-else-stride-lt1+then-count-div_ceil w ↦
          sym (fences_count a.x.now a.keys.now a.n (omega arith) stride.result stride.ensures.value (omega arith) count.result count.ensures.value (λ q. w.if-count-div_ceil.true (q ∙ sym (counted _ a.n stride.result (omega arith) w.div_ceil.ensures (omega arith)))))
      | then-stride-lt1-via-else-stride-lt1+else-count-div_ceil+then-x-head-2 w ↦
          sym (fences_length a.x.now a.keys.now a.n (omega arith) stride.result stride.ensures.value (omega arith) count.result count.ensures.value (w.if-count-div_ceil.false ∙ counted _ a.n stride.result (omega arith) w.div_ceil.ensures (omega arith)) w.if-x-head-2.true)
    ]

pub returns : goal.returns
returns c =
    let a = c.args in
    let stride = c.le-stride in
    let count = c.le-count in
    fences_walked a.x.now a.keys.now a.n (omega arith) stride.result stride.ensures.value
    (omega arith) count.result count.ensures.value (c.if-count-div_ceil.false ∙ counted _ a.n stride.result (omega arith) c.div_ceil.ensures (omega arith)) c.if-x-head-2.false c.all_good.ensures
