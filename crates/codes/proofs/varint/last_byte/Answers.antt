-- `codes::varint::last_byte` meets its contract: last_byte, case by case.
use mathlib.Core.Path.{◌≡◌, ◌∙◌, ap, sym}
use Prim.Native.Nat.{ℕ, ◌+◌, ◌*◌, ◌^◌, ◌≤◌, ◌<◌}
use native.Mathlib.Omega.{arith}
use Rattle.codes.specs.Varint.Laws.{last_long, last_zero, last_value, last_large, digit_lt, weight_le}
use Rattle.codes.proofs.varint.last_byte.Goals as goal
use Rattle.std.specs.Prelude.{Ok}

-- the tenth byte's weight
tenth : (m k : ℕ) → m ≡ 128 ^ k → k ≡ 9 → m ≡ 2 ^ 63
tenth m k e n = e ∙ ap (λ (j : ℕ). 128 ^ j) n

-- before the tenth, any byte fits
fits : (b x m k : ℕ) → b < 128 → x < m → m ≡ 128 ^ k → k ≤ 8 → x + b * m < 2 ^ 63
fits b x m k g l e h = omega (arith, digit_lt b x m g l, weight_le m k e h)

pub returns-then-m-gt1 : goal.returns-then-m-gt1
returns-then-m-gt1 c =
    let a = c.args in
    sym (last_long a.b a.i a.x a.m (omega arith) (omega arith))

pub returns-then-b-eq0 : goal.returns-then-b-eq0
returns-then-b-eq0 c =
    let a = c.args in
    sym (last_zero a.b a.i a.x a.m (omega arith) (omega arith))

pub returns-then-b-gt1 : goal.returns-then-b-gt1
returns-then-b-gt1 c =
    let a = c.args in
    let p = c.requires in
    let big : 2 ^ 64 ≤ a.x + a.b * a.m = rw (tenth a.m a.k p.3 (omega arith)) (omega arith) in
    sym (last_large a.b a.i a.x a.m (omega arith) big)

pub overflow_add-result-then-k-eq9 : goal.overflow_add-result-then-k-eq9
overflow_add-result-then-k-eq9 c =
    let a = c.args in
    let p = c.requires in
    omega (arith, p.2, tenth a.m a.k p.3 (omega arith))

pub returns-then-k-eq9 : goal.returns-then-k-eq9
returns-then-k-eq9 c =
    let a = c.args in
    let p = c.requires in
    let one : a.b ≡ 1 = omega arith in
    let e : a.x + a.b * a.m ≡ a.x + a.m = rw one (omega arith) in
    let below : a.x + a.b * a.m < 2 ^ 64 = rw e (omega (arith, p.2, tenth a.m a.k p.3 (omega arith))) in
    sym (last_value a.b a.i a.x a.m (omega arith) below ∙ ap (λ (v : ℕ). Ok (v, a.i + 1)) e)

pub overflow_mul-result : goal.overflow_mul-result
overflow_mul-result c =
    let a = c.args in
    let p = c.requires in
    omega (arith, fits a.b a.x a.m a.k p.1 p.2 p.3 (omega arith))

pub overflow_add-result-2 : goal.overflow_add-result-2
overflow_add-result-2 c =
    let a = c.args in
    let p = c.requires in
    omega (arith, fits a.b a.x a.m a.k p.1 p.2 p.3 (omega arith))

pub returns : goal.returns
returns c =
    let a = c.args in
    let p = c.requires in
    let below : a.x + a.b * a.m < 2 ^ 64 = omega (arith, fits a.b a.x a.m a.k p.1 p.2 p.3 (omega arith)) in
    sym (last_value a.b a.i a.x a.m (omega arith) below)
