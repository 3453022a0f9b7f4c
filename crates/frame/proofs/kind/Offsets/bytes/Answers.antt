use Prim.Native.Nat.{◌+◌, ◌*◌, ◌≤◌}
use native.Mathlib.Nat.{mul-le-mul_left}
use native.Mathlib.Omega.{arith}
use Rattle.frame.proofs.kind.Offsets.bytes.Goals as goal

pub overflow_mul-result : goal.overflow_mul-result
overflow_mul-result c = let a = c.args in
    let h : (a.keys + 1) * a.width ≤ (a.keys + 1) * 255 = mul-le-mul_left (a.keys + 1) c.requires.1 in
    record { fits = omega arith }
