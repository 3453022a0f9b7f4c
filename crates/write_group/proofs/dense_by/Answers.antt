use mathlib.Core.Path.{sym}
use Prim.Native.Nat.{ℕ, ◌*◌, ◌≤◌}
use native.Mathlib.Omega.{arith}
use native.Mathlib.Nat.{mul-le-mul}
use Rattle.write_image.specs.Image.Laws.{dense_dear, dense_small, dense_large}
use Rattle.write_group.proofs.dense_by.Goals as goal

square : (d : ℕ) → d ≤ 67108864 → d * d ≤ 67108864 * 67108864
square d h = mul-le-mul h h

pub returns-then-degree-cost : goal.returns-then-degree-cost
returns-then-degree-cost c = sym (dense_dear c.args.keys c.args.degree c.args.cost c.if-degree-cost.true)

pub returns-then-degree-le1024 : goal.returns-then-degree-le1024
returns-then-degree-le1024 c = sym (dense_small c.args.keys c.args.degree c.args.cost (omega arith) c.if-degree-le1024.true)

pub overflow_mul-result-2 : goal.overflow_mul-result-2
overflow_mul-result-2 c = omega (arith, square c.args.degree (omega arith))

pub returns : goal.returns
returns c = sym (dense_large c.args.keys c.args.degree c.args.cost (omega arith) (omega arith))
