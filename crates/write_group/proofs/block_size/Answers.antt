use mathlib.Core.Path.{◌≡◌, sym, ap, ◌∙◌}
use Prim.Native.Nat.{ℕ, ◌+◌, ◌*◌, ◌≤◌}
use native.Mathlib.Omega.{arith}
use mathlib.Core.Bool.{Bool, true, false}
use lib.ListN.{length}
use Rattle.base.specs.Pick.{pick}
use Rattle.codes.specs.Varint.{var_bytes}
use Rattle.codes.specs.Varint.Laws.{var_bytes_length}
use Rattle.write_image.specs.Image.{dense_by}
use Rattle.write_group.specs.Span.{group_size}
use Rattle.write_group.proofs.block_size.Goals as goal

module _ (degree cost keys n : ℕ) (v : n ≡ length (var_bytes degree)) where
  head_most : n ≤ 10
  head_most = omega (arith, v, var_bytes_length degree)

  module _ (b : Bool) (e : b ≡ dense_by keys degree cost) where
    size : n + 1 + pick b (16 * degree) cost ≡ group_size keys degree cost
    size = ap (λ (t : ℕ). t + 1 + pick b (16 * degree) cost) v ∙ ap (λ (t : Bool). length (var_bytes degree) + 1 + pick t (16 * degree) cost) e

pub overflow_add-head : goal.overflow_add-head
overflow_add-head c = let h = head_most c.args.degree 0 0 _ c.varint_len-head.ensures in omega arith

pub overflow_add-result : goal.overflow_add-result
overflow_add-result c = let h = head_most c.args.degree 0 0 _ c.varint_len-head.ensures in omega arith

pub returns-then-dense_by : goal.returns-then-dense_by
returns-then-dense_by c = let a = c.args in
    let v = c.varint_len-head.ensures in
    let e = sym c.if-dense_by.true ∙ c.dense_by.ensures in
    let h = head_most a.degree 0 0 _ v in (e, size a.degree a.cost a.keys _ v true e, omega arith)

pub overflow_add-result-2 : goal.overflow_add-result-2
overflow_add-result-2 c = let h = head_most c.args.degree 0 0 _ c.varint_len-head.ensures in omega arith

pub returns : goal.returns
returns c = let a = c.args in
    let v = c.varint_len-head.ensures in
    let e = sym c.if-dense_by.false ∙ c.dense_by.ensures in
    let h = head_most a.degree 0 0 _ v in (e, size a.degree a.cost a.keys _ v false e, omega arith)
