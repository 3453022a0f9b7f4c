-- `codes::varint::put_varint` meets its contract. Invariant: what is still to be written, written over what is there, is the whole.
use mathlib.Core.Path.{◌≡◌, refl}
use Prim.Native.Nat.{suc, ◌+◌, ◌-◌}
use native.Mathlib.Numerals.{add-one}
use native.Mathlib.Omega.{arith}
use lib.ListN.{length-set}
use Rattle.codes.specs.Varint.Laws.{bytes_from_lem, bytes_last, bytes_more_lem, bytes_left, length_more, length_last}
use Rattle.codes.proofs.varint.put_varint.Goals as goal

pub loop-y-init : goal.loop-y-init
loop-y-init c =
    let a = c.args in
    let z : 9 - (a.at - a.at) ≡ 9 = omega arith in
    let z2 : 10 - (a.at - a.at) ≡ 10 = omega arith in
    (omega arith, omega arith, rw z2 (omega (arith, c.ranges.x)), refl, rw (z, bytes_from_lem a.x), rw (z, bytes_from_lem a.x))

pub bounds-out-i : goal.bounds-out-i
bounds-out-i c =
    let a = c.args in
    let l = c.loop-y in
    let e : 10 - (l.i - a.at) ≡ suc (9 - (l.i - a.at)) = omega arith in
    let (g, f, b) = bytes_left (9 - (l.i - a.at)) l.y (omega arith) (rw e at l.invariant.2) in
    omega (arith, length_more g l.y (omega arith), rw f at l.invariant.5)

pub loop-y-preserved : goal.loop-y-preserved
loop-y-preserved c =
    let a = c.args in
    let l = c.loop-y in
    let e : 10 - (l.i - a.at) ≡ suc (9 - (l.i - a.at)) = omega arith in
    let (g, f, b) = bytes_left (9 - (l.i - a.at)) l.y (omega arith) (rw e at l.invariant.2) in
    let k : 9 - (l.i + 1 - a.at) ≡ g = omega arith in
    let k2 : 10 - (l.i + 1 - a.at) ≡ suc g = omega arith in (
      omega arith,
      omega arith,
      rw k2 b,
      rw length-set (omega arith),
      rw (k, add-one) (rw (f, bytes_more_lem g l.y (omega arith)) at l.invariant.4),
      rw k (omega (arith, rw (f, length_more g l.y (omega arith)) at l.invariant.5)),
    )

pub bounds-out-i-2 : goal.bounds-out-i-2
bounds-out-i-2 c =
    let a = c.args in
    let l = c.loop-y in
    omega (arith, length_last (9 - (l.i - a.at)) l.y (omega arith))

pub overflow_add-result : goal.overflow_add-result
overflow_add-result c =
    let a = c.args in
    let l = c.loop-y in
    omega (arith, length_last (9 - (l.i - a.at)) l.y (omega arith))

pub shape_of-out : goal.shape_of-out
shape_of-out c = rw length-set (omega arith)

pub returns : goal.returns
returns c =
    let a = c.args in
    let l = c.loop-y in record {
      place = omega (arith, length_last (9 - (l.i - a.at)) l.y (omega arith));
      bytes = rw (bytes_last (9 - (l.i - a.at)) l.y (omega arith)) at l.invariant.4;
    }
