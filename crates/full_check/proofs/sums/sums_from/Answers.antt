-- `sums::sums_from` meets its contract. Invariant: `Summed`, of the entries that are passed.
use mathlib.Core.Path.{◌≡◌}
use Prim.Native.Nat.{◌+◌}
use Rattle.frame.proofs.Laws.Frame.{row_room}
use Rattle.full_check.specs.Full.Laws.{summed_start, summed_within, summed_bad, summed_on, summed_end}
use native.Mathlib.Omega.{arith}
use Rattle.full_check.proofs.sums.sums_from.Goals as goal

pub loop-k-init : goal.loop-k-init
loop-k-init c = let a = c.args in summed_start a.file.now a.b.now a.count c.requires.3

pub row_at-row-requires : goal.row_at-row-requires
row_at-row-requires c =
    let a = c.args in
    let l = c.loop-k in
    let room = row_room a.b.now a.count l.at l.k (omega arith) in
    let end = l.invariant.end in
    (omega arith, omega arith)

pub sum_of-requires : goal.sum_of-requires
sum_of-requires c =
    let a = c.args in
    let l = c.loop-k in
    summed_within a.file.now a.b.now a.count l.at l.k l.invariant (omega arith) c.row_at-row.result c.row_at-row.ensures

pub returns-then-sum_of-row : goal.returns-then-sum_of-row
returns-then-sum_of-row c =
    let a = c.args in
    let l = c.loop-k in
    summed_bad a.file.now a.b.now a.count l.at l.k l.invariant (omega arith) c.row_at-row.result c.row_at-row.ensures c.sum_of.ensures (λ q. omega arith)

pub overflow_add-at-in-loop-k : goal.overflow_add-at-in-loop-k
overflow_add-at-in-loop-k c =
    let a = c.args in
    let l = c.loop-k in
    let room = row_room a.b.now a.count l.at l.k (omega arith) in
    let end = l.invariant.end in
    omega arith

pub loop-k-preserved : goal.loop-k-preserved
loop-k-preserved c =
    let a = c.args in
    let l = c.loop-k in
    let next : l.at + (28 + c.row_at-row.result.namelen) ≡ l.at + 28 + c.row_at-row.result.namelen = omega arith in
    rw next (summed_on a.file.now a.b.now a.count l.at l.k l.invariant (omega arith) c.row_at-row.result c.row_at-row.ensures c.sum_of.ensures (omega arith))

pub returns : goal.returns
returns c =
    let a = c.args in
    let l = c.loop-k in
    summed_end a.file.now a.b.now a.count l.at l.k l.invariant (omega arith)
