-- `full_check::sums::sums_in` meets its contract.
use mathlib.Core.Path.{ap, ◌∙◌}
use Prim.Native.Nat.{ℕ}
use Rattle.frame.specs.Frame.{rows_from, rows_of, end_of}
use Rattle.full_check.specs.Full.{sums_from}
use native.Mathlib.Omega.{arith}
use Rattle.full_check.proofs.sums.sums_in.Goals as goal

pub sums_from-requires : goal.sums_from-requires
unfolding rows_of end_of
sums_from-requires c = let p = c.requires in
    let t = p.0.filled in
    let e = c.le.ensures.value in
    (rw e p.0.most, rw e (omega arith), p.1, rw e p.2)

pub returns : goal.returns
unfolding rows_of
returns c = let a = c.args in
    c.sums_from.ensures ∙ ap (λ (n : ℕ). sums_from a.file.now (rows_from n a.b.now 2) 0) c.le.ensures.value
