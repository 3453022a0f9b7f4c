-- `rows::row_in` meets its contract. Invariant: the entries that are left end where all of them end.
use mathlib.Core.Path.{◌≡◌}
use Prim.Native.Nat.{◌+◌, ◌-◌, ◌*◌, ◌≤◌}
use Rattle.frame.specs.Frame.{end_from}
use Rattle.reader.proofs.rows.row_in.Given as goal

abbrev pub invariant-loop-k : goal.invariant-loop-k
invariant-loop-k l = (l.p ≤ 2 + 283 * l._k) × (end_from (l.i - l._k) l.b l.p ≡ end_from l.i l.b 2)
