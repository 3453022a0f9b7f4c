-- `index::keys::find` meets its contract. Invariant: the turns that are left give the whole answer.
use Prim.Native.Nat.{◌+◌, ◌-◌, ◌≤◌}
use Rattle.codes.specs.Ids.{id_number}
use Rattle.index.specs.Find.Laws.{Between}
use Rattle.index.proofs.keys.find.Given as goal

abbrev pub invariant-loop-low : goal.invariant-loop-low
invariant-loop-low l =
    (l.high ≤ l.n) × (l.compared + (l.high - l.low) ≤ l.n) × Between l.keys l.n (id_number l.key) l.low l.high l.compared

abbrev pub decreases-loop-low : goal.decreases-loop-low
decreases-loop-low l = l.high - l.low
