-- `full_check::groups::groups_of` meets its contract. Invariant: `Walk`, of the groups that are passed.
use Prim.Native.Nat.{◌-◌}
use Rattle.full_check.specs.Full.Laws.{Walk}
use Rattle.full_check.proofs.groups.groups_of.Given as goal

abbrev pub invariant-loop-i : goal.invariant-loop-i
invariant-loop-i l = Walk l.partners l.offs l.w l.n l.there l.starts l.i l.a l.edges l.dense l.stray
