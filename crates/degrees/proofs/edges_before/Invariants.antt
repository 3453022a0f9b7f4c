-- `degrees::edges_before` meets its contract. Invariant: `sum` is the edges before group j, and `a` is its offset.
use mathlib.Core.Path.{◌≡◌}
use Prim.Native.Nat.{◌≤◌}
use Rattle.frame.specs.Open.{offset_at}
use Rattle.degrees.specs.Degrees.{edges_before}
use Rattle.degrees.proofs.edges_before.Given as goal
use Rattle.std.specs.Prelude.{Some}

abbrev pub invariant-loop-j : goal.invariant-loop-j
invariant-loop-j l = (l.sum ≤ l.most) × (l.a ≡ offset_at l.offs l.w l.j) × (edges_before l.partners l.offs l.w l.j ≡ Some l.sum)
