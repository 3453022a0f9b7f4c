use mathlib.Core.Path.{◌≡◌}
use Prim.Native.Nat.{ℕ, ◌-◌}
use mathlib.Core.List.{List}
use mathlib.Core.Bool.{Bool}
use lib.ListN.{length}
use Rattle.batch.specs.Batch.{edges_at, fault_from}
use Rattle.batch_groups.specs.Groups.{any_dead, groups_of}
use Rattle.batch_faults.proofs.tally_records.Given as goal

-- what is left gives the whole, and what was passed is counted
pub record Head (s : List ℕ) (n e keys : ℕ) (dead : Bool) : Type 0 where
  pub rest : fault_from (n - e) s e ≡ fault_from n s 0
  pub keys_are : keys ≡ length (groups_of (edges_at e s 0))
  pub dead_is : dead ≡ any_dead (edges_at e s 0)

abbrev pub invariant-loop-e : goal.invariant-loop-e
invariant-loop-e l = Head l.s l.n l.e l.keys l.dead
