-- What the check of a batch tells: its first faulty record, or how many keys the batch has and whether an edge is dead.
use Rattle.std.specs.Prelude.{◌≡◌, ℕ, zero, suc, List, Bool, length, eqb, Result, Ok, Err}
use Rattle.base.specs.Pick.{pick}
use Rattle.codes.specs.Ids.{id_number}
use Rattle.refusal.specs.declared.Refusal.{Refusal}
use Rattle.batch.specs.declared.Edge.{Edge}
use Rattle.batch.specs.Batch.{edge_at, edges_of, place, before, batch_check}
use Rattle.batch_groups.specs.Groups.{any_dead, groups_of}
use Rattle.batch_faults.specs.declared.Follow.{Follow}
use Rattle.batch_faults.specs.declared.Tally.{Tally}
use Rattle.refusal.specs.Check.{Check}
pub mod Laws

-- how edge b follows edge a: with a new key, with the same key, or wrongly, as it is not above it
unfoldable pub follow_by : Edge → Edge → Follow
follow_by a b = pick (before a b) (pick (eqb (id_number a.key) (id_number b.key)) Follow.Same Follow.New) Follow.Wrong

-- how edge e of a batch follows the one before; the first has a new key
unfoldable pub follow_at : List ℕ → ℕ → Follow
follow_at s zero = Follow.New
follow_at s (suc e) = follow_by (edge_at s (place e)) (edge_at s (place (suc e)))

-- of the edges es, where the check finds no fault
unfoldable pub tally_by : Check → List Edge → Result Tally Refusal
tally_by (Ok _) es = Ok (record { keys = (length (groups_of es)); dead = (any_dead es) })
tally_by (Err r) es = Err r

unfoldable pub tally_of : List ℕ → Result Tally Refusal
tally_of s = tally_by (batch_check s) (edges_of s)

-- a batch without fault, with what is counted of it
pub record Clean (s : List ℕ) (keys : ℕ) (dead : Bool) : Type 0 where
  pub check : batch_check s ≡ (Ok tt)
  pub keys_are : keys ≡ length (groups_of (edges_of s))
  pub dead_is : dead ≡ any_dead (edges_of s)
