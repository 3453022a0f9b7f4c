use Rattle.std.proofs.Common.{◌≡◌, ℕ, ◌<◌, List, length, get_or, sym, ap, arith}
use Rattle.std.specs.Prelude.{eqb}
use Rattle.batch.specs.declared.Edge.{Edge}
use Rattle.batch.specs.Batch.{edge_at, place, record_count, edges_of}
use Rattle.batch_groups.specs.Groups.{none}
use Rattle.batch_groups.proofs.Laws.Order.{of_batch}
use Rattle.write_source.proofs.dead_of.Goals as goal

-- the first byte of a record
dead : (s : List ℕ) (e : ℕ) → e < length (edges_of s) → (e < record_count s) × (eqb (get_or s (place e) 0) 2 ≡ (get_or (edges_of s) e none).dead)
unfolding edge_at
dead s e h = let q = of_batch s e h in (q.0, sym (ap (λ (t : Edge). t.dead) q.1))

pub overflow_mul-result : goal.overflow_mul-result
overflow_mul-result c = let q = dead c.args.batch.now c.args.e c.requires in omega (arith, q.0)

pub overflow_add-result : goal.overflow_add-result
overflow_add-result c = let q = dead c.args.batch.now c.args.e c.requires in omega (arith, q.0)

pub bounds-batch-e : goal.bounds-batch-e
bounds-batch-e c = let q = dead c.args.batch.now c.args.e c.requires in omega (arith, q.0)

pub returns : goal.returns
returns c = (dead c.args.batch.now c.args.e c.requires).1
