use Rattle.std.proofs.Common.{◌≡◌, ℕ, ◌+◌, ◌-◌, ◌*◌, ◌<◌, List, length, get_or, sym, ap, ◌∙◌, arith}
use Rattle.codes.specs.Little.{le_at}
use Rattle.batch.specs.declared.Edge.{Edge}
use Rattle.batch.specs.Batch.{edge_at, place, record_count, edges_of}
use Rattle.batch_groups.specs.Groups.{none}
use Rattle.batch_groups.proofs.Laws.Order.{of_batch}
use Rattle.write_source.proofs.log_of.Goals as goal

-- the last 8 bytes of a record
log : (s : List ℕ) (e : ℕ) → e < length (edges_of s) → (e < record_count s) × (le_at s (50 + 41 * (e + 1) - 8) 8 ≡ (get_or (edges_of s) e none).log)
unfolding edge_at
log s e h =
    let q = of_batch s e h in
    let i : 50 + 41 * (e + 1) - 8 ≡ place e + 33 = omega arith in
    (q.0, ap (λ (t : ℕ). le_at s t 8) i ∙ sym (ap (λ (t : Edge). t.log) q.1))

pub overflow_add-e : goal.overflow_add-e
overflow_add-e c = let q = log c.args.batch.now c.args.e c.requires in omega (arith, q.0)

pub overflow_mul-e : goal.overflow_mul-e
overflow_mul-e c = let q = log c.args.batch.now c.args.e c.requires in omega (arith, q.0)

pub overflow_add-e-2 : goal.overflow_add-e-2
overflow_add-e-2 c = let q = log c.args.batch.now c.args.e c.requires in omega (arith, q.0)

pub le-requires : goal.le-requires
le-requires c = let q = log c.args.batch.now c.args.e c.requires in omega (arith, q.0)

pub returns : goal.returns
returns c = c.le.ensures.value ∙ (log c.args.batch.now c.args.e c.requires).1
