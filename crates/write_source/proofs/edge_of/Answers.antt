use Rattle.std.proofs.Common.{sym, ◌∙◌, arith}
use Rattle.batch_groups.proofs.Laws.Order.{of_batch}
use Rattle.write_source.proofs.edge_of.Goals as goal

pub overflow_mul-e : goal.overflow_mul-e
overflow_mul-e c = let a = c.args in let q = of_batch a.batch.now a.e c.requires in omega (arith, q.0)

pub overflow_add-e : goal.overflow_add-e
overflow_add-e c = let a = c.args in let q = of_batch a.batch.now a.e c.requires in omega (arith, q.0)

pub edge_at-requires : goal.edge_at-requires
edge_at-requires c = let a = c.args in let q = of_batch a.batch.now a.e c.requires in omega (arith, q.0)

pub returns : goal.returns
returns c = let a = c.args in c.edge_at.ensures ∙ sym (of_batch a.batch.now a.e c.requires).1
