use mathlib.Core.Path.{◌≡◌, refl, sym, ap, subst, ◌∙◌}
use Prim.Native.Nat.{ℕ, ◌≤◌}
use native.Mathlib.Omega.{arith}
use mathlib.Core.List.{List}
use lib.ListN.{length, get_or}
use Rattle.base.specs.Over.{over, part, length_part}
use Rattle.batch.specs.declared.Edge.{Edge}
use Rattle.batch.specs.Batch.{heading_of, edges_of, batch_check}
use Rattle.batch_groups.specs.Groups.{groups_of, Grouped}
use Rattle.batch_groups.proofs.Laws.Order.{fine_long}
use Rattle.write_image.specs.Image.{file_of}
use Rattle.write_plan.specs.declared.Plan.{Plan}
use Rattle.write_plan.specs.Parts.{length_file}
use Rattle.write_plan.specs.Bounds.{PlanFits, few}
use Rattle.write_file.specs.Written.{Wrote}
use Rattle.write_file.specs.Fine.{ids_long, needed_is}
use Rattle.write_file.specs.Written.Laws.{wrote_short, wrote_all}
use Rattle.write_file.proofs.write_plan.Goals as goal
use Rattle.std.specs.Prelude.{Ok}

module _ (s : List ℕ) (f : batch_check s ≡ (Ok tt)) (p : Plan) (fits : PlanFits (edges_of s) p) where
  done : (o : List ℕ) → p.bytes ≤ length o → (o' : List ℕ) → o' ≡ over (file_of (record { direction = get_or s 1 0; ids = part s 2 50 }) (edges_of s)) o → Wrote s o (Ok p.bytes) o'
  unfolding heading_of
  done o h o' e = wrote_all s o p.bytes (needed_is s f p fits) h o' e

pub returns-then-out-plan : goal.returns-then-out-plan
returns-then-out-plan c = let a = c.args in wrote_short a.batch.now a.out.now a.plan.bytes (needed_is a.batch.now c.requires.0 a.plan c.requires.1) c.if-out-plan.true

pub bounds-batch-1 : goal.bounds-batch-1
bounds-batch-1 c = let a = c.args in omega (arith, fine_long a.batch.now c.requires.0)

pub slice_bounds-put_file-end : goal.slice_bounds-put_file-end
slice_bounds-put_file-end c = let a = c.args in omega (arith, fine_long a.batch.now c.requires.0)

pub put_file-requires : goal.put_file-requires
put_file-requires c = let a = c.args in (c.requires.1, c.requires.2, ids_long a.batch.now c.requires.0, omega arith)

pub returns : goal.returns
returns c = let a = c.args in done a.batch.now c.requires.0 a.plan c.requires.1 a.out.now (omega arith) _ c.put_file.ensures
