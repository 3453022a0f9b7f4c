use mathlib.Core.Path.{◌≡◌}
use Prim.Native.Nat.{ℕ, ◌+◌, ◌-◌, ◌*◌, ◌≤◌}
use mathlib.Core.List.{List}
use mathlib.Core.Bool.{Bool, ◌||◌}
use lib.ListN.{length, drop}
use Rattle.batch.specs.declared.Edge.{Edge}
use Rattle.batch_groups.specs.Groups.{groups_of, Grouped}
use Rattle.write_image.specs.Image.{any_dense, partner_bytes}
use Rattle.batch.specs.Batch.{edges_of}
use Rattle.write_sections.proofs.by_key.partners_size.Given as goal

pub record Head (es : List Edge) (n keys i bytes : ℕ) (dense : Bool) : Type 0 where
  pub upto : i ≤ n
  pub rest : Grouped 0 (groups_of (drop i es))
  pub sum : bytes + length (partner_bytes keys (groups_of (drop i es))) ≡ length (partner_bytes keys (groups_of es))
  pub some : (dense || any_dense keys (groups_of (drop i es))) ≡ any_dense keys (groups_of es)
  pub most : bytes ≤ 29 * i

abbrev pub invariant-loop-i : goal.invariant-loop-i
invariant-loop-i l = Head (edges_of l.batch) l.n l.keys l.i l.bytes l.dense

abbrev pub decreases-loop-i : goal.decreases-loop-i
decreases-loop-i l = l.n - l.i
