use Prim.Native.Nat.{ℕ, ◌+◌, ◌*◌, ◌≤◌}
use native.Mathlib.Omega.{arith}
use native.Mathlib.Nat.{mul-le-mul}
use Rattle.write_plan.specs.Size.{sections_size, file_size}
use Rattle.write_plan.proofs.file_size.Goals as goal

product : (keys w : ℕ) → keys ≤ 67108864 → w ≤ 4 → (keys + 1) * w ≤ 268435460
product keys w h g = let k : keys + 1 ≤ 67108865 = omega arith in mul-le-mul k g

pub overflow_mul-sections-2 : goal.overflow_mul-sections-2
overflow_mul-sections-2 c = let p = product c.args.keys c.args.w c.requires.0 c.requires.1 in omega (arith, p)

pub overflow_add-sections-6 : goal.overflow_add-sections-6
overflow_add-sections-6 c = let p = product c.args.keys c.args.w c.requires.0 c.requires.1 in omega (arith, p)

pub overflow_add-sections-7 : goal.overflow_add-sections-7
overflow_add-sections-7 c = let p = product c.args.keys c.args.w c.requires.0 c.requires.1 in omega (arith, p)

pub overflow_add-result-3 : goal.overflow_add-result-3
overflow_add-result-3 c = let p = product c.args.keys c.args.w c.requires.0 c.requires.1 in omega (arith, p)

pub overflow_add-result-4 : goal.overflow_add-result-4
overflow_add-result-4 c = let p = product c.args.keys c.args.w c.requires.0 c.requires.1 in omega (arith, p)

pub returns : goal.returns
unfolding file_size sections_size
returns c = omega (arith, c.tomb_size-t.ensures.0, c.fences_size-f.ensures.0, c.starts_size-s.ensures.0, c.section_count-count.ensures.0)
