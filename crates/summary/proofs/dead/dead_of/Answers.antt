-- `summary::dead::dead_of` meets its contract.
use Rattle.std.proofs.Common.{◌≡◌, ℕ, ◌+◌, List, get_or, arith}
use lib.Count.{ones}
use Rattle.summary.specs.Marked.{Counting}
use Rattle.std.proofs.lemmas.Grind.{common_steps}
use Rattle.summary.proofs.Laws.Marked.{few_ones, counting_start, counting_few, counting_on, counting_end}
use Rattle.summary.proofs.dead.dead_of.Goals as goal

-- the byte that was counted is that of its place
in_place : (s : List ℕ) (n i : ℕ) {x : ℕ} → x ≡ get_or s i 0 → Counting s (n + ones (get_or s i 0)) (i + 1) → Counting s (n + ones x) (i + 1)
in_place s n i e h = rw e h

pub loop-b-init : goal.loop-b-init
loop-b-init c = counting_start c.args.s.now

pub overflow_cast-dead : goal.overflow_cast-dead
overflow_cast-dead c = let few = few_ones c.args.s.now c.loop-b.b-index (omega (arith, c.type_inv.s c.loop-b.b-index)) in omega arith

pub overflow_add-dead : goal.overflow_add-dead
overflow_add-dead c = let l = c.loop-b in
    let few = few_ones c.args.s.now l.b-index (omega (arith, c.type_inv.s l.b-index)) in
    let dead = counting_few _ l.dead l.b-index l.invariant in
    omega arith

pub loop-b-preserved : goal.loop-b-preserved
loop-b-preserved c = let l = c.loop-b in
    in_place c.args.s.now l.dead l.b-index (grind (arith, common_steps)) (counting_on _ l.dead l.b-index l.invariant (grind (arith, common_steps)) (omega (arith, c.type_inv.s l.b-index)))

pub returns : goal.returns
returns c = let l = c.loop-b in counting_end _ l.dead l.b-index l.invariant (grind (arith, common_steps))
