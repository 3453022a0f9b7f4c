-- `printing::dead_in` meets its contract. Invariant: the dead so far and those of the edges that are left are all of them.
use mathlib.Core.Path.{◌≡◌, refl, ap, ◌∙◌}
use Prim.Native.Nat.{ℕ, suc, ◌+◌, ◌-◌, ◌≤◌}
use native.Mathlib.Nat.{zero-add, sub-zero}
use native.Mathlib.Omega.{arith}
use mathlib.Core.Bool.{Bool, true, false}
use Rattle.std.specs.Int.{from_bool}
use Rattle.base.specs.Pick.{pick}
use Rattle.batch.specs.declared.Edge.{Edge}
use Rattle.batch.specs.Batch.{edge_at, edges_at, edges_of, place}
use Rattle.printing.specs.Printed.{dead_in}
use Rattle.printing.proofs.Laws.Printed.{dead_more, dead_none, dead_all}
use Rattle.printing.proofs.dead_in.Goals as goal

at_most_one : (b : Bool) → pick b 1 0 ≤ 1
at_most_one true = omega arith
at_most_one false = omega arith

one_if : (b : Bool) → from_bool b ≡ pick b 1 0
one_if true = refl
one_if false = refl

pub loop-k-init : goal.loop-k-init
loop-k-init c =
    let s = c.args.batch.now in
    let e = c.edge_count-edges.ensures in
    (omega arith, zero-add _ ∙ ap (λ (n : ℕ). dead_in (edges_at n s 0)) (sub-zero _ ∙ e) ∙ dead_all s)

pub edge_at-e-requires : goal.edge_at-e-requires
edge_at-e-requires c = let e = c.edge_count-edges.ensures in omega arith

pub overflow_add-dead : goal.overflow_add-dead
overflow_add-dead c = let b = at_most_one c.edge_at-e.result.dead in let e = c.from-dead.ensures ∙ one_if c.edge_at-e.result.dead in omega arith

pub loop-k-preserved : goal.loop-k-preserved
loop-k-preserved c =
    let s = c.args.batch.now in
    let l = c.loop-k in
    let n = c.edge_count-edges.result in
    let b = at_most_one c.edge_at-e.result.dead in
    let e = c.from-dead.ensures ∙ one_if c.edge_at-e.result.dead in
    let same : c.from-dead.result ≡ pick (edge_at s (place l.k)).dead 1 0 = e ∙ ap (λ (x : Edge). pick x.dead 1 0) c.edge_at-e.ensures in
    let left : n - l.k ≡ suc (n - (l.k + 1)) = omega arith in
    let more = dead_more s (n - (l.k + 1)) l.k in
    let sum : l.dead + dead_in (edges_at (suc (n - (l.k + 1))) s l.k) ≡ dead_in (edges_of s) = (rw left at l.invariant.1) in
    (omega arith, omega arith)

pub returns : goal.returns
returns c =
    let s = c.args.batch.now in
    let l = c.loop-k in
    let n = c.edge_count-edges.result in
    let none : n - l.k ≡ 0 = omega arith in
    let zero = dead_none s l.k in
    let sum : l.dead + dead_in (edges_at 0 s l.k) ≡ dead_in (edges_of s) = (rw none at l.invariant.1) in
    omega arith
