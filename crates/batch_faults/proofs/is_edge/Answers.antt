use native.Mathlib.Omega.{arith}
use borrow.Author.Tests.{eq-eqb, ne_eqb}
use Rattle.batch_faults.proofs.is_edge.Goals as goal

pub returns-then-kind-eq-LIVE : goal.returns-then-kind-eq-LIVE
returns-then-kind-eq-LIVE c = simp (eq-eqb c.args.kind 1 (omega arith))

pub returns-else-kind-eq-LIVE : goal.returns-else-kind-eq-LIVE
returns-else-kind-eq-LIVE c = simp (ne_eqb c.args.kind 1 (λ q. omega arith))
