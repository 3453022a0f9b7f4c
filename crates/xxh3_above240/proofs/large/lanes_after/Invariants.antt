use Rattle.std.proofs.Common.{◌≡◌, ℕ, ◌-◌}
use Rattle.xxh3_spec.specs.Xxh3.{run_on, secret}
use Rattle.xxh3_above240.proofs.Stripes.{BlockAt}
use Rattle.xxh3_above240.proofs.large.lanes_after.Given as goal

-- the block ends u stripes after the start of s; u - 16 of them were before it
abbrev pub invariant-loop-end : goal.invariant-loop-end
invariant-loop-end l = (u : ℕ) × (b : ℕ) × BlockAt l.k l.n l.to l.end u b × (l.r ≡ run_on secret l.initial.r l.s l.k (u - 16))

abbrev pub decreases-loop-end : goal.decreases-loop-end
decreases-loop-end l = l.end
