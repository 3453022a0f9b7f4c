-- Keys below the first: none is counted.
use Rattle.std.specs.Prelude.{◌≡◌, refl, ℕ, suc, ◌+◌, ◌≤◌, Bool}
use Rattle.std.proofs.Math.Path.{ap₂}
use Rattle.std.proofs.Common.{arith, le-ltb}
use mathlib.Core.List.{List, [], ◌∷◌}
use Rattle.base.specs.Pick.{pick}
use Rattle.codes.specs.Ids.{id_number}
use Rattle.batch_groups.specs.Groups.{Group, Grouped}
use Rattle.demand2.specs.Answers.{index_in}

-- keys that are not below k
pub none_below : (k floor : ℕ) (gs : List Group) → Grouped floor gs → k ≤ floor → index_in k gs ≡ 0
unfolding index_in Grouped
none_below k floor [] o h = refl
none_below k floor (g ∷ gs) o h =
    let low = o.0 in
    let rest = none_below k (suc (id_number g.key)) gs o.4 (omega arith) in
    ap₂ (λ (b : Bool) (n : ℕ). pick b 1 0 + n) (le-ltb (id_number g.key) k (omega arith)) rest
