-- `group::dense::check_dense` meets its contract. Invariant: k partners were good, `last` is the upper half of the last of them, and what is left gives the whole answer.
use mathlib.Core.Path.{◌≡◌, refl, ap₂, ◌∙◌}
use Prim.Native.Nat.{ℕ, suc, ◌+◌, ◌-◌, ◌*◌, ◌≤◌, ◌<◌}
use native.Mathlib.Omega.{arith}
use mathlib.Core.Bool.{Bool, true, false}
use mathlib.Core.List.{List}
use lib.ListN.{length}
use lib.Dec.{ltb}
use borrow.Author.Tests.{le-leb}
use Rattle.codes.specs.Ids.{be_at, id_at, halves_at, id_number}
use Rattle.codes.specs.Ids.Laws.{number_halves}
use Rattle.group.specs.declared.fault.Flaw.{Flaw}
use Rattle.group.specs.Fault.{fault_at}
use Rattle.group.proofs.Laws.Group.{answered, Checked, check_start, check_bad, check_low, check_more, step_dense, dense_short, dense_at}
use Rattle.group.proofs.dense.check_dense.Given as goal
use Rattle.std.specs.Prelude.{Err}

module _ (g : List ℕ) (at degree : ℕ) where
  -- k partners were good: what is left, after the partner at j, gives the whole
  abbrev pub Left : ℕ → ℕ → ℕ → Type 0
  Left i k j = Checked true g at degree i k (halves_at g j).hi (suc (id_number (halves_at g j)))

  -- the partner before i has the upper half `last`
  abbrev pub Passed : ℕ → ℕ → ℕ → Type 0
  Passed last i k = (k ≤ degree) × (i ≡ at + 16 * k) × (16 ≤ i) × (last ≡ be_at g (i - 16) 8) × Left i k (i - 16)

  module _ (room : at + 16 ≤ length g) (some : 1 ≤ degree) where
    pub first : Left (at + 16) 1 at
    first =
        let p = halves_at g at in
        check_more true g at degree at 0 0 0 (check_start true g at degree) (omega arith) p (at + 16) (dense_at g at 0 refl room)
        (le-leb 0 (id_number p) (omega arith))

    pub passed_first : {hi : ℕ} → hi ≡ be_at g at 8 → Passed hi (at + 16) 1
    passed_first q =
        let back : at + 16 - 16 ≡ at = omega arith in
        (omega arith, omega arith, omega arith, rw back q, rw back first)

  module _ (last i k : ℕ) (l : Passed last i k) (room : i + 16 ≤ length g) (lt : k < degree) where
    -- the partners as they were compared
    pub compared : (b : Bool) → ltb (id_at g (i - 16)) (id_at g i) ≡ b → ltb (id_number (halves_at g (i - 16))) (id_number (halves_at g i)) ≡ b
    compared b q = ap₂ ltb (number_halves g (i - 16)) (number_halves g i) ∙ q

    pub passed_low : ltb (id_at g (i - 16)) (id_at g i) ≡ false → answered true g at degree ≡ Err (fault_at Flaw.Order i)
    passed_low q =
        check_low true g at degree i k (halves_at g (i - 16)).hi (suc (id_number (halves_at g (i - 16)))) l.4 lt
        (halves_at g i) (i + 16) (dense_at g i (halves_at g (i - 16)).hi refl room) (compared false q)

    pub next : ltb (id_at g (i - 16)) (id_at g i) ≡ true → Left (i + 16) (k + 1) i
    next q =
        check_more true g at degree i k (halves_at g (i - 16)).hi (suc (id_number (halves_at g (i - 16)))) l.4 lt
        (halves_at g i) (i + 16) (dense_at g i (halves_at g (i - 16)).hi refl room) (compared true q)

    pub passed_on : {hi : ℕ} → hi ≡ be_at g i 8 → ltb (id_at g (i - 16)) (id_at g i) ≡ true → Passed hi (at + 16 * (k + 1)) (k + 1)
    passed_on e q =
        let place = l.1 in
        let back : at + 16 * (k + 1) - 16 ≡ i = omega arith in
        let on : at + 16 * (k + 1) ≡ i + 16 = omega arith in
        (omega arith, omega arith, omega arith, rw back e, rw (back, on) (next q))

  -- the next partner does not lie whole
  pub cut : (i k hi floor : ℕ) → Checked true g at degree i k hi floor → k < degree → length g < i + 16 → answered true g at degree ≡ Err (fault_at Flaw.Cut i)
  cut i k hi floor l lt few = check_bad true g at degree i k hi floor l lt (fault_at Flaw.Cut i) (step_dense g i hi ∙ dense_short g i few)

abbrev pub invariant-loop-k : goal.invariant-loop-k
invariant-loop-k l = Passed l.g l.at l.degree l.last (l.at + 16 * l.k) l.k
