-- `degrees::start_of` meets its contract.
use mathlib.Core.Path.{◌≡◌, sym, ap, ◌∙◌}
use borrow.Author.Tests.{eq-eqb, eqb-true}
use Rattle.degrees.specs.Degrees.Laws.{start_over, start_unlike, start_told}
use native.Mathlib.Omega.{arith}
use Rattle.degrees.proofs.start_of.Goals as goal
use Rattle.degrees.proofs.start_of.Goals.{else-edges-most-via-then-edges-most+else-eq, else-edges-most-via-else-edges-most}
use Prim.Native.Nat.{ℕ, ◌+◌, ◌-◌, ◌≤◌}
use mathlib.Core.Bool.{true, false}
use Rattle.std.specs.Prelude.{Option, Some, None, SomeIff, eqb}
use Rattle.std.specs.Option.{option_eq}

-- a difference that is d
taken : (r : Option ℕ) (m n d : ℕ) → SomeIff r (m ≤ n) (n - m) → true ≡ option_eq eqb r (Some d) → m + d ≡ n
taken None m n d h e = let z : ◌≡◌ {A = ℕ} 0 1 = cc in absurd (omega arith)
taken (Some x) m n d h e = let same = eqb-true x d (sym e) in omega (arith, h.0, h.1, same)

-- and one that is not
not_taken : (r : Option ℕ) (m n d : ℕ) → SomeIff r (m ≤ n) (n - m) → false ≡ option_eq eqb r (Some d) → m + d ≡ n → ⊥
not_taken None m n d h e q = h (omega arith)
not_taken (Some x) m n d h e q =
    let t : eqb x d ≡ true = eq-eqb x d (omega (arith, h.1)) in
    let z : ◌≡◌ {A = ℕ} 0 1 = cc in
    omega arith

pub returns-then-eq : goal.returns-then-eq
returns-then-eq c =
    let a = c.args in
    let edges = c.start_at-edges.ensures in
    let next = c.start_at-next.ensures in
    let d = taken _ _ _ _ c.checked_sub.ensures c.if-eq.ensures in
    ap Some edges ∙ sym (start_told a.most a.starts.now a.i a.d (omega arith) (omega arith))

pub returns : goal.returns
returns c =
    let a = c.args in
    let edges = c.start_at-edges.ensures in
    let next = c.start_at-next.ensures in
    elim c.else-edges-most.branch [
      | else-edges-most-via-then-edges-most+else-eq w ↦ sym (start_unlike a.most a.starts.now a.i a.d (λ q. not_taken _ _ _ _ w.checked_sub.ensures w.if-eq.ensures (omega arith)))
      | else-edges-most-via-else-edges-most w ↦ sym (start_over a.most a.starts.now a.i a.d (omega arith))
    ]
