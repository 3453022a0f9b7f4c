-- `index::keys::keys_check` meets its contract. Invariant: `last` is the upper half of the key before k, and what is left to check from k on gives the whole.
use mathlib.Core.Path.{◌≡◌, ◌∙◌, sym, ap, refl}
use Prim.Native.Nat.{ℕ, ◌+◌, ◌-◌, ◌*◌, ◌≤◌}
use native.Mathlib.Omega.{arith}
use mathlib.Core.Bool.{Bool}
use mathlib.Core.List.{List}
use lib.Dec.{ltb}
use Rattle.codes.specs.Ids.{be_at, id_at}
use Rattle.frame.specs.Open.{key_at}
use Rattle.index.specs.Cases.{keys_bad, keys_on, keys_none}
use Rattle.index.proofs.keys.keys_check.Goals as goal

-- the place of the key before k
before : (k : ℕ) → 1 ≤ k → k * 16 - 16 ≡ (k - 1) * 16
before k h = omega arith

-- what `precedes` answered, of the keys
said : (s : List ℕ) (k : ℕ) → 1 ≤ k → {r b : Bool} → r ≡ ltb (id_at s (k * 16 - 16)) (id_at s (k * 16)) → r ≡ b → ltb (key_at s (k - 1)) (key_at s k) ≡ b
said s k h e q = sym (e ∙ ap (λ (t : ℕ). ltb (id_at s t) (id_at s (k * 16))) (before k h)) ∙ q

pub returns-then-n-eq0 : goal.returns-then-n-eq0
returns-then-n-eq0 c = sym (keys_none c.args.keys.now c.args.n 1 (omega arith))

pub loop-k-init : goal.loop-k-init
loop-k-init c = (c.be64-last.ensures, refl)

pub precedes-requires : goal.precedes-requires
precedes-requires c =
    let a = c.args in
    let l = c.loop-k in
    let place = before l.k (omega arith) in
    (omega arith, omega arith, l.invariant.0 ∙ ap (λ (t : ℕ). be_at a.keys.now t 8) (sym place), c.be64-hi.ensures)

pub returns-then-not-precedes : goal.returns-then-not-precedes
returns-then-not-precedes c =
    let a = c.args in
    let l = c.loop-k in
    sym (keys_bad a.keys.now a.n l.k (omega arith) (said a.keys.now l.k (omega arith) c.precedes.ensures c.if-not-precedes.true)) ∙ l.invariant.1

pub loop-k-preserved : goal.loop-k-preserved
loop-k-preserved c =
    let a = c.args in
    let l = c.loop-k in
    let back : l.k + 1 - 1 ≡ l.k = omega arith in (
      rw back c.be64-hi.ensures,
      sym (keys_on a.keys.now a.n l.k (omega arith) (said a.keys.now l.k (omega arith) c.precedes.ensures c.if-not-precedes.false)) ∙ l.invariant.1,
    )

pub returns : goal.returns
returns c =
    let a = c.args in
    let l = c.loop-k in
    sym (keys_none a.keys.now a.n l.k (omega arith)) ∙ l.invariant.1
