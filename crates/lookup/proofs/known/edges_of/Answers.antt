-- `lookup::known::edges_of` meets its contract.
use mathlib.Core.Path.{◌≡◌, ap, ◌∙◌}
use Prim.Native.Nat.{ℕ, ◌+◌, ◌*◌, ◌/◌, ◌≤◌}
use mathlib.Core.List.{List}
use mathlib.Core.Bool.{true, false}
use native.Mathlib.Nat.{mul-le-mul_right}
use lib.ListN.{length}
use Rattle.frame.specs.declared.Opened.{Opened}
use Rattle.frame.specs.Open.{known_of, bytes_at}
use Rattle.degrees.specs.Degrees.{edges_before, start_of, capped}
use Rattle.lookup.specs.Lookup.{before}
use native.Mathlib.Omega.{arith}
use Rattle.std.specs.Prelude.{Option}
use Rattle.lookup.proofs.known.edges_of.Goals as goal

module _ (f : List ℕ) (o : Opened) (i d : ℕ) where
  by_index : o.indexed ≡ true → {s : List ℕ} {r : Option ℕ} → s ≡ bytes_at f o.starts → r ≡ capped o.edgecount (start_of s i d)
      → r ≡ capped o.edgecount (before (known_of f o) i d)
  unfolding before known_of
  by_index m e q = rw m (q ∙ ap (λ (s : List ℕ). capped o.edgecount (start_of s i d)) e)

  by_sum : o.indexed ≡ false → {p q : List ℕ} {r : Option ℕ} → p ≡ bytes_at f o.partners → q ≡ bytes_at f o.offsets
      → r ≡ capped o.edgecount (edges_before p q (o.bits / 8) i) → r ≡ capped o.edgecount (before (known_of f o) i d)
  unfolding before known_of
  by_sum m e g h = rw m (h ∙ (λ t. capped o.edgecount (edges_before (e t) (g t) (o.bits / 8) i)))

pub bytes_of-requires : goal.bytes_of-requires
bytes_of-requires c = c.requires.0.starts c.if-o.true

pub start_of-requires : goal.start_of-requires
start_of-requires c =
    let p = c.requires.0 in
    let h = c.requires.1 in
    let few = p.few in
    let l = ap length c.bytes_of.ensures in
    let m = p.startbytes c.if-o.true in
    (omega arith, omega arith)

pub returns-then-o : goal.returns-then-o
returns-then-o c =
    let a = c.args in
    by_index a.file.now a.o a.i a.d c.if-o.true c.bytes_of.ensures c.start_of.ensures

pub edges_before-requires : goal.edges_before-requires
edges_before-requires c =
    let a = c.args in
    let p = c.requires.0 in
    let h = c.requires.1 in
    let l = ap length c.bytes_of-3.ensures in
    let k = p.offsetbytes in
    let f = p.few in
    let m : (a.i + 1) * (a.o.bits / 8) ≤ (a.o.keycount + 1) * (a.o.bits / 8) = mul-le-mul_right (a.o.bits / 8) (omega arith) in
    (p.narrow, p.wide, omega arith, omega arith)

pub returns : goal.returns
returns c =
    let a = c.args in
    by_sum a.file.now a.o a.i a.d c.if-o.false c.bytes_of-2.ensures c.bytes_of-3.ensures c.edges_before.ensures
