use mathlib.Core.Path.{◌≡◌, sym, ap, subst, ◌∙◌}
use Prim.Native.Nat.{ℕ, ◌+◌, ◌≤◌}
use native.Mathlib.Omega.{arith}
use mathlib.Core.List.{List, [], ◌++◌, append-nil}
use mathlib.Core.Bool.{Bool, true, false}
use lib.ListN.{length}
use Rattle.base.specs.Pick.{pick}
use Rattle.base.specs.Over.{part}
use Rattle.base.specs.Put.{Put}
use Rattle.batch.specs.declared.Edge.{Edge}
use Rattle.write_image.specs.Image.{log_bytes, tomb_bytes}
use Rattle.write_image.specs.Image.Laws.{logs_rest}
use Rattle.batch.specs.Batch.{edges_of}
use Rattle.write_contents.proofs.payload.put_by_edge.Goals as goal

module _ (es : List Edge) (dead : Bool) where
  abbrev marked : List ℕ
  marked = log_bytes es ++ pick dead (tomb_bytes es) []

  both : dead ≡ true → marked ≡ log_bytes es ++ tomb_bytes es
  both e = ap (λ (t : Bool). log_bytes es ++ pick t (tomb_bytes es) []) e

  alone : dead ≡ false → (n : ℕ) → n ≡ length es → marked ≡ log_bytes (part es 0 n)
  alone e n l =
      ap (λ (t : Bool). log_bytes es ++ pick t (tomb_bytes es) []) e ∙ append-nil (log_bytes es) ∙ logs_rest es 0 n l

  module _ (o : List ℕ) (at : ℕ) {xs : List ℕ} (e : marked ≡ xs) where
    room : at + length marked ≤ length o → at + length xs ≤ length o
    room h = subst (λ (t : List ℕ). at + length t ≤ length o) e h

    written : {o₁ : List ℕ} {r : ℕ} → Put o o₁ at r xs → Put o o₁ at r marked
    written {o₁} {r} p = subst (Put o o₁ at r) (sym e) p

pub put_logs_tombs-requires : goal.put_logs_tombs-requires
put_logs_tombs-requires c = let a = c.args in let es = edges_of a.batch.now in (c.requires.0, c.requires.1, room es a.dead a.out.now a.at (both es a.dead c.if-dead.true) c.requires.2)

pub returns-then-dead : goal.returns-then-dead
returns-then-dead c = let a = c.args in let es = edges_of a.batch.now in written es a.dead a.out.now a.at (both es a.dead c.if-dead.true) c.put_logs_tombs.ensures

pub put_logs-requires : goal.put_logs-requires
put_logs-requires c = let a = c.args in let es = edges_of a.batch.now in (omega arith, omega arith, room es a.dead a.out.now a.at (alone es a.dead c.if-dead.false a.n c.requires.0) c.requires.2)

pub returns : goal.returns
returns c = let a = c.args in let es = edges_of a.batch.now in written es a.dead a.out.now a.at (alone es a.dead c.if-dead.false a.n c.requires.0) c.put_logs.ensures
