use mathlib.Core.Path.{◌≡◌}
use Prim.Native.Nat.{ℕ, ◌+◌, ◌*◌, ◌≤◌}
use mathlib.Core.List.{List}
use lib.ListN.{length, drop}
use Rattle.base.specs.Put.{Left}
use Rattle.write_frame.proofs.put_words.Given as goal

pub record Head (s o : List ℕ) (at : ℕ) (out : List ℕ) (k : ℕ) : Type 0 where
  pub upto : k ≤ length s
  pub left : Left out (at + k) (drop k s) o at s

abbrev pub invariant-loop-w : goal.invariant-loop-w
invariant-loop-w l = Head l.s l.initial.out l.at l.out (8 * l.w)
