-- `lookup::known::fill_marks` meets its contract. Invariant: what is still to be written, written over what is there, is the whole.
use mathlib.Core.Path.{◌≡◌}
use Prim.Native.Nat.{◌+◌, ◌-◌}
use lib.Seq.{sets}
use Rattle.lookup.specs.Lookup.{marks_from}
use Rattle.lookup.proofs.known.fill_marks.Given as goal

abbrev pub invariant-loop-j : goal.invariant-loop-j
invariant-loop-j l = sets l.out l.j (marks_from (l.d - l.j) l.s (l.first + l.j)) ≡ sets l.initial.out 0 (marks_from l.d l.s l.first)
