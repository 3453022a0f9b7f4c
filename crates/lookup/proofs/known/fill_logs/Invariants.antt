-- `lookup::known::fill_logs` meets its contract. Invariant: what is still to be written, written over what is there, is the whole.
use mathlib.Core.Path.{◌≡◌}
use Prim.Native.Nat.{◌+◌, ◌-◌}
use lib.Seq.{sets}
use Rattle.lookup.specs.Lookup.{logs_from}
use Rattle.lookup.proofs.known.fill_logs.Given as goal

abbrev pub invariant-loop-j : goal.invariant-loop-j
invariant-loop-j l = sets l.out l.j (logs_from (l.d - l.j) l.s (l.first + l.j)) ≡ sets l.initial.out 0 (logs_from l.d l.s l.first)
