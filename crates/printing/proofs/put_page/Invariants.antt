-- `printing::put_page` meets its contract. Invariant: the lines before `next` are put, and none takes more than its room.
use mathlib.Core.Path.{◌≡◌}
use Prim.Native.Nat.{ℕ, ◌-◌, ◌*◌, ◌≤◌}
use mathlib.Core.List.{List}
use lib.ListN.{length}
use Rattle.base.specs.Put.{Put}
use Rattle.printing.specs.Printed.{lines_from, line_room, line_count}
use Rattle.printing.proofs.put_page.Given as goal

pub record Head (minor keys : ℕ) (s o : List ℕ) (from : ℕ) (out : List ℕ) (next at : ℕ) : Type 0 where
  pub begun : from ≤ next
  pub upto : next ≤ line_count s
  pub same : length out ≡ length o
  pub within : at ≤ length o
  pub few : at ≤ line_room * (next - from)
  pub lines : Put o out 0 at (lines_from minor keys s (next - from) from)

abbrev pub invariant-loop-next : goal.invariant-loop-next
invariant-loop-next l = Head l.minor l.keys l.batch l.initial.out l.from l.out l.next l.at
