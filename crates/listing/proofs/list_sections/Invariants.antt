-- The table after i turns: its first i rows are written.
use Rattle.std.proofs.Common.{◌≡◌}
use Rattle.listing.specs.List.{listed}
use Rattle.listing.proofs.list_sections.Given as goal

abbrev pub invariant-loop-i : goal.invariant-loop-i
invariant-loop-i l = l.rows ≡ listed l.file l.i l.fn.rows
