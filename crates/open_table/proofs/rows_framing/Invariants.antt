-- `rows_framing` meets its contract. Invariant: what is noted of the entries so far, with what is still to come, is what the whole table says.
use Rattle.open_table.specs.Pass.Laws.{Passing}
use Rattle.open_table.proofs.rows_framing.Given as goal

abbrev pub invariant-loop-k : goal.invariant-loop-k
invariant-loop-k l = Passing l.b l.limit l.count l.k l.i l.seen l.places
