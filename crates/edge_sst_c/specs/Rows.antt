-- The rows that the numbers of `edge_sst_sections` say.
use Rattle.std.specs.Prelude.{ℕ, List, get_or}
use Rattle.frame.specs.declared.Row.{Row}

-- the row that seven numbers say, in the order of EdgeSstRow in include/edge_sst.h
abbrev pub row_from : List ℕ → Row
row_from c = record {
  kind = get_or c 0 0;
  codec = get_or c 1 0;
  nameat = get_or c 2 0;
  namelen = get_or c 3 0;
  start = get_or c 4 0;
  len = get_or c 5 0;
  sum = get_or c 6 0;
}
