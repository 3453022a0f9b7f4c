-- What the summary's call for C tells of the library's answer.
use Rattle.std.specs.Prelude.{replicate, Option, Some, None, Result, Ok, Err}
use Rattle.codes.specs.Ids.{id_bytes}
use Rattle.summary.specs.declared.figures.Extremes.{Extremes}
use Rattle.summary.specs.declared.figures.Summary.{Summary}
use Rattle.summary.specs.Summary.{nothing}
use Rattle.refusal.specs.declared.Refusal.{Refusal}
use Rattle.edge_sst_c.specs.declared.desk.EdgeSstTold.{EdgeSstTold}
use Rattle.edge_sst_c.specs.declared.figures.ExtremesTold.{ExtremesTold}
use Rattle.edge_sst_c.specs.declared.figures.EdgeSstSummary.{EdgeSstSummary}
use Rattle.edge_sst_c.specs.Desk.{check_told}

-- that there are none
abbrev pub none_told : ExtremesTold
none_told = record { there = 0; smallestkey = replicate 16 0; largestkey = replicate 16 0; smallestlog = 0; largestlog = 0 }

-- 1 and the four, each key as its 16 bytes; or zeros
unfoldable pub extremes_told : Option Extremes → ExtremesTold
extremes_told None = none_told
extremes_told (Some x) = record { there = 1; smallestkey = id_bytes x.smallestkey; largestkey = id_bytes x.largestkey; smallestlog = x.smallestlog; largestlog = x.largestlog }

abbrev pub figures_told : EdgeSstTold → Summary → ExtremesTold → EdgeSstSummary
figures_told told s x = record {
  number = told.number;
  place = told.place;
  beside = told.beside;
  keycount = s.keycount;
  edgecount = s.edgecount;
  tombstones = s.tombstones;
  largestdegree = s.largestdegree;
  extremes = x.there;
  smallestkey = x.smallestkey;
  largestkey = x.largestkey;
  smallestlog = x.smallestlog;
  largestlog = x.largestlog;
  buckets = s.buckets;
}

-- where it is refused, the figures of no edges
unfoldable pub summary_told : Result Summary Refusal → EdgeSstSummary
summary_told (Ok s) = figures_told (check_told (Ok tt)) s (extremes_told s.extremes)
summary_told (Err r) = figures_told (check_told (Err r)) nothing none_told
