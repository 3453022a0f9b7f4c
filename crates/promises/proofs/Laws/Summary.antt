-- What the query planner may rely on, in one statement. It speaks of edges and of no file's layout: files with equal read-outs cannot be told
-- apart by it.
use Rattle.std.specs.Prelude.{◌≡◌, refl, List, [], ◌∷◌, ◌-◌, ◌^◌, replicate, Ok, Some}
use Rattle.std.proofs.Common.{sym, ap, ◌∙◌}
use Rattle.batch.specs.declared.Edge.{Edge}
use Rattle.batch.specs.Batch.{edge_at, edges_at, edges_of, logs_in}
use Rattle.batch_groups.specs.Groups.{join, groups_of}
use Rattle.write_image.specs.Cases.{mixed, mixed_file, mixed_written}
use Rattle.demand2.proofs.Laws.Cases.{mixed_lawful}
use Rattle.demand2.specs.Demand2.{file_for}
use Rattle.demand2.proofs.Laws.Demand2.{demand_2, edges_written}
use Rattle.codes.specs.Little.{le_at}
use Rattle.codes.specs.Ids.{be_at, be_bytes, halves_at, id_bytes}
use Rattle.summary.specs.declared.figures.Extremes.{Extremes}
use Rattle.summary.specs.declared.figures.Summary.{Summary}
use Rattle.summary.specs.Summary.{smallest, largest, smallest_key, largest_key, extremes_of, degrees_of, bucket, buckets_from, dead_in, summary_of, summarised_of}
use Rattle.summary.proofs.Laws.Promise.{summary_passes, summary_refuses, summary_sums, summary_degrees, summary_keys, summary_of_batch, same_summary}
use Rattle.edge_sst_c.specs.Desk.{check_told}
use Rattle.edge_sst_c.specs.Summary.{extremes_told, summary_told}
use Rattle.promises.specs.Summary.{DegreeSummary}

pub degree_summary : DegreeSummary
degree_summary = record {
  passes = summary_passes;
  refuses = summary_refuses;
  sums = summary_sums;
  degrees = summary_degrees;
  keys = summary_keys;
  of_batch = summary_of_batch;
  same = same_summary;
  written = λ s lawful. summary_passes (file_for s) (demand_2 s lawful).passes_check ∙ ap (λ (es : List Edge). Ok (summary_of es)) (edges_written s lawful);
}

-- ---- a file of bytes, byte for byte, with a dead edge: two keys of two edges and one

abbrev three : Summary
three = record {
  keycount = 2;
  edgecount = 3;
  tombstones = 1;
  largestdegree = 2;
  extremes = Some (record { smallestkey = (record { hi = 1; lo = 2 }); largestkey = (record { hi = 1; lo = 3 }); smallestlog = 7; largestlog = (2 ^ 64 - 1) });
  buckets = 1 ∷ 1 ∷ replicate 62 0;
}

of_three : summary_of (edges_of mixed) ≡ three
unfolding summary_of smallest largest smallest_key largest_key extremes_of degrees_of bucket buckets_from dead_in logs_in join groups_of mixed edge_at edges_at edges_of halves_at be_at le_at
of_three = refl

pub mixed_summary : summarised_of mixed_file ≡ Ok three
mixed_summary = ap summarised_of (sym mixed_written) ∙ degree_summary.written mixed mixed_lawful ∙ ap Ok of_three

-- and as C is told of it
pub mixed_told : summary_told (summarised_of mixed_file) ≡ record {
  number = 0;
  place = 0;
  beside = 0;
  keycount = 2;
  edgecount = 3;
  tombstones = 1;
  largestdegree = 2;
  extremes = 1;
  smallestkey = 0 ∷ 0 ∷ 0 ∷ 0 ∷ 0 ∷ 0 ∷ 0 ∷ 1 ∷ 0 ∷ 0 ∷ 0 ∷ 0 ∷ 0 ∷ 0 ∷ 0 ∷ 2 ∷ [];
  largestkey = 0 ∷ 0 ∷ 0 ∷ 0 ∷ 0 ∷ 0 ∷ 0 ∷ 1 ∷ 0 ∷ 0 ∷ 0 ∷ 0 ∷ 0 ∷ 0 ∷ 0 ∷ 3 ∷ [];
  smallestlog = 7;
  largestlog = 2 ^ 64 - 1;
  buckets = 1 ∷ 1 ∷ replicate 62 0;
}
unfolding summary_told extremes_told check_told id_bytes be_bytes
mixed_told = ap summary_told mixed_summary
