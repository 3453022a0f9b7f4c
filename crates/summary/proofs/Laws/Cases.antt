-- Summaries computed by the definitions: degrees at both sides of powers of two, the ends of log numbers, dead edges, none.
use Rattle.std.specs.Prelude.{◌≡◌, ℕ, zero, suc, ◌+◌, ◌-◌, ◌^◌, Bool, true, false, List, [], ◌∷◌, ◌++◌, replicate, slice_set, refl, Ok, Some, Err}
use Rattle.codes.specs.Little.{le_at}
use Rattle.codes.specs.Ids.{be_at, id_at, halves_at}
use Rattle.codes.specs.Varint.{last_byte, var_from, varint_at}
use Rattle.refusal.specs.declared.Refusal.{Refusal}
use Rattle.frame.specs.Frame.{row_at, rows_from, rows_of, has, section_of, body_of, record_from, record_of}
use Rattle.frame.specs.Open.{known_of}
use Rattle.frame.proofs.Laws.Cases.{heading_only, one_edge}
use Rattle.group.specs.Group.{onVarint, split_step, dense_step, step_at, on_step, cons, walk_from, degree_of, head_of, on_head, group_of, partners_of}
use Rattle.batch.specs.declared.Edge.{Edge}
use Rattle.batch.specs.Batch.{logs_in}
use Rattle.batch_groups.specs.Groups.{join, groups_of}
use Rattle.readout.specs.Edges.{edges_from, read_from, edges_in}
use Rattle.readout.specs.Cases.{cases_pass, damaged}
use Rattle.summary.specs.declared.figures.Extremes.{Extremes}
use Rattle.summary.specs.Summary.{smallest, largest, smallest_key, largest_key, extremes_of, degrees_of, bucket, buckets_from, buckets_of, dead_in, nothing, summary_of, summarised_of}
use Rattle.summary.proofs.Laws.Promise.{summary_passes, summary_refuses}

-- bucket 0 is of degree 1, bucket 1 of 2 and 3, bucket 2 of 4 to 7; 1,023 is in bucket 9, 1,024 in 10, 5,000 in 12, 2^26 in 26
pub by_degrees : buckets_of (1 ∷ 2 ∷ 3 ∷ 4 ∷ 7 ∷ 8 ∷ 1023 ∷ 1024 ∷ 5000 ∷ 67108863 ∷ 67108864 ∷ [])
    ≡ (1 ∷ 2 ∷ 2 ∷ 1 ∷ 0 ∷ 0 ∷ 0 ∷ 0 ∷ 0 ∷ 1 ∷ 1 ∷ 0 ∷ 1 ∷ 0 ∷ 0 ∷ 0 ∷ 0 ∷ 0 ∷ 0 ∷ 0 ∷ 0 ∷ 0 ∷ 0 ∷ 0 ∷ 0 ∷ 1 ∷ 1 ∷ []) ++ replicate 37 0
unfolding bucket buckets_from
by_degrees = refl

-- 2^i and 2^(i+1) - 1, of n buckets from bucket i on
unfoldable pub sides : ℕ → ℕ → List ℕ
sides zero i = []
sides (suc n) i = 2 ^ i ∷ (2 ^ (i + 1) - 1) ∷ sides n (i + 1)

-- both are in bucket i, of each bucket that a file can fill
pub by_sides : buckets_of (sides 27 0) ≡ replicate 27 2 ++ replicate 37 0
unfolding bucket buckets_from sides
by_sides = refl

abbrev edge : ℕ → ℕ → ℕ → ℕ → Bool → Edge
edge hi lo p log dead = record { key = record { hi = hi; lo = lo }; partner = record { hi = 0; lo = p }; log = log; dead = dead }

-- three keys of 2, 1 and 3 edges, whose lower halves fall; four edges are dead, all of the first key among them; the smallest log
-- number is of the last key, the largest of the first, and both are of dead edges
abbrev six : List Edge
six = edge 4 8 1 (2 ^ 64 - 1) true ∷ edge 4 8 2 7 true ∷ edge 5 7 1 8 false ∷ edge (2 ^ 64 - 1) 6 1 9 false ∷ edge (2 ^ 64 - 1) 6 2 0 true ∷ edge (2 ^ 64 - 1) 6 3 9 true ∷ []

pub of_six : summary_of six ≡ record {
  keycount = 3;
  edgecount = 6;
  tombstones = 4;
  largestdegree = 3;
  extremes = Some (record { smallestkey = (record { hi = 4; lo = 8 }); largestkey = (record { hi = 2 ^ 64 - 1; lo = 6 }); smallestlog = 0; largestlog = (2 ^ 64 - 1) });
  buckets = 1 ∷ 2 ∷ replicate 62 0;
}
unfolding summary_of smallest largest smallest_key largest_key extremes_of degrees_of bucket buckets_from dead_in logs_in join groups_of
of_six = refl

-- of no edges
pub of_none : summary_of [] ≡ nothing
unfolding summary_of largest extremes_of degrees_of bucket buckets_from dead_in groups_of
of_none = refl

-- the file without edges, and the one of one edge: key 1, 2 and log number 7
pub of_files : (summarised_of heading_only ≡ Ok nothing)
    × (summarised_of one_edge ≡ Ok (record {
      keycount = 1;
      edgecount = 1;
      tombstones = 0;
      largestdegree = 1;
      extremes = Some (record { smallestkey = record { hi = 1; lo = 2 }; largestkey = record { hi = 1; lo = 2 }; smallestlog = 7; largestlog = 7 });
      buckets = 1 ∷ replicate 63 0;
    }))
unfolding heading_only one_edge le_at be_at id_at halves_at last_byte var_from varint_at row_at rows_from rows_of has section_of body_of record_from record_of known_of onVarint split_step dense_step step_at on_step cons walk_from degree_of head_of on_head group_of partners_of edges_from read_from edges_in summary_of smallest largest smallest_key largest_key extremes_of degrees_of bucket buckets_from dead_in logs_in join groups_of
of_files = (summary_passes heading_only cases_pass.0, summary_passes one_edge cases_pass.1)

-- a byte of the log numbers is changed: 22 at entry 3, and nothing is summed up
pub of_damaged : summarised_of (slice_set one_edge 97 8) ≡ Err (Refusal.Sum 3)
of_damaged = (summary_refuses (slice_set one_edge 97 8) (Refusal.Sum 3)).1 damaged.0
