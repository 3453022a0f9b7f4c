-- The degree summary: "key, edge and tombstone counts, smallest and largest key, smallest and largest log number, largest degree,
-- and 64 buckets where bucket i counts the keys with degree from 2^i up to but not including 2^(i+1)". It speaks of edges, as a
-- read-out gives them, and of no file's layout.
use Rattle.std.specs.Prelude.{ℕ, zero, suc, ◌+◌, ◌^◌, Bool, ◌&&◌, List, [], ◌∷◌, length, replicate, nat_le, nat_lt, Option, Some, None, Result, Ok, Err}
use Rattle.base.specs.Pick.{pick}
use Rattle.codes.specs.declared.ids.Id.{Id}
use Rattle.codes.specs.Ids.{id_number}
use Rattle.batch.specs.declared.Edge.{Edge}
use Rattle.batch.specs.Batch.{logs_in}
use Rattle.batch_groups.specs.Groups.{Group, groups_of}
use Rattle.full_check.specs.Full.{full_check}
use Rattle.agreement.specs.SameEdges.{edges_of_file}
use Rattle.summary.specs.declared.figures.Extremes.{Extremes}
use Rattle.summary.specs.declared.figures.Summary.{Summary}
use Rattle.refusal.specs.declared.Refusal.{Refusal}
use Rattle.refusal.specs.Check.{Check}
pub mod Laws

-- ---- the smallest and largest

-- of x and the numbers after it
unfoldable pub smallest : ℕ → List ℕ → ℕ
smallest x [] = x
smallest x (y ∷ ys) = smallest (pick (nat_lt y x) y x) ys

unfoldable pub largest : ℕ → List ℕ → ℕ
largest x [] = x
largest x (y ∷ ys) = largest (pick (nat_lt x y) y x) ys

-- of a key and those of edges; keys compare as numbers
unfoldable pub smallest_key : Id → List Edge → Id
smallest_key k [] = k
smallest_key k (e ∷ es) = smallest_key (pick (nat_lt (id_number e.key) (id_number k)) e.key k) es

unfoldable pub largest_key : Id → List Edge → Id
largest_key k [] = k
largest_key k (e ∷ es) = largest_key (pick (nat_lt (id_number k) (id_number e.key)) e.key k) es

-- "A file without edges has no smallest and largest, and says so"
unfoldable pub extremes_of : List Edge → Option Extremes
extremes_of [] = None
extremes_of (e ∷ es) = Some (record {
  smallestkey = smallest_key e.key es;
  largestkey = largest_key e.key es;
  smallestlog = smallest e.log (logs_in es);
  largestlog = largest e.log (logs_in es);
})

-- ---- degrees and buckets

-- a key's degree is the number of its edges, dead ones too
unfoldable pub degrees_of : List Group → List ℕ
degrees_of [] = []
degrees_of (g ∷ gs) = length g.edges ∷ degrees_of gs

-- a degree "from 2^i up to but not including 2^(i+1)"
abbrev pub in_bucket : ℕ → ℕ → Bool
in_bucket i d = nat_le (2 ^ i) d && nat_lt d (2 ^ (i + 1))

-- how many of the degrees are so
unfoldable pub bucket : ℕ → List ℕ → ℕ
bucket i [] = 0
bucket i (d ∷ ds) = pick (in_bucket i d) 1 0 + bucket i ds

-- n buckets from bucket i on
unfoldable pub buckets_from : ℕ → ℕ → List ℕ → List ℕ
buckets_from zero i ds = []
buckets_from (suc n) i ds = bucket i ds ∷ buckets_from n (i + 1) ds

abbrev pub buckets_of : List ℕ → List ℕ
buckets_of ds = buckets_from 64 0 ds

-- ---- the summary

-- the dead edges
unfoldable pub dead_in : List Edge → ℕ
dead_in [] = 0
dead_in (e ∷ es) = pick e.dead 1 0 + dead_in es

unfoldable pub summary_of : List Edge → Summary
summary_of es = record {
  keycount = length (groups_of es);
  edgecount = length es;
  tombstones = dead_in es;
  largestdegree = largest 0 (degrees_of (groups_of es));
  extremes = extremes_of es;
  buckets = buckets_of (degrees_of (groups_of es));
}

-- of no edges
abbrev pub nothing : Summary
nothing = record {
  keycount = 0;
  edgecount = 0;
  tombstones = 0;
  largestdegree = 0;
  extremes = None;
  buckets = replicate 64 0;
}

-- "It runs the full check first and gives its refusals"
unfoldable pub summarised : Check → Summary → Result Summary Refusal
summarised (Ok _) s = Ok s
summarised (Err r) s = Err r

unfoldable pub summarised_of : List ℕ → Result Summary Refusal
summarised_of f = summarised (full_check f) (summary_of (edges_of_file f))
