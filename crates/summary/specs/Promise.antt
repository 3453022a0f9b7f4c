-- What the query planner may rely on.
use Rattle.std.specs.Prelude.{◌≡◌, ℕ, suc, ◌+◌, ◌^◌, ◌<◌, ◌≤◌, ◌⊎◌, List, [], ◌∷◌, length, ◌≢◌, slice_index, Option, Some, None, Result, Ok, Err}
use Rattle.codes.specs.Ids.{id_number}
use Rattle.batch.specs.declared.Edge.{Edge}
use Rattle.batch.specs.Batch.{logs_in}
use Rattle.batch_groups.specs.Groups.{IdFits, groups_of}
use Rattle.agreement.specs.SameEdges.{mark_bytes_in}
use Rattle.refusal.specs.declared.Refusal.{Refusal}
use Rattle.refusal.specs.Check.{Check}
use Rattle.summary.specs.declared.figures.Extremes.{Extremes}
use Rattle.summary.specs.declared.figures.Summary.{Summary}
use Rattle.summary.specs.Summary.{degrees_of}
use Rattle.summary.specs.Summary.Laws.{Smallest, Largest, total}

-- ---- the keys' own smallest and largest

-- the numbers of the edges' keys
unfoldable pub key_numbers : List Edge → List ℕ
key_numbers [] = []
key_numbers (e ∷ es) = id_number e.key ∷ key_numbers es

-- "no smallest and largest" exactly without edges; otherwise each is one of the edges' own, and none lies beyond
unfoldable pub Ends : List Edge → Option Extremes → Type 0
Ends es None = es ≡ []
Ends es (Some x) =
    Smallest (id_number x.smallestkey) (key_numbers es)
    × Largest (id_number x.largestkey) (key_numbers es)
    × Smallest x.smallestlog (logs_in es)
    × Largest x.largestlog (logs_in es)

unfoldable pub ExtremesFit : Option Extremes → Type 0
ExtremesFit None = Unit {0}
ExtremesFit (Some x) = IdFits x.smallestkey × IdFits x.largestkey

-- n of the degrees are "from 2^i up to but not including 2^(i+1)"; said by the bounds themselves, not by `bucket`
unfoldable pub Counts : ℕ → List ℕ → ℕ → Type 0
Counts i [] n = n ≡ 0
Counts i (d ∷ ds) n =
    ((2 ^ i ≤ d) × (d < 2 ^ (i + 1)) × ((m : ℕ) × (n ≡ suc m) × Counts i ds m)) ⊎ ((2 ^ i ≤ d → d < 2 ^ (i + 1) → ⊥) × Counts i ds n)

pub record Summed (es : List Edge) (s : Summary) : Type 0 where
  -- the edges, and the dead ones: the marks of all edges as lookups write them, 1 for a dead one
  pub edges : s.edgecount ≡ length es
  pub dead : s.tombstones ≡ total (mark_bytes_in es)
  -- a key for each group
  pub keys : s.keycount ≡ length (groups_of es)
  -- "degrees sum to the edge count", "Buckets sum to the key count"
  pub degrees_sum : total (degrees_of (groups_of es)) ≡ s.edgecount
  pub buckets_sum : total s.buckets ≡ s.keycount
  -- 64 buckets, each the count that its bounds give; from 27 on they are 0
  pub sixty_four : length s.buckets ≡ 64
  pub each : (i : ℕ) → i < 64 → Counts i (degrees_of (groups_of es)) (slice_index s.buckets i)
  pub high : (i : ℕ) → 27 ≤ i → i < 64 → slice_index s.buckets i ≡ 0
  -- the largest of 0 and the degrees: 0 where there are none
  pub largest_degree : Largest s.largestdegree (0 ∷ degrees_of (groups_of es))
  pub ends : Ends es s.extremes

pub record EndsThere (s : Summary) : Type 0 where
  pub some : 1 ≤ s.edgecount → s.extremes ≢ None
  pub none : s.edgecount ≡ 0 → s.extremes ≡ None

-- what a call's answer says of the rules: a summary is given where all are fine
abbrev pub told : Result Summary Refusal → Check
told (Ok _) = Ok tt
told (Err r) = Err r
