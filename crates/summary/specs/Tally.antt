-- The pass over the groups: degrees one by one, each into its bucket. p the partners, o the offsets of w bytes each.
use Rattle.std.specs.Prelude.{ℕ, zero, suc, ◌+◌, ◌<◌, ◌≤◌, List, [], ◌∷◌, Ok, Err}
use Rattle.degrees.specs.Degrees.{group_at}
use Rattle.group.specs.Group.{degree_of}
use Rattle.summary.specs.declared.tally.Tally.{Tally}
use Rattle.summary.specs.Summary.{largest, buckets_of}
use Rattle.codes.specs.Varint.{Varint}

-- a degree that was read, 0 where there is none
unfoldable pub degree_told : Varint → ℕ
degree_told (Ok (d, next)) = d
degree_told (Err why) = 0

-- what a tally of degrees says
unfoldable pub tally_of : List ℕ → Tally
tally_of ds = record { largest = largest 0 ds; buckets = buckets_of ds }

module _ (p o : List ℕ) (w : ℕ) where
  -- the degrees of d groups from group i on
  unfoldable pub degrees_at : ℕ → ℕ → List ℕ
  degrees_at zero i = []
  degrees_at (suc d) i = degree_told (degree_of (group_at p o w i)) ∷ degrees_at d (i + 1)

  -- n groups have one
  abbrev pub AllTold : ℕ → Type 0
  AllTold n = (i : ℕ) → i < n → 1 ≤ degree_told (degree_of (group_at p o w i))
