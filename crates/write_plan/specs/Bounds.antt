-- "file 2^30 bytes, 2^24 keys, 2^26 edges": refusal 26, "more keys, edges or file bytes than the bounds".
use Rattle.std.specs.Prelude.{◌≡◌, refl, ◌≤◌, ◌<◌, List, Bool, true, false, ◌||◌, length, ltb, Option, Some, None}
use borrow.Author.Tests.{lt-ltb, le-ltb}
use Rattle.frame.specs.Kind as kind
use Rattle.batch.specs.declared.Edge.{Edge}
use Rattle.batch.specs.Batch.{Heading}
use Rattle.batch_groups.specs.Groups.{groups_of}
use Rattle.write_image.specs.Image.{file_of}
use Rattle.write_plan.specs.declared.Plan.{Plan}
use Rattle.write_plan.specs.Size.{file_size, Fitting}

unfoldable pub too_many : Heading → List Edge → Bool
too_many h es =
    ltb kind.most_keys (length (groups_of es)) || (ltb kind.most_edges (length es) || ltb kind.most_bytes (length (file_of h es)))

or_last : (x : Bool) → (x || true) ≡ true
or_last true = refl
or_last false = refl

module _ (h : Heading) (es : List Edge) where
  pub many_keys : kind.most_keys < length (groups_of es) → too_many h es ≡ true
  unfolding too_many
  many_keys l = rw (lt-ltb kind.most_keys (length (groups_of es)) l)

  pub many_edges : kind.most_edges < length es → too_many h es ≡ true
  unfolding too_many
  many_edges l = rw (lt-ltb kind.most_edges (length es) l) (or_last (ltb kind.most_keys (length (groups_of es))))

  pub many_bytes : kind.most_bytes < length (file_of h es) → too_many h es ≡ true
  unfolding too_many
  many_bytes l =
      rw (lt-ltb kind.most_bytes (length (file_of h es)) l, or_last (ltb kind.most_edges (length es)))
      (or_last (ltb kind.most_keys (length (groups_of es))))

  pub few : length (groups_of es) ≤ kind.most_keys → length es ≤ kind.most_edges → length (file_of h es) ≤ kind.most_bytes → too_many h es ≡ false
  unfolding too_many
  few a b c =
      rw
      (le-ltb kind.most_keys (length (groups_of es)) a, le-ltb kind.most_edges (length es) b, le-ltb kind.most_bytes (length (file_of h es)) c)

-- the counts are those of the edges and within the bounds
pub record PlanFits (es : List Edge) (p : Plan) : Type 0 where
  pub fitting : Fitting es p.edges p.keys p.width p.partners p.dense p.dead
  pub size : p.bytes ≡ file_size p.keys p.width p.partners p.edges p.dead
  pub keys_few : p.keys ≤ kind.most_keys
  pub edges_few : p.edges ≤ kind.most_edges
  pub bytes_few : p.bytes ≤ kind.most_bytes

-- or the edges are too many, whatever the heading
unfoldable pub Measured : List Edge → (Option Plan) → Type 0
Measured es (Some p) = PlanFits es p
Measured es None = (h : Heading) → length h.ids ≡ 48 → too_many h es ≡ true

pub measured_many : (es : List Edge) → ((h : Heading) → length h.ids ≡ 48 → too_many h es ≡ true) → Measured es None
unfolding Measured
measured_many es t = t

pub measured_fits : (es : List Edge) (p : Plan) → PlanFits es p → Measured es (Some p)
unfolding Measured
measured_fits es p f = f

pub many_measured : (es : List Edge) → Measured es None → (h : Heading) → length h.ids ≡ 48 → too_many h es ≡ true
unfolding Measured
many_measured es t = t

pub fits_measured : (es : List Edge) (p : Plan) → Measured es (Some p) → PlanFits es p
unfolding Measured
fits_measured es p f = f
