-- Groups of a partner section by their offsets: where they lie, their degrees, and the edges before them.
-- p the partners, o the offsets, w bytes each.
use Rattle.std.specs.Prelude.{ℕ, zero, suc, ◌+◌, List, Bool, ◌||◌, length, ltb, leb, eqb, Option, Ok, Some, None, Err}
use Rattle.base.specs.Pick.{pick}
use Rattle.base.specs.Over.{part}
use Rattle.codes.specs.Varint.{varint_at, Varint}
use Rattle.frame.specs.Open.{offset_at, start_at}
pub mod Laws

-- from a to e there is no group: "its two offsets fall or pass the partner range"
abbrev pub misplaced : List ℕ → ℕ → ℕ → Bool
misplaced p a e = ltb e a || ltb (length p) e

-- the bytes of group i
abbrev pub group_at : List ℕ → List ℕ → ℕ → ℕ → List ℕ
group_at p o w i = part p (offset_at o w i) (offset_at o w (i + 1))

-- "an earlier degree unreadable or 0"
unfoldable pub positive : Varint → Option ℕ
positive (Ok (v, n)) = pick (eqb v 0) None (Some v)
positive (Err why) = None

-- the degree of the group from a to e, by its first varint alone
unfoldable pub degree_in : List ℕ → ℕ → ℕ → Option ℕ
degree_in p a e = pick (misplaced p a e) None (positive (varint_at (part p a e) 0))

unfoldable pub degree_at : List ℕ → List ℕ → ℕ → ℕ → Option ℕ
degree_at p o w i = degree_in p (offset_at o w i) (offset_at o w (i + 1))

unfoldable pub plus : (Option ℕ) → (Option ℕ) → Option ℕ
plus (Some s) (Some d) = Some (s + d)
plus (Some s) None = None
plus None d = None

-- the edges before group i, as a mathematical number
unfoldable pub edges_before : List ℕ → List ℕ → ℕ → ℕ → Option ℕ
edges_before p o w zero = Some 0
edges_before p o w (suc i) = plus (edges_before p o w i) (degree_at p o w i)

-- where the d edges of group i begin, by the start index s: "A lookup takes its start there"; none is told "for a difference
-- unlike the degree"
unfoldable pub start_of : List ℕ → ℕ → ℕ → Option ℕ
start_of s i d = pick (eqb (start_at s i + d) (start_at s (i + 1))) (Some (start_at s i)) None

-- at most so many
unfoldable pub capped : ℕ → (Option ℕ) → Option ℕ
capped most (Some s) = pick (leb s most) (Some s) None
capped most None = None
