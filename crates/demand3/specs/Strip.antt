-- The stripped copy itself: laid out without gaps, the sections' sums as they were stored. It is a copy as Stripped says.
use Rattle.std.specs.Prelude.{length, take, set}
use Prim.Native.Nat.{ℕ, ◌+◌, ◌^◌, ◌≤◌, ◌<◌}
use mathlib.Core.List.{List, [], ◌∷◌}
use Rattle.base.specs.Pick.{pick}
use Rattle.base.specs.Over.{part}
use Rattle.frame.specs.declared.Row.{Row}
use Rattle.frame.specs.Frame.{rows_of, key_count, edge_count, bits_of, body_of}
use Rattle.frame.specs.Kind as kind
use Rattle.frame.specs.Layout.{Section, Layout, lay_out}
use Rattle.demand3.specs.Stripped.{copy_minor}

-- an entry of b with its name, and its bytes in f
unfoldable pub section_at : List ℕ → List ℕ → Row → Section
section_at f b r = record {
  kind = r.kind;
  codec = r.codec;
  sum = r.sum;
  name = part b r.nameat (r.nameat + r.namelen);
  bytes = part f r.start (r.start + r.len);
}

unfoldable pub kept_of : List ℕ → List ℕ → List Row → List Section
kept_of f b [] = []
kept_of f b (r ∷ rs) = pick (kind.unknown r.kind) (kept_of f b rs) (section_at f b r ∷ kept_of f b rs)

-- the header at the copy's minor version
abbrev pub head_of : List ℕ → List ℕ
head_of f = set (take 64 f) 9 (copy_minor (rows_of (body_of f)))

-- the file's frame without unknown kinds
unfoldable pub stripped : List ℕ → Layout
stripped f = record {
  head = head_of f;
  sections = kept_of f (body_of f) (rows_of (body_of f));
  keycount = key_count (body_of f);
  edgecount = edge_count (body_of f);
  bits = bits_of (body_of f);
}

unfoldable pub strip : List ℕ → List ℕ
strip f = lay_out (stripped f)

-- ---- what is asked of each entry

pub record RowWithin (f b : List ℕ) (r : Row) : Type 0 where
  pub kind : r.kind < 2 ^ 16
  pub sum : r.sum < 2 ^ 64
  pub name : r.nameat + r.namelen ≤ length b
  pub bytes : r.start + r.len ≤ length f

pub data AllWithin (f b : List ℕ) : List Row → Type 0 where
  end : AllWithin f b []
  more : {r : Row} {rs : List Row} → RowWithin f b r → AllWithin f b rs → AllWithin f b (r ∷ rs)
