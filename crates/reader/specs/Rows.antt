-- An entry of a file's section table, by its number.
use Rattle.std.specs.Prelude.{List, Bool, ◌&&◌, ltb, Option, Some, None}
use Prim.Native.Nat.{ℕ, suc, ◌+◌, ◌-◌}
use Rattle.std.proofs.Math.ListN.{length}
use Rattle.std.proofs.Math.Dec.{leb}
use Rattle.base.specs.Pick.{pick}
use Rattle.frame.specs.declared.Row.{Row}
use Rattle.frame.specs.Kind as kind
use Rattle.frame.specs.Frame.{row_at, end_from, entry_count, foot_len, body_of}

-- an entry whose name's place counts from the file's first byte; at is where the footer body begins
abbrev pub moved : ℕ → Row → Row
moved at r = record {
  kind = r.kind;
  codec = r.codec;
  namelen = r.namelen;
  nameat = at + r.nameat;
  start = r.start;
  len = r.len;
  sum = r.sum;
}

-- entry i lies in the body before the counts, name and all
abbrev pub entry_within : List ℕ → ℕ → Bool
entry_within b i = ltb i (entry_count b) && leb (end_from (suc i) b 2 + kind.counts_size) (length b)

unfoldable pub row_in : ℕ → List ℕ → ℕ → Option Row
row_in at b i = pick (entry_within b i) (Some (moved at (row_at b (end_from i b 2)))) None

-- a file that is too small or large for a footer of its footer length has no entries
abbrev pub footer_read : List ℕ → Bool
footer_read f =
    leb 84 (length f) && (leb (length f) kind.most_bytes && (leb 39 (foot_len f) && leb (foot_len f) (length f - 64)))

unfoldable pub row_of : List ℕ → ℕ → Option Row
row_of f i = pick (footer_read f) (row_in (length f - foot_len f) (body_of f) i) None
