-- "The printed form": what the program prints of a file, line by line, from its batch, minor version and key count.
use Rattle.std.specs.Prelude.{◌≡◌, ℕ, zero, suc, ◌+◌, ◌-◌, ◌/◌, ◌≤◌, ◌<◌, Bool, List, [], ◌∷◌, ◌++◌, length, get_or, ltb, eqb, Ok, Err}
use Rattle.base.specs.Pick.{pick}
use Rattle.base.specs.Put.{Put}
use Rattle.codes.specs.declared.ids.Id.{Id}
use Rattle.frame.specs.Frame.{header_in, record_of}
use Rattle.batch.specs.declared.Edge.{Edge}
use Rattle.batch.specs.Batch.{edge_at, edges_of, record_count, place}
use Rattle.full_check.specs.Full.{full_check}
use Rattle.readout.specs.ReadOut.{batch_in, needed_for}
use Rattle.text.specs.Text.{decimal, hex, refused_text}
use Rattle.refusal.specs.Check.{Check}

-- ---- the line of an edge: key, partner, log number, live or dead

-- " "
abbrev pub space : List ℕ
space = 32 ∷ []

-- " lsn "
abbrev pub lsn_word : List ℕ
lsn_word = 32 ∷ 108 ∷ 115 ∷ 110 ∷ 32 ∷ []

-- " live" and a newline
abbrev pub live_end : List ℕ
live_end = 32 ∷ 108 ∷ 105 ∷ 118 ∷ 101 ∷ 10 ∷ []

-- " dead" and a newline
abbrev pub dead_end : List ℕ
dead_end = 32 ∷ 100 ∷ 101 ∷ 97 ∷ 100 ∷ 10 ∷ []

abbrev pub id_text : Id → List ℕ
id_text x = hex x.hi ++ hex x.lo

abbrev pub life_end : Bool → List ℕ
life_end dead = pick dead dead_end live_end

unfoldable pub edge_line : Edge → List ℕ
edge_line e = id_text e.key ++ (space ++ (id_text e.partner ++ ((lsn_word ++ decimal e.log) ++ life_end e.dead)))

-- ---- the first line: direction, minor version, keys, edges, dead edges

-- "edge-sst forward minor "
abbrev pub forward_word : List ℕ
forward_word = 101 ∷ 100 ∷ 103 ∷ 101 ∷ 45 ∷ 115 ∷ 115 ∷ 116 ∷ 32 ∷ 102 ∷ 111 ∷ 114 ∷ 119 ∷ 97 ∷ 114 ∷ 100 ∷ 32 ∷ 109 ∷ 105 ∷ 110 ∷ 111 ∷ 114 ∷ 32 ∷ []

-- "edge-sst inverse minor "
abbrev pub inverse_word : List ℕ
inverse_word = 101 ∷ 100 ∷ 103 ∷ 101 ∷ 45 ∷ 115 ∷ 115 ∷ 116 ∷ 32 ∷ 105 ∷ 110 ∷ 118 ∷ 101 ∷ 114 ∷ 115 ∷ 101 ∷ 32 ∷ 109 ∷ 105 ∷ 110 ∷ 111 ∷ 114 ∷ 32 ∷ []

-- " keys "
abbrev pub keys_word : List ℕ
keys_word = 32 ∷ 107 ∷ 101 ∷ 121 ∷ 115 ∷ 32 ∷ []

-- " edges "
abbrev pub edges_word : List ℕ
edges_word = 32 ∷ 101 ∷ 100 ∷ 103 ∷ 101 ∷ 115 ∷ 32 ∷ []

-- " dead "
abbrev pub dead_word : List ℕ
dead_word = 32 ∷ 100 ∷ 101 ∷ 97 ∷ 100 ∷ 32 ∷ []

-- a newline
abbrev pub newline : List ℕ
newline = 10 ∷ []

-- a heading's direction 1 says that the file is inverse
abbrev pub direction_word : ℕ → List ℕ
direction_word d = pick (eqb d 1) inverse_word forward_word

unfoldable pub first_line : ℕ → ℕ → ℕ → ℕ → ℕ → List ℕ
first_line direction minor keys edges dead =
    (direction_word direction ++ decimal minor)
    ++ ((keys_word ++ decimal keys) ++ ((edges_word ++ decimal edges) ++ ((dead_word ++ decimal dead) ++ newline)))

-- how many edges are dead
unfoldable pub dead_in : List Edge → ℕ
dead_in [] = 0
dead_in (e ∷ es) = pick e.dead 1 0 + dead_in es

-- ---- all lines

-- "ok" and a newline
abbrev pub ok_line : List ℕ
ok_line = 111 ∷ 107 ∷ 10 ∷ []

unfoldable pub edge_lines : List Edge → List ℕ
edge_lines [] = []
edge_lines (e ∷ es) = edge_line e ++ edge_lines es

module _ (minor keys : ℕ) (batch : List ℕ) where
  -- what is printed of a file whose read-out is this batch
  unfoldable pub printed : List ℕ
  printed = first_line (get_or batch 1 0) minor keys (record_count batch) (dead_in (edges_of batch)) ++ (edge_lines (edges_of batch) ++ ok_line)

  -- line k of it
  unfoldable pub line_at : ℕ → List ℕ
  line_at zero = first_line (get_or batch 1 0) minor keys (record_count batch) (dead_in (edges_of batch))
  line_at (suc e) = pick (ltb e (record_count batch)) (edge_line (edge_at batch (place e))) ok_line

  -- n lines from line k on
  unfoldable pub lines_from : ℕ → ℕ → List ℕ
  lines_from zero k = []
  lines_from (suc n) k = line_at k ++ lines_from n (suc k)

-- ---- a file: its lines where it passes the full check; "a file that the full check refuses prints only `refused N at P`"

unfoldable pub printed_by : Check → List ℕ → List ℕ
printed_by (Ok _) f = printed (header_in f).minor (record_of f).keycount (batch_in f)
printed_by (Err r) f = refused_text r ++ newline

abbrev pub printed_of : List ℕ → List ℕ
printed_of f = printed_by (full_check f) f

-- ---- pages

-- the most bytes that a line takes, and a few more: the first line's words and four numbers of 20 digits make 123
abbrev pub line_room : ℕ
line_room = 128

-- the first line, the edges, `ok`
abbrev pub line_count : List ℕ → ℕ
line_count batch = record_count batch + 2

-- a page of out, which was o: at least one line, from line `from` up to the next one, in so many bytes
pub record PagePut (minor keys : ℕ) (batch o out : List ℕ) (from next bytes : ℕ) : Type 0 where
  pub more : from < next
  pub upto : next ≤ line_count batch
  pub within : bytes ≤ length out
  pub lines : Put o out 0 bytes (lines_from minor keys batch (next - from) from)

-- xs is a part of the text
pub record PartOf (text xs : List ℕ) : Type 0 where
  pub before : List ℕ
  pub after : List ℕ
  pub whole : text ≡ before ++ (xs ++ after)

-- a file that the full check passes, its key count and its batch
pub record Passed (f : List ℕ) (keys : ℕ) (batch : List ℕ) : Type 0 where
  pub fine : full_check f ≡ (Ok tt)
  pub count : keys ≡ (record_of f).keycount
  pub read : batch ≡ batch_in f

-- room for the batch of a file that passes
abbrev pub BatchRoom : List ℕ → ℕ → Type 0
BatchRoom f room = full_check f ≡ (Ok tt) → needed_for f ≤ room

-- of a file that is printed, and for its batch: eight bytes of it are an edge's log number
abbrev pub longest : ℕ
longest = 65536

abbrev pub batch_room : ℕ
batch_room = place (longest / 8)
