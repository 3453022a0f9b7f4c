-- The header of a file and the heading of its read-out: direction and ids are the same.
use Rattle.std.specs.Prelude.{◌≡◌, get_or, drop, Ok}
use Rattle.std.proofs.Math.Path.{sym}
use Rattle.std.proofs.Common.{◌∙◌, add_assoc, arith, get_or-append-add}
use Prim.Native.Nat.{ℕ, ◌+◌, ◌≤◌, ◌<◌}
use mathlib.Core.List.{List, [], ◌∷◌, ◌++◌}
use Rattle.std.proofs.Math.ListN.{length, get_or-append}
use Rattle.std.proofs.Math.Seq.{get_or-take, get_or-drop}
use Rattle.base.specs.Over.{part, length_part}
use Rattle.codes.specs.Ids.{halves_at}
use Rattle.codes.specs.Ids.Laws.{halves_same}
use Rattle.frame.specs.declared.ends.Header.{Header}
use Rattle.frame.specs.Frame.{header_in, record_of}
use Rattle.frame.specs.Open.{known_of}
use Rattle.batch.specs.Batch.{heading_bytes, records_of, batch_bytes}
use Rattle.reader.specs.Header.{header_of}
use Rattle.reader.proofs.Laws.Header.{header_opens, header_long}
use Rattle.readout.specs.Edges.{edges_in}
use Rattle.readout.specs.ReadOut.{heading_in, batch_in}
use Rattle.agreement.specs.Heading.{header_for}

module _ (f : List ℕ) (there : 64 ≤ length f) where
  -- the 48 bytes of the ids stand in the heading, after its kind and its direction
  byte : (j : ℕ) → j < 48 → get_or f (16 + j) 0 ≡ get_or (batch_in f) (2 + j) 0
  unfolding batch_in batch_bytes heading_bytes heading_in
  byte j l =
      let ids : length (part f 16 64) ≡ 48 = length_part f 16 64 there in
      let edges : List ℕ = records_of (edges_in (known_of f (record_of f))) in
      sym (get_or-append-add (3 ∷ (heading_in f).direction ∷ []) (part f 16 64 ++ edges) j 0
      ∙ get_or-append (part f 16 64) edges 0 j (omega arith) ∙ get_or-take 48 (drop 16 f) j 0 l ∙ get_or-drop 16 f j 0)

  id : (i : ℕ) → i + 16 ≤ 48 → halves_at f (16 + i) ≡ halves_at (batch_in f) (2 + i)
  id i h = halves_same f (batch_in f) (16 + i) (2 + i) (λ k l. rw (add_assoc 16 i k, add_assoc 2 i k) (byte (i + k) (omega arith)))

  fields : header_in f ≡ header_for (header_in f).minor (header_in f).flags (batch_in f)
  unfolding header_in batch_in batch_bytes heading_bytes heading_in
  fields = λ j. record {
    minor = (header_in f).minor;
    direction = (header_in f).direction;
    flags = (header_in f).flags;
    edgetype = id 0 (omega arith) j;
    source = id 16 (omega arith) j;
    destination = id 32 (omega arith) j;
  }

-- of every file that has a header: where the full check passes, the bytes of `batch_in f` are what the read-out leaves
pub same_heading : (f : List ℕ) (h : Header) → header_of f ≡ Ok h → h ≡ header_for h.minor h.flags (batch_in f)
same_heading f h e =
    let there = header_long f h e in rw ((header_opens f h).0 e).1 at (fields f (omega arith))
