-- The stripped copy itself: laid out without gaps, the sections' sums as they were stored. It is a copy as Stripped says.
use Rattle.std.specs.Prelude.{◌≡◌, Bool, true, false, length, take, leb, Ok}
use Rattle.std.proofs.Math.Path.{refl, sym, ap}
use Rattle.std.proofs.Common.{ap₂, ◌∙◌, inl, length-append, length-set, length-take-le}
use Prim.Native.Nat.{ℕ, zero, suc, ◌+◌, ◌-◌, ◌*◌, ◌^◌, ◌≤◌, ◌<◌}
use native.Mathlib.Omega.{arith}
use mathlib.Core.List.{List, [], ◌∷◌, ◌++◌, append_assoc}
use Rattle.std.proofs.Math.ListN.{get_or}
use Rattle.std.proofs.Math.Seq.{get_or-take, get_or-set_same, get_or-set_other}
use borrow.Author.Tests.{leb-true}
use Rattle.base.specs.Pick.{pick}
use Rattle.base.specs.Over.{part, length_part}
use Rattle.base.specs.Bytes.{Bytes, bytes_part}
use Rattle.codes.specs.Little.{le_bytes}
use Rattle.codes.specs.Little.Laws.{le_at_lt}
use Rattle.xxh3_spec.specs.Xxh3.{xxh3}
use Rattle.refusal.specs.declared.Refusal.{Refusal}
use Rattle.refusal.proofs.Laws.Check.{pick_fine, and_parts}
use Rattle.frame.specs.declared.Row.{Row}
use Rattle.frame.specs.Frame.{row_at, next_at, rows_from, end_from, rows_of, end_of, entry_count, key_count, edge_count, bits_of, range_good, ranges, foot_len, body_of}
use Rattle.frame.specs.Kind as kind
use Rattle.frame.proofs.Laws.Frame.{length_rows, end_room, ranges_parts, ranges_made}
use Rattle.frame.proofs.Laws.Open.{size_parts, tail_parts}
use Rattle.frame.specs.Layout.{Section, payload, entry, entries, body_bytes, trailer, lay_out}
use Rattle.laid_out.specs.Rows.{rows_in, SectionsFit, Small}
use Rattle.laid_out.proofs.Laws.Rows.{length_entry, past_first, length_first, name_back, length_body, body_end, keys_back, edges_back, bits_back}
use Rattle.laid_out.proofs.Laws.Laid.{length_laid, sum_back, magic_back, body_back, size_fine, tail_fine, file_rows, ranges_fine, head_back, bytes_first}
use Rattle.demand3.specs.Stripped.{Kept, Copied, none, dropped, kept, Outer, copy_minor, Stripped, Later}
use Rattle.demand3.specs.Strip.{section_at, kept_of, head_of, stripped, strip, RowWithin, AllWithin, end, more}

module _ (f b : List ℕ) (by : Bytes b) (limit : ℕ) (lim : limit ≤ length f) where
  within : (d i floor k : ℕ) → end_from d b i ≤ length b → ranges limit (rows_from d b i) floor k ≡ (Ok tt) → AllWithin f b (rows_from d b i)
  unfolding rows_from ranges end_from row_at
  within zero i floor k e g = end
  within (suc d) i floor k e g =
      let r = row_at b i in
      let p = pick_fine (range_good limit floor r) (ranges limit (rows_from d b (next_at b i)) (r.start + r.len) (k + 1)) (Refusal.Range k) g in
      let q = and_parts (leb floor r.start) (leb (r.start + r.len) limit) p.0 in
      let in1 : r.start + r.len ≤ limit = leb-true (r.start + r.len) limit q.1 in
      let room = end_room d b (next_at b i) in
      let one : RowWithin f b (row_at b i) = record { kind = le_at_lt b by i 2; sum = le_at_lt b by (i + 20) 8; name = omega arith; bytes = omega arith } in
      more one (within d (next_at b i) (r.start + r.len) (k + 1) e p.1)

  -- the sections lie apart, so together they are no longer than the room
  total : (d i floor k : ℕ) → floor ≤ limit → ranges limit (rows_from d b i) floor k ≡ (Ok tt) → floor + length (payload (kept_of f b (rows_from d b i))) ≤ limit
  unfolding rows_from ranges kept_of payload section_at
  total zero i floor k h g = omega arith
  total (suc d) i floor k h g =
      let r = row_at b i in
      let p = pick_fine (range_good limit floor r) (ranges limit (rows_from d b (next_at b i)) (r.start + r.len) (k + 1)) (Refusal.Range k) g in
      let q = and_parts (leb floor r.start) (leb (r.start + r.len) limit) p.0 in
      let in0 : floor ≤ r.start = leb-true floor r.start q.0 in
      let in1 : r.start + r.len ≤ limit = leb-true (r.start + r.len) limit q.1 in
      let ih = total d (next_at b i) (r.start + r.len) (k + 1) in1 p.1 in
      go (kind.unknown r.kind) in0 in1 ih
    where
      rest : List Section
      rest = kept_of f b (rows_from d b (next_at b i))

      go : (u : Bool) → floor ≤ (row_at b i).start → (row_at b i).start + (row_at b i).len ≤ limit → (row_at b i).start + (row_at b i).len + length (payload rest) ≤ limit
          → floor + length (payload (pick u rest (section_at f b (row_at b i) ∷ rest))) ≤ limit
      go true a c ih = omega arith
      go false a c ih =
          let l = length-append (section_at f b (row_at b i)).bytes (payload rest) in
          let m : length (section_at f b (row_at b i)).bytes ≡ (row_at b i).start + (row_at b i).len - (row_at b i).start = length_part f (row_at b i).start ((row_at b i).start + (row_at b i).len) (omega arith) in
          omega arith

-- the new entries are no longer than the old, and no more
names_total : (f b : List ℕ) (d i at : ℕ) → end_from d b i ≤ length b → i + length (entries at (kept_of f b (rows_from d b i))) ≤ end_from d b i
unfolding rows_from end_from kept_of entries section_at row_at
names_total f b zero i at e = omega arith
names_total f b (suc d) i at e =
    let room = end_room d b (next_at b i) in
    go (kind.unknown (row_at b i).kind) room (λ a. names_total f b d (next_at b i) a e)
  where
    rest : List Section
    rest = kept_of f b (rows_from d b (next_at b i))

    s : Section
    s = section_at f b (row_at b i)

    go : (u : Bool) → next_at b i + 28 * d ≤ end_from d b (next_at b i) → ((a : ℕ) → next_at b i + length (entries a rest) ≤ end_from d b (next_at b i))
        → i + length (entries at (pick u rest (s ∷ rest))) ≤ end_from d b (next_at b i)
    go true room ih = omega (arith, ih at)
    go false room ih =
        let l = length-append (entry at s) (entries (at + length s.bytes) rest) in
        let m : length (part b (i + 28) (i + 28 + get_or b (i + 3) 0)) ≡ i + 28 + get_or b (i + 3) 0 - (i + 28) = length_part b (i + 28) (i + 28 + get_or b (i + 3) 0) (omega arith) in
        omega (arith, ih (at + length s.bytes), length_entry at s)

fewer : (f b : List ℕ) (rs : List Row) → length (kept_of f b rs) ≤ length rs
unfolding kept_of
fewer f b [] = omega arith
fewer f b (r ∷ rs) = go (kind.unknown r.kind) (fewer f b rs)
  where
    go : (u : Bool) → length (kept_of f b rs) ≤ length rs → length (pick u (kept_of f b rs) (section_at f b r ∷ kept_of f b rs)) ≤ suc (length rs)
    go true h = omega arith
    go false h = omega arith

-- every kept section fits its entry
all_fit : (f b : List ℕ) {rs : List Row} → AllWithin f b rs → (at : ℕ) → at + length (payload (kept_of f b rs)) < 2 ^ 64 → SectionsFit at (kept_of f b rs)
unfolding kept_of SectionsFit payload section_at
all_fit f b end at h = tt
all_fit f b (more {r} {rs} w ws) at h = go (kind.unknown r.kind) (all_fit f b ws) h
  where
    rest : List Section
    rest = kept_of f b rs

    s : Section
    s = section_at f b r

    go : (u : Bool) → ((a : ℕ) → a + length (payload rest) < 2 ^ 64 → SectionsFit a rest) → at + length (payload (pick u rest (s ∷ rest))) < 2 ^ 64 → SectionsFit at (pick u rest (s ∷ rest))
    go true ih h = ih at h
    go false ih h =
        let l = length-append s.bytes (payload rest) in
        (record { kind = w.kind; start = omega arith; len = omega arith; sum = w.sum }, ih (at + length s.bytes) (omega arith))

-- the laid out table is a copy
copied : (f b g c : List ℕ) {rs : List Row} → AllWithin f b rs → (at i : ℕ) (p q : List ℕ) → length p ≡ at → g ≡ p ++ (payload (kept_of f b rs) ++ q)
    → (x y : List ℕ) → length x ≡ i → c ≡ x ++ (entries at (kept_of f b rs) ++ y) → Copied f b g c rs (rows_in at i (kept_of f b rs))
unfolding kept_of rows_in section_at payload
copied f b g c end at i p q l e x y m d = none
copied f b g c (more {r} {rs} w ws) at i p q l e x y m d = go (kind.unknown r.kind) refl e d (copied f b g c ws)
  where
    rest : List Section
    rest = kept_of f b rs

    s : Section
    s = section_at f b r

    go : (u : Bool) → kind.unknown r.kind ≡ u → g ≡ p ++ (payload (pick u rest (s ∷ rest)) ++ q) → c ≡ x ++ (entries at (pick u rest (s ∷ rest)) ++ y)
        → ((a j : ℕ) (p q : List ℕ) → length p ≡ a → g ≡ p ++ (payload rest ++ q) → (x y : List ℕ) → length x ≡ j → c ≡ x ++ (entries a rest ++ y) → Copied f b g c rs (rows_in a j rest))
        → Copied f b g c (r ∷ rs) (rows_in at i (pick u rest (s ∷ rest)))
    go true u e d ih = dropped u (ih at i p q l e x y m d)
    go false u e d ih =
        let bs : List ℕ = part f r.start (r.start + r.len) in
        let nl : length s.name ≡ r.nameat + r.namelen - r.nameat = length_part b r.nameat (r.nameat + r.namelen) w.name in
        let bl : length s.bytes ≡ r.start + r.len - r.start = length_part f r.start (r.start + r.len) w.bytes in
        let on : p ++ ((bs ++ payload rest) ++ q) ≡ (p ++ bs) ++ (payload rest ++ q) = simp append_assoc in
        let pl : length (p ++ bs) ≡ at + length s.bytes = length-append p bs ∙ ap (λ (t : ℕ). t + length bs) l in
        let xl : length (x ++ entry at s) ≡ i + 28 + length s.name = length_first s rest at x y ∙ ap (λ (t : ℕ). t + 28 + length s.name) m in
        let same : Kept f b g c r (record { kind = r.kind; codec = r.codec; namelen = length s.name; nameat = i + 28; start = at; len = length s.bytes; sum = r.sum }) =
        record {
          kind = refl;
          codec = refl;
          namelen = omega arith;
          name = ap₂ (λ (t : List ℕ) (a : ℕ). part t (a + 28) (a + 28 + length s.name)) d (sym m) ∙ name_back s rest at x y;
          len = omega arith;
          bytes = ap₂ (λ (t : List ℕ) (a : ℕ). part t a (a + length s.bytes)) e (sym l) ∙ bytes_first p s rest q;
          sum = inl refl;
        } in
        kept u same (ih (at + length s.bytes) (i + 28 + length s.name) (p ++ bs) q pl (e ∙ on) (x ++ entry at s) y xl (d ∙ past_first s rest at x y))

-- ---- the copy

module _ (f : List ℕ) (by : Bytes f) (l : Later f) where
  abbrev b : List ℕ
  b = body_of f

  z : Outer f
  z = l.outer

  apart : ranges (length f - foot_len f) (rows_of b) 64 0 ≡ (Ok tt)
  apart = ranges_made (length f - foot_len f) 64 (rows_of b) 0 z.apart

  length_b : length b ≡ foot_len f - 20
  unfolding body_of
  length_b = length_part f (length f - foot_len f) (length f - 20) (omega arith) ∙ omega (arith, z.low, z.least, z.most)

  bytes_b : Bytes b
  unfolding body_of
  bytes_b = bytes_part f by (length f - foot_len f) (length f - 20)

  limit : ℕ
  limit = length f - foot_len f

  abbrev pub ss : List Section
  ss = kept_of f b (rows_of b)

  ok : AllWithin f b (rows_of b)
  unfolding rows_of end_of limit
  ok = within f b bytes_b limit (omega arith) (entry_count b) 2 64 0 (omega (arith, z.fills)) apart

  paid : 64 + length (payload ss) ≤ length f - foot_len f
  unfolding rows_of limit
  paid = total f b bytes_b limit (omega arith) (entry_count b) 2 64 0 (omega (arith, z.low, z.most)) apart

  shorter : length (entries 64 ss) + 19 ≤ length b
  unfolding rows_of end_of
  shorter = omega (arith, names_total f b (entry_count b) 2 64 (omega (arith, z.fills)), z.fills)

  pub small : Small ss
  unfolding rows_of
  small = (omega (arith, fewer f b (rows_of b), length_rows (entry_count b) b 2, l.few), all_fit f b ok 64 (omega (arith, paid, z.high)))

  pub h64 : length (head_of f) ≡ 64
  h64 = rw length-set (length-take-le 64 f (omega (arith, z.low)))

  pub fits : length (strip f) ≤ 2 ^ 30
  unfolding strip stripped
  fits = omega (arith, length_laid (stripped f) h64, length_body ss (key_count b) (edge_count b) (bits_of b) small, paid, shorter, length_b, z.low, z.high, z.least, z.most)

  table_copied : Copied f b (strip f) (body_bytes ss (key_count b) (edge_count b) (bits_of b)) (rows_of b) (rows_in 64 2 ss)
  unfolding strip stripped lay_out body_bytes le_bytes
  table_copied =
      let body : List ℕ = body_bytes (kept_of f b (rows_of b)) (key_count b) (edge_count b) (bits_of b) in
      copied f b (strip f) body ok 64 2 (head_of f) (body ++ trailer body) h64 refl (le_bytes 2 (length ss)) (le_bytes 8 (key_count b) ++ (le_bytes 8 (edge_count b) ++ (bits_of b ∷ []))) refl refl

  -- size, trailer, footer checksum and ranges are mended
  outer : Outer (strip f)
  unfolding strip stripped
  outer =
      let x = stripped f in
      let size = size_parts (length (lay_out x)) (size_fine x h64 small fits) in
      let foot = tail_parts (length (lay_out x)) (lay_out x) (tail_fine x h64 small fits) in record {
        low = size.0;
        high = size.1;
        magic = magic_back x h64 small fits;
        least = foot.0;
        most = foot.1;
        sum = ap xxh3 (body_back x h64 small fits) ∙ sym (sum_back x h64 small fits);
        fills = rw (body_back x h64 small fits) (body_end ss (key_count b) (edge_count b) (bits_of b) small);
        apart = ranges_parts _ 64 (rows_of (body_of (lay_out x))) 0 (ranges_fine x h64 small fits);
      }

  -- it is a copy, of a file that opens and of one that keeps the outer rules alone
  pub is_copy : Stripped f (strip f)
  unfolding strip stripped
  is_copy =
      let x = stripped f in
      let head : (i : ℕ) → i < 64 → get_or (lay_out x) i 0 ≡ get_or (head_of f) i 0 = head_back x h64 small fits in
      record {
        header = λ i l ne. head i l ∙ get_or-set_other (take 64 f) 9 i (copy_minor (rows_of (body_of f))) 0 ne ∙ get_or-take 64 f i 0 l;
        minor = head 9 (omega arith) ∙ get_or-set_same (take 64 f) 9 (copy_minor (rows_of (body_of f))) 0 (rw (length-take-le 64 f (omega (arith, z.low))) (omega arith));
        outer = outer;
        table = rw (file_rows x h64 small fits, body_back x h64 small fits) table_copied;
        keys = ap key_count (body_back x h64 small fits) ∙ keys_back ss (key_count b) (edge_count b) (bits_of b) small (le_at_lt b bytes_b (length b - 17) 8);
        edges = ap edge_count (body_back x h64 small fits) ∙ edges_back ss (key_count b) (edge_count b) (bits_of b) small (le_at_lt b bytes_b (length b - 9) 8);
        bits = ap bits_of (body_back x h64 small fits) ∙ bits_back ss (key_count b) (edge_count b) (bits_of b) small;
      }
