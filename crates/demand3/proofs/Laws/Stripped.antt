-- Demand 3, as a relation: a copy of a file "without the unknown sections, minor 0, and offsets, lengths and checksums
-- mended"; "Kind 0x0200 now counts as known in demand 3 and isn't taken away; where it is present the stripped copy has minor 1".
-- It opens exactly if the file does, and it knows the same.
use Rattle.std.specs.Prelude.{◌≡◌, ◌↔◌, ℕ, ◌+◌, ◌-◌, ◌≤◌, List, [], Bool, not, ◌||◌, length, eqb, Ok, Err}
use Rattle.std.proofs.Math.Path.{refl, sym, ap, ap₂}
use Rattle.std.proofs.Common.{◌∙◌, arith}
use Rattle.std.proofs.Math.Bool.{true, false}
use Rattle.base.specs.Pick.{pick}
use Rattle.refusal.specs.declared.Refusal.{Refusal}
use Rattle.refusal.proofs.Laws.Check.{fine_parts, fine_both, fine_pick, and_parts, and_both}
use Rattle.frame.specs.declared.Row.{Row}
use Rattle.frame.specs.declared.Opened.{Opened}
use Rattle.frame.specs.Kind as kind
use Rattle.frame.specs.Frame.{record_from, record_of, framed_from, framed_of, has, repeated, range_of, section_of, all, name_good, kinds_good, each_row, kind_good, codec_good, ranges, entry_count, rows_of, counts_good, body_of, foot_len, flags_of, size_check, tail_check, sum_check, reserved_check, codec_check, frame_check}
use Rattle.frame.specs.Frame.Laws.{Table}
use Rattle.frame.proofs.Laws.Frame.{length_rows, Short, names_short, ranges_parts, ranges_made, SameKnown, skipped, section_skipped, kinds_known, kinds_some, counts_known, each_good, each_parts, kind_skipped, codec_skipped, name_skipped, flags_minor, head_minor}
use Rattle.frame.specs.Open.{known_of, bytes_at, content_check, file_check, open_of}
use Rattle.frame.proofs.Laws.Open.{frames_made, opens_parts, opens_record, opens_fine, size_parts, size_made, tail_parts, tail_magic, tail_made, sum_parts, sum_made}
use Rattle.lookup.specs.Lookup.{Rooms, look_of}
use Rattle.reader.proofs.Laws.Look.{look_known}
use Rattle.demand3.specs.Stripped.{Copied, none, dropped, kept, Outer, Stripped, Later}

-- ---- what a copied table keeps, of a kind that is known

module _ (f b g c : List ℕ) where
  has_copied : (k : ℕ) → kind.unknown k ≡ false → {rs ts : List Row} → Copied f b g c rs ts → has k ts ≡ has k rs
  unfolding has
  has_copied k h none = refl
  has_copied k h (dropped {r} {rs} u d) = has_copied k h d ∙ (skipped r rs u).there k h
  has_copied k h (kept u w d) = rw (w.kind, has_copied k h d)

  twice_copied : (k : ℕ) → kind.unknown k ≡ false → {rs ts : List Row} → Copied f b g c rs ts → repeated k ts ≡ repeated k rs
  unfolding repeated
  twice_copied k h none = refl
  twice_copied k h (dropped {r} {rs} u d) = twice_copied k h d ∙ (skipped r rs u).doubled k h
  twice_copied k h (kept {r} {t} {rs} {ts} u w d) =
      ap (λ (x : ℕ). pick (eqb x k) (has k ts) (repeated k ts)) w.kind
      ∙ ap₂ (λ (x y : Bool). pick (eqb r.kind k) x y) (has_copied k h d) (twice_copied k h d)

  len_copied : (k : ℕ) → kind.unknown k ≡ false → {rs ts : List Row} → Copied f b g c rs ts → (section_of k ts).len ≡ (section_of k rs).len
  unfolding section_of
  len_copied k h none = refl
  len_copied k h (dropped {r} {rs} u d) = len_copied k h d ∙ (skipped r rs u).len k h
  len_copied k h (kept {r} {t} {rs} {ts} u w d) = rw w.kind (go (eqb r.kind k) (len_copied k h d))
    where
      go : (x : Bool) → (section_of k ts).len ≡ (section_of k rs).len → (pick x (range_of t) (section_of k ts)).len ≡ (pick x (range_of r) (section_of k rs)).len
      go true ih = w.len
      go false ih = ih

  bytes_copied : (k : ℕ) → kind.unknown k ≡ false → {rs ts : List Row} → Copied f b g c rs ts → bytes_at g (section_of k ts) ≡ bytes_at f (section_of k rs)
  unfolding section_of
  bytes_copied k h none = refl
  bytes_copied k h (dropped {r} {rs} u d) = bytes_copied k h d ∙ ap (bytes_at f) (section_skipped r rs u k h)
  bytes_copied k h (kept {r} {t} {rs} {ts} u w d) = rw w.kind (go (eqb r.kind k) (bytes_copied k h d))
    where
      go : (x : Bool) → bytes_at g (section_of k ts) ≡ bytes_at f (section_of k rs) → bytes_at g (pick x (range_of t) (section_of k ts)) ≡ bytes_at f (pick x (range_of r) (section_of k rs))
      go true ih = w.bytes
      go false ih = ih

  known_copied : {rs ts : List Row} → Copied f b g c rs ts → SameKnown rs ts
  known_copied d = record { there = λ k h. has_copied k h d; doubled = λ k h. twice_copied k h d; len = λ k h. len_copied k h d }

  -- names, kinds and codecs: of the copy, and of the file where the copy's are good
  names_copied : {rs ts : List Row} → Copied f b g c rs ts → all name_good rs ≡ true → all name_good ts ≡ true
  unfolding all
  names_copied none e = refl
  names_copied (dropped {r} {rs} u d) e = names_copied d (and_parts (name_good r) (all name_good rs) e).1
  names_copied (kept {r} {t} {rs} {ts} u w d) e =
      let p = and_parts (name_good r) (all name_good rs) e in
      let q : name_good t ≡ true = rw (w.kind, w.namelen) p.0 in
      and_both q (names_copied d p.1)

  names_added : {rs ts : List Row} → Copied f b g c rs ts → Short rs → all name_good ts ≡ true → all name_good rs ≡ true
  unfolding all Short
  names_added none s e = refl
  names_added (dropped {r} {rs} u d) s e = and_both (name_skipped r rs u s.0) (names_added d s.1 e)
  names_added (kept {r} {t} {rs} {ts} u w d) s e =
      let p = and_parts (name_good t) (all name_good ts) e in
      let q : name_good r ≡ true = rw (w.kind, w.namelen) at p.0 in
      and_both q (names_added d s.1 p.1)

  -- what is asked of each entry, where it lets unknown kinds be and sees no more than kind and codec
  module _ (good : Row → Bool) (told : ℕ → Refusal) (passes : (r : Row) → kind.unknown r.kind ≡ true → good r ≡ true) (same : (r t : Row) → t.kind ≡ r.kind → t.codec ≡ r.codec → good t ≡ good r) where
    each_copied : {rs ts : List Row} → Copied f b g c rs ts → (i j : ℕ) → (each_row good told rs i ≡ (Ok tt)) ↔ (each_row good told ts j ≡ (Ok tt))
    unfolding each_row
    each_copied none i j = (λ e. refl, λ e. refl)
    each_copied (dropped {r} {rs} u d) i j =
        let ih = each_copied d (i + 1) j in
        let on = each_good good told r rs i (passes r u) in
        (λ e. ih.0 (sym on ∙ e), λ e. on ∙ ih.1 e)
    each_copied (kept {r} {t} {rs} {ts} u w d) i j =
        let ih = each_copied d (i + 1) (j + 1) in
        let is : good t ≡ good r = same r t w.kind w.codec in (
          λ e. let p = each_parts good told r rs i e in fine_pick (Err (told j)) (is ∙ p.0) (ih.0 p.1),
          λ e. let p = each_parts good told t ts j e in fine_pick (Err (told i)) (sym is ∙ p.0) (ih.1 p.1),
        )

  reserved_copied : {rs ts : List Row} → Copied f b g c rs ts → (reserved_check rs ≡ (Ok tt)) ↔ (reserved_check ts ≡ (Ok tt))
  reserved_copied d = each_copied kind_good Refusal.Reserved (λ r u. kind_skipped r [] u) (λ r t k x. ap (λ (n : ℕ). not (kind.reserved n)) k) d 0 0

  codecs_copied : {rs ts : List Row} → Copied f b g c rs ts → (codec_check rs ≡ (Ok tt)) ↔ (codec_check ts ≡ (Ok tt))
  codecs_copied d = each_copied codec_good Refusal.Codec (λ r u. codec_skipped r [] u) (λ r t k x. ap₂ (λ (n m : ℕ). not (kind.fixed n) || eqb m 0) k x) d 0 0

  length_copied : {rs ts : List Row} → Copied f b g c rs ts → length ts ≤ length rs
  length_copied none = omega arith
  length_copied (dropped u d) = omega (arith, length_copied d)
  length_copied (kept u w d) = omega (arith, length_copied d)

rows_count : (b : List ℕ) → length (rows_of b) ≡ entry_count b
unfolding rows_of
rows_count b = length_rows (entry_count b) b 2

-- ---- the copy opens exactly if the file does, and knows the same

-- rules 1, 6 to 8 and 11
outer_checks : (f : List ℕ) → Outer f
    → (size_check (length f) ≡ (Ok tt)) × (tail_check (length f) f ≡ (Ok tt)) × (sum_check f ≡ (Ok tt)) × (ranges (length f - foot_len f) (rows_of (body_of f)) 64 0 ≡ (Ok tt))
outer_checks f o =
    (size_made (length f) o.low o.high, tail_made (length f) f o.magic o.least o.most, sum_made f o.sum, ranges_made _ 64 (rows_of (body_of f)) 0 o.apart)

-- a file that opens keeps them
pub opened_later : (f : List ℕ) (o : Opened) → open_of f ≡ Ok o → Later f
opened_later f o e =
    let w = (opens_parts f o e).frames in
    let size = size_parts (length f) w.size in
    let foot = tail_parts (length f) f w.tail in
    let outer : Outer f = record {
      low = size.0;
      high = size.1;
      magic = tail_magic (length f) f w.tail;
      least = foot.0;
      most = foot.1;
      sum = sum_parts f w.sum;
      fills = w.table.filled;
      apart = ranges_parts _ 64 (rows_of (body_of f)) 0 w.apart;
    } in
    record { outer = outer; few = w.table.most; names = names_short (rows_of (body_of f)) w.table.names }

module _ (f g : List ℕ) (s : Stripped f g) where
  abbrev b : List ℕ
  b = body_of f

  abbrev c : List ℕ
  c = body_of g

  known_same : known_of g (record_of g) ≡ known_of f (record_of f)
  unfolding known_of record_of record_from
  known_same = λ j. record {
    keys = bytes_copied f b g c kind.keys refl s.table j;
    offsets = bytes_copied f b g c kind.offsets refl s.table j;
    partners = bytes_copied f b g c kind.partners refl s.table j;
    logs = bytes_copied f b g c kind.logs refl s.table j;
    dead = pick (has_copied f b g c kind.tombstones refl s.table j) (bytes_copied f b g c kind.tombstones refl s.table j) [];
    indexed = has_copied f b g c kind.starts refl s.table j;
    starts = pick (has_copied f b g c kind.starts refl s.table j) (bytes_copied f b g c kind.starts refl s.table j) [];
    keycount = s.keys j;
    edgecount = s.edges j;
    bits = s.bits j;
  }

  fences_same : ((framed_of g).fenced ≡ (framed_of f).fenced) × (bytes_at g (framed_of g).fences ≡ bytes_at f (framed_of f).fences)
  unfolding framed_of framed_from
  fences_same = (has_copied f b g c kind.fences refl s.table, bytes_copied f b g c kind.fences refl s.table)

  content_same : content_check (known_of g (record_of g)) (framed_of g).fenced (bytes_at g (framed_of g).fences) ≡ content_check (known_of f (record_of f)) (framed_of f).fenced (bytes_at f (framed_of f).fences)
  content_same = λ j. content_check (known_same j) (fences_same.0 j) (fences_same.1 j)

  table_known : SameKnown (rows_of b) (rows_of c)
  table_known = known_copied f b g c s.table

  counts_same : counts_good (flags_of g) (framed_of g) ≡ counts_good (flags_of f) (framed_of f)
  unfolding framed_of
  counts_same =
      (λ j. counts_good (flags_minor g f s.header j) (framed_from c (rows_of c)))
      ∙ counts_known (rows_of b) (rows_of c) table_known (flags_of f) b c s.keys s.edges s.bits

  kinds_same : kinds_good (rows_of c) ≡ kinds_good (rows_of b)
  kinds_same = kinds_known (rows_of b) (rows_of c) table_known

  fewer : entry_count c ≤ entry_count b
  fewer = omega (arith, rows_count c, rows_count b, length_copied f b g c s.table)

  -- the copy's table
  table_copied : Table b → Table c
  table_copied t =
      let kinds : kinds_good (rows_of c) ≡ true = kinds_same ∙ t.kinds in
      let one = kinds_some (rows_of c) kinds in
      let n = rows_count c in
      let less = fewer in
      let most = t.most in
      record { some = omega arith; most = omega arith; filled = s.outer.fills; names = names_copied f b g c s.table t.names; kinds = kinds }

  -- the file's, where it is a later writer's
  table_added : Later f → Table c → Table b
  table_added l t =
      let less = fewer in
      let some = t.some in record {
        some = omega arith;
        most = l.few;
        filled = l.outer.fills;
        names = names_added f b g c s.table l.names t.names;
        kinds = sym kinds_same ∙ t.kinds;
      }

  module _ (o : Opened) (e : open_of f ≡ Ok o) where
    good : open_of f ≡ Ok (record_of f)
    good = e ∙ ap Ok (sym (opens_record f o e))

    pub copy_opens : open_of g ≡ Ok (record_of g)
    unfolding file_check
    copy_opens =
        let file = (opens_parts f o e).frames in
        let (size, tail, sum, apart) = outer_checks g s.outer in
        let frame : frame_check (length g) g g ≡ (Ok tt) = frames_made (length g) g g (record {
          size = size;
          head = head_minor g f s.header ∙ file.head;
          tail = tail;
          sum = sum;
          table = table_copied file.table;
          unreserved = (reserved_copied f b g c s.table).0 file.unreserved;
          raw = (codecs_copied f b g c s.table).0 file.raw;
          apart = apart;
          counts = counts_same ∙ file.counts;
        }) in
        let content = content_same ∙ (fine_parts (frame_check (length f) f f) _ ((opens_fine f).0 good)).1 in
        (opens_fine g).1 (fine_both frame content)

    -- every key has the same answer from both, with equal room: refusals, places and the outputs' contents are the outcome's
    pub copy_answers : (full : Bool) (rooms : Rooms) (key : ℕ) → look_of full rooms key g ≡ look_of full rooms key f
    copy_answers full rooms key = look_known full rooms key g f (record_of g) (record_of f) copy_opens good known_same

  -- the other way: a later writer's file opens where its copy does
  pub added_opens : Later f → open_of g ≡ Ok (record_of g) → open_of f ≡ Ok (record_of f)
  unfolding file_check
  added_opens l e =
      let copy = (opens_parts g (record_of g) e).frames in
      let (size, tail, sum, apart) = outer_checks f l.outer in
      let frame : frame_check (length f) f f ≡ (Ok tt) = frames_made (length f) f f (record {
        size = size;
        head = sym (head_minor g f s.header) ∙ copy.head;
        tail = tail;
        sum = sum;
        table = table_added l copy.table;
        unreserved = (reserved_copied f b g c s.table).1 copy.unreserved;
        raw = (codecs_copied f b g c s.table).1 copy.raw;
        apart = apart;
        counts = sym counts_same ∙ copy.counts;
      }) in
      let content = sym content_same ∙ (fine_parts (frame_check (length g) g g) _ ((opens_fine g).0 e)).1 in
      (opens_fine f).1 (fine_both frame content)
