-- The writer's file: it opens to what was written, passes the full check, and reads out to the same batch.
use Rattle.std.specs.Prelude.{◌≡◌, ℕ, suc, ◌+◌, ◌*◌, ◌/◌, ◌%◌, ◌^◌, ◌≤◌, ◌<◌, Bool, ◌&&◌, ◌||◌, ltb, leb, Ok}
use Rattle.std.proofs.Math.Path.{refl, ap}
use Rattle.std.proofs.Common.{sym, ap₂, ◌∙◌, arith, length-append}
use Rattle.std.proofs.Math.Decide.{dec_le}
use mathlib.Core.List.{List, [], ◌∷◌, ◌++◌}
use Rattle.std.proofs.Math.Bool.{true, false, not, beq}
use Rattle.std.proofs.Math.ListN.{length, get_or}
use Rattle.std.proofs.Math.Seq.{take_at}
use Rattle.std.proofs.Math.Dec.{eqb}
use borrow.Author.Tests.{eq-eqb, ne_eqb, le-leb, lt-leb, lt-ltb, le-ltb}
use Rattle.base.specs.Pick.{pick}
use Rattle.base.specs.Over.{part}
use Rattle.codes.specs.Little.{le_at, le_bytes}
use Rattle.codes.specs.Little.Laws.{length_le_bytes}
use Rattle.refusal.specs.declared.Refusal.{Refusal}
use Rattle.refusal.specs.Check.{◌⊳◌, refuse}
use Rattle.refusal.proofs.Laws.Check.{fine_both, good_fine, and_both}
use Rattle.frame.specs.declared.Row.{Row}
use Rattle.frame.specs.Kind as kind
use Rattle.frame.specs.Frame.{all, rows_of, entry_count, key_count, edge_count, bits_of, has, section_of, kinds_good, flag, flags_of, width_good, sizes_good, presence_good, counts_good, body_of, head_check, record_from, record_of, framed_from, framed_of}
use Rattle.frame.specs.Frame.Laws.{Table}
use Rattle.frame.specs.Open.{Known, known_of, bytes_at, content_check, offsets_check, starts_check, fences_good, file_check, opening, open_of}
use Rattle.frame.specs.Open.Laws.{Frames}
use Rattle.frame.proofs.Laws.Open.{frames_made}
use Rattle.frame.specs.Layout.{Section, Layout, raw_section, head_bytes, payload, body_bytes, trailer, lay_out}
use Rattle.laid_out.specs.Rows.{rows_in, Small}
use Rattle.laid_out.proofs.Laws.Rows.{small_is, le_at_at, count_back, body_end, keys_back, edges_back, bits_back}
use Rattle.laid_out.proofs.Laws.Laid.{length_laid, body_back, size_fine, tail_fine, sum_fine, file_rows, ranges_fine}
use Rattle.batch.specs.declared.Edge.{Edge}
use Rattle.batch.specs.Batch.{Heading, batch_bytes}
use Rattle.batch_groups.specs.Groups.{any_dead, Group, groups_of, flat}
use Rattle.batch_groups.proofs.Laws.Groups.{flat_groups, groups_count}
use Rattle.write_image.specs.Image.{any_dense, keys_in, key_bytes, partner_bytes, width_of, offset_bytes, log_bytes, tomb_bytes, fences_of, fenced, start_bytes, indexed, minor_of, bit, flags_by, last_sections, sections_by, layout_by, layout_of, file_of}
use Rattle.write_image.specs.Image.Laws.{length_keys, length_offsets, length_log_bytes, length_tombs, length_start_bytes}
use Rattle.full_check.specs.Full.{sums_from, groups_from, degrees_from, dense_from, stray_from, data_good, edges_check, full_check}
use Rattle.readout.specs.Edges.{read_from, edges_in}
use Rattle.readout.specs.ReadOut.{heading_in, batch_in}
use Rattle.demand2.proofs.Laws.Rows.{width_fits, bit_is}
use Rattle.demand2.proofs.Laws.Contents.{keys_fine, tombs, Read, read_back}
use Rattle.demand2.proofs.Laws.Rules.{offsets_fine, starts_fine, dead_back, unused_back}
use Rattle.demand2.proofs.Laws.Fences.{fences_fine}
use Rattle.demand2.specs.Sections.{AllRaw, content_of, has_kind, twice_kind, once_in}
use Rattle.demand2.proofs.Laws.Sections.{raw_is, has_is, kinds_is, names_fine, reserved_fine, codecs_fine, raw_numbers, content_laid, len_is, sums_fine, length_content}
use Rattle.demand2.specs.File.{Flags, WrittenFile}

-- ---- the sections, whichever are there

module _ (keys w : ℕ) (es : List Edge) (gs : List Group) where
  abbrev raw1 : Section
  raw1 = raw_section kind.keys (key_bytes gs)

  sections_raw : (dead fence index : Bool) → AllRaw (raw1 ∷ raw_section kind.offsets (offset_bytes w keys 0 gs) ∷ raw_section kind.partners (partner_bytes keys gs) ∷ raw_section kind.logs (log_bytes es) ∷ last_sections dead fence index es gs)
  unfolding AllRaw last_sections
  sections_raw dead fence index =
      (raw_is kind.keys (key_bytes gs) refl, (raw_is kind.offsets (offset_bytes w keys 0 gs) refl, (raw_is kind.partners (partner_bytes keys gs) refl, (raw_is kind.logs (log_bytes es) refl, last dead fence index))))
    where
      starts : (index : Bool) → AllRaw (pick index (raw_section kind.starts (start_bytes gs) ∷ []) [])
      starts true = (raw_is kind.starts (start_bytes gs) refl, tt)
      starts false = tt

      fences : (fence index : Bool) → AllRaw (pick fence (raw_section kind.fences (fences_of (keys_in gs)) ∷ []) [] ++ pick index (raw_section kind.starts (start_bytes gs) ∷ []) [])
      fences true index = (raw_is kind.fences (fences_of (keys_in gs)) refl, starts index)
      fences false index = starts index

      last : (dead fence index : Bool)
          → AllRaw (pick dead (raw_section kind.tombstones (tomb_bytes es) ∷ []) [] ++ (pick fence (raw_section kind.fences (fences_of (keys_in gs)) ∷ []) [] ++ pick index (raw_section kind.starts (start_bytes gs) ∷ []) []))
      last true fence index = (raw_is kind.tombstones (tomb_bytes es) refl, fences fence index)
      last false fence index = fences fence index

  -- what the table says of them
  pub record Told (dead fence index : Bool) (ss : List Section) : Type 0 where
    pub few : length ss ≤ 7
    pub some : 4 ≤ length ss
    pub kinds : all (once_in ss) kind.kinds ≡ true
    pub marked : has_kind kind.tombstones ss ≡ dead
    pub fences : has_kind kind.fences ss ≡ fence
    pub starts : has_kind kind.starts ss ≡ index
    pub streams : has_kind kind.properties ss ≡ false
    pub keys_are : content_of kind.keys ss ≡ key_bytes gs
    pub offsets_are : content_of kind.offsets ss ≡ offset_bytes w keys 0 gs
    pub partners_are : content_of kind.partners ss ≡ partner_bytes keys gs
    pub logs_are : content_of kind.logs ss ≡ log_bytes es
    pub tombs_are : content_of kind.tombstones ss ≡ pick dead (tomb_bytes es) []
    pub fences_are : content_of kind.fences ss ≡ pick fence (fences_of (keys_in gs)) []
    pub starts_are : content_of kind.starts ss ≡ pick index (start_bytes gs) []

  sections_table : (dead fence index : Bool) → Told dead fence index (raw1 ∷ raw_section kind.offsets (offset_bytes w keys 0 gs) ∷ raw_section kind.partners (partner_bytes keys gs) ∷ raw_section kind.logs (log_bytes es) ∷ last_sections dead fence index es gs)
  unfolding last_sections content_of has_kind twice_kind all
  sections_table true true true = record { few = omega arith; some = omega arith; kinds = refl; marked = refl; fences = refl; starts = refl; streams = refl; keys_are = refl; offsets_are = refl; partners_are = refl; logs_are = refl; tombs_are = refl; fences_are = refl; starts_are = refl }
  sections_table true true false = record { few = omega arith; some = omega arith; kinds = refl; marked = refl; fences = refl; starts = refl; streams = refl; keys_are = refl; offsets_are = refl; partners_are = refl; logs_are = refl; tombs_are = refl; fences_are = refl; starts_are = refl }
  sections_table true false true = record { few = omega arith; some = omega arith; kinds = refl; marked = refl; fences = refl; starts = refl; streams = refl; keys_are = refl; offsets_are = refl; partners_are = refl; logs_are = refl; tombs_are = refl; fences_are = refl; starts_are = refl }
  sections_table true false false = record { few = omega arith; some = omega arith; kinds = refl; marked = refl; fences = refl; starts = refl; streams = refl; keys_are = refl; offsets_are = refl; partners_are = refl; logs_are = refl; tombs_are = refl; fences_are = refl; starts_are = refl }
  sections_table false true true = record { few = omega arith; some = omega arith; kinds = refl; marked = refl; fences = refl; starts = refl; streams = refl; keys_are = refl; offsets_are = refl; partners_are = refl; logs_are = refl; tombs_are = refl; fences_are = refl; starts_are = refl }
  sections_table false true false = record { few = omega arith; some = omega arith; kinds = refl; marked = refl; fences = refl; starts = refl; streams = refl; keys_are = refl; offsets_are = refl; partners_are = refl; logs_are = refl; tombs_are = refl; fences_are = refl; starts_are = refl }
  sections_table false false true = record { few = omega arith; some = omega arith; kinds = refl; marked = refl; fences = refl; starts = refl; streams = refl; keys_are = refl; offsets_are = refl; partners_are = refl; logs_are = refl; tombs_are = refl; fences_are = refl; starts_are = refl }
  sections_table false false false = record { few = omega arith; some = omega arith; kinds = refl; marked = refl; fences = refl; starts = refl; streams = refl; keys_are = refl; offsets_are = refl; partners_are = refl; logs_are = refl; tombs_are = refl; fences_are = refl; starts_are = refl }

-- ---- flags

bit_most : (b : Bool) → bit b ≤ 1
bit_most true = omega arith
bit_most false = omega arith

-- the bits of such a number
bits_of_lem : (d a b : ℕ) → d ≤ 1 → a ≤ 1 → b ≤ 1
    → let f : ℕ = 8 * d + (4 * a + 2 * b) in (f ≤ 15) × (f / 2 ^ 0 % 2 ≡ 0) × (f / 2 ^ 1 % 2 ≡ b) × (f / 2 ^ 2 % 2 ≡ a) × (f / 8 % 2 ≡ d)
bits_of_lem d a b p q r = (omega arith, omega arith, omega arith, omega arith, omega arith)

flags_back : (direction : ℕ) → direction ≤ 1 → (dense dead : Bool) → Flags direction dense dead (flags_by direction dense dead)
flags_back d h dense dead =
    let x = bits_of_lem d (bit dense) (bit dead) h (bit_most dense) (bit_most dead) in
    record {
      few = x.0;
      properties = ap (λ (t : ℕ). eqb t 1) x.1;
      marked = ap (λ (t : ℕ). eqb t 1) x.2 ∙ bit_is dead;
      thick = ap (λ (t : ℕ). eqb t 1) x.3 ∙ bit_is dense;
      way = x.4;
    }

module _ (h : Heading) (es : List Edge) (q : WrittenFile h es) where
  abbrev gs : List Group
  gs = groups_of es

  abbrev n : ℕ
  n = length gs

  abbrev ps : List ℕ
  ps = partner_bytes n gs

  abbrev w : ℕ
  w = width_of (length ps)

  abbrev os : List ℕ
  os = offset_bytes w n 0 gs

  abbrev dead : Bool
  dead = any_dead es

  abbrev dense : Bool
  dense = any_dense n gs

  abbrev fence : Bool
  fence = fenced n

  abbrev index : Bool
  index = indexed n

  abbrev flags : ℕ
  flags = flags_by h.direction dense dead

  abbrev x : Layout
  x = layout_of h es gs

  abbrev f : List ℕ
  f = file_of h es

  abbrev ss : List Section
  ss = sections_by n w dead es gs

  abbrev head : List ℕ
  head = head_bytes (minor_of n) flags h.ids

  abbrev body : List ℕ
  body = body_bytes ss n (length es) (8 * w)

  raw : AllRaw ss
  unfolding sections_by
  raw = sections_raw n w es gs dead fence index

  t : Told n w es gs dead fence index ss
  unfolding sections_by
  t = sections_table n w es gs dead fence index

  fl : Flags h.direction dense dead flags
  fl = flags_back h.direction q.way dense dead

  h64 : length head ≡ 64
  unfolding head_bytes
  h64 = let i = q.ids in simp (length-append, length_le_bytes) (omega arith)

  -- the parts of the file
  parts : f ≡ head ++ (payload ss ++ (body ++ trailer body))
  unfolding file_of layout_of layout_by lay_out
  parts = refl

  size_is : length f ≡ 84 + length (payload ss) + length body
  unfolding file_of layout_of layout_by
  size_is = length_laid x h64

  small : Small ss
  small = let few = t.few in let size = size_is in let bound = q.size in small_is ss (omega arith) (raw_numbers ss raw) (omega arith)

  rows : rows_of (body_of f) ≡ rows_in 64 2 ss
  unfolding file_of layout_of layout_by
  rows = file_rows x h64 small q.size

  body_is : body_of f ≡ body
  unfolding file_of layout_of layout_by
  body_is = body_back x h64 small q.size

  keycount_is : key_count (body_of f) ≡ n
  keycount_is = let k = q.keys in ap key_count body_is ∙ keys_back ss n (length es) (8 * w) small (omega arith)

  edgecount_is : edge_count (body_of f) ≡ length es
  edgecount_is = let k = q.edges in ap edge_count body_is ∙ edges_back ss n (length es) (8 * w) small (omega arith)

  bits_is : bits_of (body_of f) ≡ 8 * w
  bits_is = ap bits_of body_is ∙ bits_back ss n (length es) (8 * w) small

  -- ---- the header

  pub minor_is : get_or f 9 0 ≡ minor_of n
  unfolding head_bytes
  minor_is = ap (λ (s : List ℕ). get_or s 9 0) parts

  pub flags_is : flags_of f ≡ flags
  unfolding head_bytes le_bytes
  flags_is =
      let few = fl.few in
      le_at_at 4 (kind.magic_bytes ++ (1 ∷ minor_of n ∷ le_bytes 2 64)) (h.ids ++ (payload ss ++ (body ++ trailer body))) flags f 12 (parts ∙ refl) refl (omega arith)

  head_fine : head_check f ≡ (Ok tt)
  unfolding head_check head_bytes le_bytes le_at
  head_fine =
      let few = fl.few in
      let fs = flags_is in
      fine_both (ap (λ (s : List ℕ). refuse Refusal.Magic (not (eqb (le_at s 0 8) kind.magic))) parts)
      (fine_both (ap (λ (s : List ℕ). refuse Refusal.Major (not (eqb (get_or s 8 0) 1))) parts)
      (fine_both (ap (λ (s : List ℕ). refuse Refusal.HeaderSize (not (eqb (le_at s 10 2) 64))) parts)
      (ap (refuse Refusal.Flags) (le-ltb 15 (flags_of f) (omega arith)))))

  -- ---- the table

  table : Table (body_of f)
  unfolding kinds_good
  table =
      let count : entry_count (body_of f) ≡ length ss = ap entry_count body_is ∙ count_back ss n (length es) (8 * w) small in
      let some = t.some in
      let few = t.few in
      record {
        some = omega arith;
        most = omega arith;
        filled = rw body_is (body_end ss n (length es) (8 * w) small);
        names = rw rows (names_fine ss 64 2 raw);
        kinds = rw rows (kinds_is ss 64 2 kind.kinds ∙ t.kinds);
      }

  -- a section's bytes and length, and whether it is there
  content : (k : ℕ) → bytes_at f (section_of k (rows_of (body_of f))) ≡ content_of k ss
  content k = ap (λ (r : List Row). bytes_at f (section_of k r)) rows ∙ content_laid k ss f head (body ++ trailer body) 64 2 parts h64

  len : (k : ℕ) → (section_of k (rows_of (body_of f))).len ≡ length (content_of k ss)
  len k = ap (λ (r : List Row). (section_of k r).len) rows ∙ len_is k ss 64 2

  there : (k : ℕ) → has k (rows_of (body_of f)) ≡ has_kind k ss
  there k = ap (has k) rows ∙ has_is k ss 64 2

  -- ---- the counts

  width_good_lem : width_good (8 * w) ≡ true
  unfolding width_of
  width_good_lem = go (ltb (length ps) (2 ^ 24))
    where
      go : (b : Bool) → width_good (8 * pick b 3 4) ≡ true
      go true = refl
      go false = refl

  tomb_len : (b : Bool) → (not b || eqb (length (pick b (tomb_bytes es) [])) ((length es + 7) / 8)) ≡ true
  tomb_len true = eq-eqb _ _ (length_tombs es)
  tomb_len false = refl

  start_len : (b : Bool) → (not b || eqb (length (pick b (start_bytes gs) [])) (kind.starts_len n)) ≡ true
  start_len true = eq-eqb _ _ (length_start_bytes gs)
  start_len false = refl

  -- bounds and lengths (12) of a record by its numbers
  abbrev sizes_by : ℕ → ℕ → ℕ → ℕ → ℕ → ℕ → Bool → ℕ → Bool → ℕ → Bool
  sizes_by k e bits keys offsets logs marked tombs there starts =
      leb k kind.most_keys
      && (leb e kind.most_edges
      && (eqb keys (kind.keys_len k)
      && (eqb offsets (kind.offsets_len k (bits / 8)) && (eqb logs (kind.logs_len e) && ((not marked || eqb tombs (kind.tombstones_len e)) && (not there || eqb starts (kind.starts_len k)))))))

  sizes : sizes_by n (length es) (8 * w) (length (key_bytes gs)) (length os) (length (log_bytes es)) dead (length (pick dead (tomb_bytes es) [])) index (length (pick index (start_bytes gs) [])) ≡ true
  sizes =
      let eight : 8 * w / 8 ≡ w = omega arith in
      let ll = length_log_bytes es in
      and_both (le-leb n kind.most_keys q.keys) (and_both (le-leb (length es) kind.most_edges q.edges)
      (and_both (eq-eqb _ _ (length_keys gs)) (and_both (eq-eqb _ _ (length_offsets w n 0 gs ∙ ap (λ (z : ℕ). (n + 1) * z) (sym eight)))
      (and_both (eq-eqb (length (log_bytes es)) (8 * length es) (omega arith)) (and_both (tomb_len dead) (start_len index))))))

  -- no keys, no edges
  none_none : (not (eqb n 0) || eqb (length es) 0) ≡ true
  unfolding flat
  none_none = go gs (flat_groups es)
    where
      go : (gs : List Group) → flat gs ≡ es → (not (eqb (length gs) 0) || eqb (length es) 0) ≡ true
      go [] e = eq-eqb (length es) 0 (ap length (sym e))
      go (g ∷ gs) e = ap (λ (b : Bool). not b || eqb (length es) 0) (ne_eqb (suc (length gs)) 0 (λ z. omega arith))

  fences_there : (m : ℕ) → (leb m kind.most_unfenced || ltb kind.most_unfenced m) ≡ true
  fences_there m = elim (dec_le m kind.most_unfenced) [
    | yes a ↦ ap (λ (b : Bool). b || ltb kind.most_unfenced m) (le-leb m kind.most_unfenced a)
    | no a ↦ ap₂ (λ (b c : Bool). b || c) (lt-leb m kind.most_unfenced (omega arith)) (lt-ltb kind.most_unfenced m (omega arith))
  ]

  implied : (b : Bool) → (not b || b) ≡ true
  implied true = refl
  implied false = refl

  -- presence (12) by its numbers
  abbrev presence_by : ℕ → ℕ → ℕ → Bool → Bool → Bool → Bool
  presence_by bits k e marked fenced streams =
      leb k e
      && ((not (eqb k 0) || eqb e 0)
      && ((leb k kind.most_unfenced || fenced) && (beq (flag 0 bits) streams && (not (flag 1 bits) || marked))))

  presence : presence_by flags n (length es) dead fence false ≡ true
  presence =
      and_both (le-leb n (length es) (groups_count es)) (and_both none_none (and_both (fences_there n)
      (and_both (ap (λ (b : Bool). beq b false) fl.properties) (ap (λ (b : Bool). not b || dead) fl.marked ∙ implied dead))))

  counts : counts_good (flags_of f) (framed_of f) ≡ true
  unfolding counts_good sizes_good presence_good framed_of framed_from record_from
  counts =
      (λ j. width_good (bits_is j)
      && (sizes_by (keycount_is j) (edgecount_is j) (bits_is j) ((len kind.keys ∙ ap length t.keys_are) j) ((len kind.offsets ∙ ap length t.offsets_are) j)
      ((len kind.logs ∙ ap length t.logs_are) j) ((there kind.tombstones ∙ t.marked) j) ((len kind.tombstones ∙ ap length t.tombs_are) j)
      ((there kind.starts ∙ t.starts) j) ((len kind.starts ∙ ap length t.starts_are) j)
      && presence_by (flags_is j) (keycount_is j) (edgecount_is j) ((there kind.tombstones ∙ t.marked) j) ((there kind.fences ∙ t.fences) j) ((there kind.properties ∙ t.streams) j)))
      ∙ and_both width_good_lem (and_both sizes presence)

  frames : Frames f
  unfolding file_of layout_of layout_by
  frames = record {
    size = size_fine x h64 small q.size;
    head = head_fine;
    tail = tail_fine x h64 small q.size;
    sum = sum_fine x h64 small q.size;
    table = table;
    unreserved = rw rows (reserved_fine ss 64 2 raw);
    raw = rw rows (codecs_fine ss 64 2 raw);
    apart = ranges_fine x h64 small q.size;
    counts = counts;
  }

  -- ---- what is known of it

  pub known : Known
  known = record {
    keys = key_bytes gs;
    offsets = os;
    partners = ps;
    logs = log_bytes es;
    dead = tombs es;
    indexed = index;
    starts = pick index (start_bytes gs) [];
    keycount = n;
    edgecount = length es;
    bits = 8 * w;
  }

  pick_same : (b : Bool) (l : List ℕ) → pick b (pick b l []) [] ≡ pick b l []
  pick_same true l = refl
  pick_same false l = refl

  pub known_is : known_of f (record_of f) ≡ known
  unfolding known_of record_of record_from known
  known_is = λ j. record {
    keys = (content kind.keys ∙ t.keys_are) j;
    offsets = (content kind.offsets ∙ t.offsets_are) j;
    partners = (content kind.partners ∙ t.partners_are) j;
    logs = (content kind.logs ∙ t.logs_are) j;
    dead = (ap₂ (λ (b : Bool) (l : List ℕ). pick b l []) (there kind.tombstones ∙ t.marked) (content kind.tombstones ∙ t.tombs_are) ∙ pick_same dead (tomb_bytes es)) j;
    indexed = (there kind.starts ∙ t.starts) j;
    starts = (ap₂ (λ (b : Bool) (l : List ℕ). pick b l []) (there kind.starts ∙ t.starts) (content kind.starts ∙ t.starts_are) ∙ pick_same index (start_bytes gs)) j;
    keycount = keycount_is j;
    edgecount = edgecount_is j;
    bits = bits_is j;
  }

  -- its keys
  pub known_keys : ((known_of f (record_of f)).keys ≡ key_bytes gs) × ((known_of f (record_of f)).keycount ≡ n)
  unfolding known
  known_keys = (ap (λ (k : Known). k.keys) known_is, ap (λ (k : Known). k.keycount) known_is)

  -- whether there is a start index
  pub known_indexed : (known_of f (record_of f)).indexed ≡ index
  unfolding known
  known_indexed = ap (λ (k : Known). k.indexed) known_is

  partners_small : length ps < 2 ^ (8 * w)
  partners_small = width_fits (length ps) (few_bytes t.partners_are)
    where
      few_bytes : content_of kind.partners ss ≡ ps → length ps < 2 ^ 32
      few_bytes e = let bound = q.size in let l = length_content kind.partners ss in let p = size_is in omega (arith, ap length e)

  eight : 8 * w / 8 ≡ w
  eight = omega arith

  content_fine : content_check (known_of f (record_of f)) (framed_of f).fenced (bytes_at f (framed_of f).fences) ≡ (Ok tt)
  unfolding content_check framed_of framed_from known
  content_fine =
      (λ j. content_check (known_is j) ((there kind.fences ∙ t.fences) j) ((content kind.fences ∙ t.fences_are) j))
      ∙ fine_both (keys_fine gs q.order)
      (fine_both (ap (λ (v : ℕ). offsets_check os v n (length ps)) eight ∙ offsets_fine gs w partners_small)
      (fine_both (ap (refuse Refusal.Fences) (fences_good_lem fence)) (starts_good index)))
    where
      starts_good : (b : Bool) → pick b (starts_check (pick b (start_bytes gs) []) n (length es)) (Ok tt) ≡ (Ok tt)
      starts_good true =
          let all = ap length (flat_groups es) in
          let few = q.edges in
          ap (starts_check (start_bytes gs) n) (sym all) ∙ starts_fine gs q.order (omega arith)
      starts_good false = refl

      fences_good_lem : (b : Bool) → (b && not (fences_good (pick b (fences_of (keys_in gs)) []) (key_bytes gs) n)) ≡ false
      fences_good_lem true = ap not (fences_fine gs q.order q.keys)
      fences_good_lem false = refl

  pub file_opens : open_of f ≡ Ok (record_of f)
  unfolding open_of opening file_check
  file_opens = rw (fine_both (frames_made (length f) f f frames) content_fine)

  -- ---- the full check

  edges_few : length es < 2 ^ 64
  edges_few = let e = q.edges in omega arith

  reads : Read gs w partners_small es (sym (flat_groups es)) edges_few [] gs
  reads = read_back gs w partners_small es (sym (flat_groups es)) edges_few gs [] 0 refl q.order

  same_bool : (b : Bool) → beq b b ≡ true
  same_bool true = refl
  same_bool false = refl

  stray : Bool → ℕ → Bool
  stray b v = b && stray_from ps os v (pick b (start_bytes gs) []) n 0 0

  stray_fine : (b : Bool) → stray b w ≡ false
  unfolding stray flat
  stray_fine true = reads.starts
  stray_fine false = refl

  data_fine : data_good flags (length es) (tombs es) (degrees_from ps os w n 0) (dense_from ps os w n 0) (stray index w) ≡ true
  unfolding data_good
  data_fine =
      and_both (eq-eqb _ _ (reads.degrees ∙ ap length (flat_groups es)))
      (and_both (ap₂ beq fl.marked (dead_back es) ∙ same_bool dead)
      (and_both (ap₂ beq fl.thick reads.dense ∙ same_bool dense) (and_both (ap not (unused_back es)) (ap not (stray_fine index)))))

  edges_fine : edges_check (flags_of f) (known_of f (record_of f)) ≡ (Ok tt)
  unfolding edges_check known stray
  edges_fine =
      (λ j. edges_check (flags_is j) (known_is j))
      ∙ ap (λ (v : ℕ). groups_from ps os v n 0 ⊳ refuse Refusal.Data (not (data_good flags (length es) (tombs es) (degrees_from ps os v n 0) (dense_from ps os v n 0) (stray index v)))) eight
      ∙ fine_both reads.good (good_fine Refusal.Data data_fine)

  -- the file that we write passes the full check
  pub passes : full_check f ≡ (Ok tt)
  unfolding full_check file_check
  passes =
      fine_both (fine_both (frames_made (length f) f f frames) content_fine)
      (fine_both (ap (λ (r : List Row). sums_from f r 0) rows ∙ sums_fine ss f head (body ++ trailer body) 64 2 0 raw parts h64) edges_fine)

  -- ---- the read-out

  pub edges_again : edges_in (known_of f (record_of f)) ≡ es
  unfolding edges_in known flat
  edges_again =
      ap edges_in known_is
      ∙ ap (λ (v : ℕ). read_from (key_bytes gs) ps os v (log_bytes es) (tombs es) n 0 0) eight
      ∙ reads.edges ∙ flat_groups es

  ids_back : part f 16 64 ≡ h.ids
  unfolding head_bytes le_bytes
  ids_back =
      let i = q.ids in
      ap (λ (s : List ℕ). part s 16 64) parts ∙ take_at h.ids (payload ss ++ (body ++ trailer body)) 48 i

  -- heading and edges come back, byte for byte
  pub batch_back : batch_in f ≡ batch_bytes h es
  unfolding batch_in heading_in
  batch_back = λ j. batch_bytes (record { direction = (ap (λ (v : ℕ). v / 8 % 2) flags_is ∙ fl.way) j; ids = ids_back j }) (edges_again j)
