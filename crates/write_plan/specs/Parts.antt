-- The parts of the writer's file and their lengths.
use Rattle.std.specs.Prelude.{◌≡◌, refl, Bool, true, false}
use Rattle.std.proofs.Math.Path.{sym, ap}
use Rattle.std.proofs.Common.{◌∙◌, add-zero}
use Prim.Native.Nat.{ℕ, ◌+◌, ◌*◌, ◌/◌}
use native.Mathlib.Omega.{arith}
use mathlib.Core.List.{List, [], ◌∷◌, ◌++◌, append-nil, append_assoc}
use Rattle.std.proofs.Math.ListN.{length, length-append}
use Rattle.base.specs.Pick.{pick}
use Rattle.codes.specs.Little.{le_bytes}
use Rattle.codes.specs.Little.Laws.{length_le_bytes}
use Rattle.frame.specs.Kind as kind
use Rattle.frame.specs.Layout.{Section, Layout, raw_section, head_bytes, payload, entry, entries, body_bytes, trailer, lay_out}
use Rattle.batch.specs.declared.Edge.{Edge}
use Rattle.batch.specs.Batch.{Heading}
use Rattle.batch_groups.specs.Groups.{Group, groups_of}
use Rattle.write_image.specs.Image.{keys_in, any_dense, key_bytes, offset_bytes, partner_bytes, width_of, log_bytes, bit, tomb_bytes, fences_of, fenced, start_bytes, indexed, flags_by, last_sections, minor_of, sections_by, layout_by, layout_of, file_of}
use Rattle.write_image.specs.Image.Laws.{length_keys, length_keys_in, length_offsets, length_log_bytes, length_tombs, length_fences, length_start_bytes}
use Rattle.write_frame.specs.Standing.{Extent, total, total_append, extents, extents_append, payload_append, total_extents, PlainSections, plain_append}
use Rattle.write_frame.specs.Runs.{length_head, length_trailer, count_bytes, length_counts}
use Rattle.write_plan.specs.Size.{tomb_size, fences_size, starts_size, sections_size, section_count, file_size, Fitting}

-- ---- sections

-- a raw section that is there or not
module _ (b : Bool) (k : ℕ) (bytes : List ℕ) where
  abbrev raw_if : List Section
  raw_if = pick b (raw_section k bytes ∷ []) []

payload_if : (b : Bool) (k : ℕ) (bytes : List ℕ) → payload (raw_if b k bytes) ≡ pick b bytes []
unfolding payload
payload_if true k bytes = append-nil bytes
payload_if false k bytes = refl

plain_if : (b : Bool) (k : ℕ) (bytes : List ℕ) → PlainSections (raw_if b k bytes)
unfolding PlainSections
plain_if true k bytes = (refl, tt)
plain_if false k bytes = tt

count_if : (b : Bool) (k : ℕ) (bytes : List ℕ) → length (raw_if b k bytes) ≡ bit b
count_if true k bytes = refl
count_if false k bytes = refl

module _ (d f x : Bool) (es : List Edge) (gs : List Group) where
  abbrev tombs : List Section
  tombs = raw_if d kind.tombstones (tomb_bytes es)

  abbrev fences : List Section
  fences = raw_if f kind.fences (fences_of (keys_in gs))

  abbrev starts : List Section
  starts = raw_if x kind.starts (start_bytes gs)

  last_payload : payload (last_sections d f x es gs) ≡ pick d (tomb_bytes es) [] ++ (pick f (fences_of (keys_in gs)) [] ++ pick x (start_bytes gs) [])
  unfolding last_sections
  last_payload =
      payload_append tombs (fences ++ starts)
      ∙ ap (λ (t : List ℕ). payload tombs ++ t) (payload_append fences starts)
      ∙ (λ j. payload_if d kind.tombstones (tomb_bytes es) j ++ (payload_if f kind.fences (fences_of (keys_in gs)) j ++ payload_if x kind.starts (start_bytes gs) j))

  last_raw : PlainSections (last_sections d f x es gs)
  unfolding last_sections
  last_raw =
      plain_append tombs (fences ++ starts) (plain_if d kind.tombstones (tomb_bytes es))
      (plain_append fences starts (plain_if f kind.fences (fences_of (keys_in gs))) (plain_if x kind.starts (start_bytes gs)))

  count_last : length (last_sections d f x es gs) ≡ bit d + (bit f + bit x)
  unfolding last_sections
  count_last =
      length-append tombs (fences ++ starts)
      ∙ ap (λ (t : ℕ). length tombs + t) (length-append fences starts)
      ∙ (λ j. count_if d kind.tombstones (tomb_bytes es) j + (count_if f kind.fences (fences_of (keys_in gs)) j + count_if x kind.starts (start_bytes gs) j))

-- 1 to 3, which are written side by side, then the others
pub payload_parts : (keys w : ℕ) (dead : Bool) (es : List Edge) (gs : List Group)
    → payload (sections_by keys w dead es gs)
    ≡ (key_bytes gs ++ (offset_bytes w keys 0 gs ++ partner_bytes keys gs))
    ++ (log_bytes es ++ (pick dead (tomb_bytes es) [] ++ (pick (fenced keys) (fences_of (keys_in gs)) [] ++ pick (indexed keys) (start_bytes gs) [])))
unfolding payload sections_by
payload_parts keys w dead es gs =
    let rest : List ℕ = log_bytes es ++ (pick dead (tomb_bytes es) [] ++ (pick (fenced keys) (fences_of (keys_in gs)) [] ++ pick (indexed keys) (start_bytes gs) [])) in
    ap (λ (t : List ℕ). key_bytes gs ++ (offset_bytes w keys 0 gs ++ (partner_bytes keys gs ++ (log_bytes es ++ t)))) (last_payload dead (fenced keys) (indexed keys) es gs)
    ∙ sym
    (append_assoc (key_bytes gs) (offset_bytes w keys 0 gs ++ partner_bytes keys gs) rest
    ∙ ap (λ (t : List ℕ). key_bytes gs ++ t) (append_assoc (offset_bytes w keys 0 gs) (partner_bytes keys gs) rest))

pub sections_raw : (keys w : ℕ) (dead : Bool) (es : List Edge) (gs : List Group) → PlainSections (sections_by keys w dead es gs)
unfolding PlainSections sections_by
sections_raw keys w dead es gs = (refl, (refl, (refl, (refl, last_raw dead (fenced keys) (indexed keys) es gs))))

-- ---- the extents of the sections, from the counts

unfoldable pub four : ℕ → ℕ → ℕ → ℕ → List Extent
four keys w bytes n =
    record { kind = kind.keys; len = kind.keys_len keys }
    ∷ record { kind = kind.offsets; len = kind.offsets_len keys w }
    ∷ record { kind = kind.partners; len = bytes }
    ∷ record { kind = kind.logs; len = kind.logs_len n }
    ∷ []

-- an extent that is there or not
abbrev pub extent_if : Bool → ℕ → ℕ → List Extent
extent_if b k len = pick b (record { kind = k; len = len } ∷ []) []

unfoldable pub last_by : ℕ → Bool → ℕ → List Extent
last_by n dead keys =
    extent_if dead kind.tombstones (tomb_size n dead)
    ++ (extent_if (fenced keys) kind.fences (fences_size keys) ++ extent_if (indexed keys) kind.starts (starts_size keys))

pub four_is : (keys w bytes n : ℕ) → four keys w bytes n
    ≡ record { kind = kind.keys; len = kind.keys_len keys }
    ∷ record { kind = kind.offsets; len = kind.offsets_len keys w }
    ∷ record { kind = kind.partners; len = bytes }
    ∷ record { kind = kind.logs; len = kind.logs_len n }
    ∷ []
unfolding four
four_is keys w bytes n = refl

pub total_four : (keys w bytes n : ℕ) → total (four keys w bytes n) ≡ 16 * keys + ((keys + 1) * w + (bytes + 8 * n))
unfolding total four
total_four keys w bytes n = omega arith

pub total_if : (b : Bool) (k len : ℕ) → total (extent_if b k (pick b len 0)) ≡ pick b len 0
unfolding total
total_if true k len = add-zero len
total_if false k len = refl

pub total_last : (n : ℕ) (dead : Bool) (keys : ℕ) → total (last_by n dead keys) ≡ tomb_size n dead + (fences_size keys + starts_size keys)
unfolding last_by
total_last n dead keys =
    let tombs : List Extent = extent_if dead kind.tombstones (tomb_size n dead) in
    let fences : List Extent = extent_if (fenced keys) kind.fences (fences_size keys) in
    let starts : List Extent = extent_if (indexed keys) kind.starts (starts_size keys) in
    total_append tombs (fences ++ starts)
    ∙ ap (λ (t : ℕ). total tombs + t) (total_append fences starts)
    ∙ (λ j. total_if dead kind.tombstones (kind.tombstones_len n) j + (total_if (fenced keys) kind.fences (kind.fences_len (kind.fence_count keys)) j + total_if (indexed keys) kind.starts (kind.starts_len keys) j))

extents_if : (b : Bool) (k : ℕ) (bytes : List ℕ) (len : ℕ) → length bytes ≡ len → extents (raw_if b k bytes) ≡ extent_if b k (pick b len 0)
unfolding extents
extents_if true k bytes len e = ap (λ (t : ℕ). record { kind = k; len = t } ∷ []) e
extents_if false k bytes len e = refl

-- ---- lengths

module _ (es : List Edge) (n keys w bytes : ℕ) (dense dead : Bool) (f : Fitting es n keys w bytes dense dead) where
  abbrev gs : List Group
  gs = groups_of es

  abbrev ss : List Section
  ss = sections_by keys w dead es gs

  keys_long : length (key_bytes gs) ≡ 16 * keys
  keys_long = length_keys gs ∙ ap (λ (t : ℕ). 16 * t) (sym f.keys_is)

  offsets_long : length (offset_bytes w keys 0 gs) ≡ (keys + 1) * w
  offsets_long = length_offsets w keys 0 gs ∙ ap (λ (t : ℕ). (t + 1) * w) (sym f.keys_is)

  logs_long : length (log_bytes es) ≡ 8 * n
  logs_long = let e = f.edges_is in length_log_bytes es ∙ omega arith

  tombs_long : length (tomb_bytes es) ≡ (n + 7) / 8
  tombs_long = length_tombs es ∙ ap (λ (t : ℕ). (t + 7) / 8) (sym f.edges_is)

  fences_long : length (fences_of (keys_in gs)) ≡ kind.fences_head + kind.fence_size * kind.fence_count keys
  fences_long =
      length_fences (keys_in gs) ∙ ap (λ (t : ℕ). kind.fences_head + kind.fence_size * kind.fence_count t) (length_keys_in gs ∙ sym f.keys_is)

  starts_long : length (start_bytes gs) ≡ kind.starts_len keys
  starts_long = length_start_bytes gs ∙ ap kind.starts_len (sym f.keys_is)

  extents_last : extents (last_sections dead (fenced keys) (indexed keys) es gs) ≡ last_by n dead keys
  unfolding last_sections last_by
  extents_last =
      let d : List Section = tombs dead (fenced keys) (indexed keys) es gs in
      let e : List Section = fences dead (fenced keys) (indexed keys) es gs in
      let x : List Section = starts dead (fenced keys) (indexed keys) es gs in
      extents_append d (e ++ x)
      ∙ ap (λ (t : List Extent). extents d ++ t) (extents_append e x)
      ∙ (λ j. extents_if dead kind.tombstones (tomb_bytes es) (kind.tombstones_len n) tombs_long j
      ++ (extents_if (fenced keys) kind.fences (fences_of (keys_in gs)) (kind.fences_len (kind.fence_count keys)) fences_long j
      ++ extents_if (indexed keys) kind.starts (start_bytes gs) (kind.starts_len keys) starts_long j))

  -- the sections are as long as the counts say
  pub extents_are : extents ss ≡ four keys w bytes n ++ last_by n dead keys
  unfolding extents sections_by four last_by
  extents_are =
      (λ j.
      record { kind = kind.keys; len = keys_long j }
      ∷ record { kind = kind.offsets; len = offsets_long j }
      ∷ record { kind = kind.partners; len = sym f.bytes_is j }
      ∷ record { kind = kind.logs; len = logs_long j }
      ∷ extents_last j)

  pub length_payload : length (payload ss) ≡ sections_size keys w bytes n dead
  unfolding sections_size
  length_payload =
      sym (total_extents ss)
      ∙ ap total extents_are
      ∙ total_append (four keys w bytes n) (last_by n dead keys)
      ∙ omega (arith, total_four keys w bytes n, total_last n dead keys)

-- ---- the body

length_entry : (at k : ℕ) (bytes : List ℕ) → length (entry at (raw_section k bytes)) ≡ 28
unfolding entry le_bytes
length_entry at k bytes = refl

length_entries : (at : ℕ) (ss : List Section) → PlainSections ss → length (entries at ss) ≡ 28 * length ss
unfolding entries PlainSections
length_entries at [] r = refl
length_entries at (s ∷ ss) r =
    let one : length (entry at s) ≡ 28 = ap (λ (t : Section). length (entry at t)) r.0 ∙ length_entry at s.kind s.bytes in
    length-append (entry at s) (entries (at + length s.bytes) ss) ∙ omega (arith, one, length_entries (at + length s.bytes) ss r.1)

pub count_sections : (keys w : ℕ) (dead : Bool) (es : List Edge) (gs : List Group) → length (sections_by keys w dead es gs) ≡ section_count keys dead
unfolding sections_by
count_sections keys w dead es gs = let l = count_last dead (fenced keys) (indexed keys) es gs in omega arith

pub body_parts : (ss : List Section) (n e bits : ℕ) → body_bytes ss n e bits ≡ le_bytes 2 (length ss) ++ (entries 64 ss ++ count_bytes n e bits)
unfolding body_bytes count_bytes
body_parts ss n e bits = refl

pub length_body : (ss : List Section) (n e bits : ℕ) → PlainSections ss → length (body_bytes ss n e bits) ≡ 19 + 28 * length ss
length_body ss n e bits r =
    let a = length-append (le_bytes 2 (length ss)) (entries 64 ss ++ count_bytes n e bits) in
    let b = length-append (entries 64 ss) (count_bytes n e bits) in
    ap length (body_parts ss n e bits)
    ∙ omega (arith, length_le_bytes 2 (length ss), length_entries 64 ss r, length_counts n e bits)

-- ---- the file

pub file_parts : (x : Layout) → lay_out x
    ≡ x.head ++ (payload x.sections
    ++ (body_bytes x.sections x.keycount x.edgecount x.bits ++ trailer (body_bytes x.sections x.keycount x.edgecount x.bits)))
unfolding lay_out
file_parts x = refl

module _ (h : Heading) (es : List Edge) (n keys w bytes : ℕ) (dense dead : Bool) (f : Fitting es n keys w bytes dense dead) where
  pub layout_is : layout_by h keys w dense dead es (groups_of es) ≡ layout_of h es (groups_of es)
  unfolding layout_of
  layout_is =
      let gs : List Group = groups_of es in
      let bytes_same : bytes ≡ length (partner_bytes (length gs) gs) = f.bytes_is ∙ ap (λ (t : ℕ). length (partner_bytes t gs)) f.keys_is in
      let width_same : w ≡ width_of (length (partner_bytes (length gs) gs)) = f.width_is ∙ ap width_of bytes_same in
      let dense-same : dense ≡ any_dense (length gs) gs = f.dense_is ∙ ap (λ (t : ℕ). any_dense t gs) f.keys_is in
      (λ j. layout_by h (f.keys_is j) (width_same j) (dense-same j) (f.dead_is j) es gs)

  pub file_is : lay_out (layout_by h keys w dense dead es (groups_of es)) ≡ file_of h es
  unfolding file_of
  file_is = ap lay_out layout_is

  pub length_file : length h.ids ≡ 48 → length (file_of h es) ≡ file_size keys w bytes n dead
  unfolding layout_by file_size
  length_file i =
      let ss : List Section = sections_by keys w dead es (groups_of es) in
      let head : List ℕ = head_bytes (minor_of keys) (flags_by h.direction dense dead) h.ids in
      let body : List ℕ = body_bytes ss keys (length es) (8 * w) in
      let a = length-append head (payload ss ++ (body ++ trailer body)) in
      let b = length-append (payload ss) (body ++ trailer body) in
      let c = length-append body (trailer body) in
      let whole : length (file_of h es) ≡ length (head ++ (payload ss ++ (body ++ trailer body))) = ap length (sym file_is ∙ file_parts (layout_by h keys w dense dead es (groups_of es))) in
      omega (
        arith,
        length_head (minor_of keys) (flags_by h.direction dense dead) h.ids,
        length_payload es n keys w bytes dense dead f,
        length_body ss keys (length es) (8 * w) (sections_raw keys w dead es (groups_of es)),
        count_sections keys w dead es (groups_of es),
        length_trailer body,
      )
