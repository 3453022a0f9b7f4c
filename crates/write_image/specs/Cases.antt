-- The writer's choices at the edges of their rules, and a batch carried through to its file, by computing. Document 01's own
-- table of marked cases is not here: it stands in crate promises.
use Rattle.std.specs.Prelude.{◌≡◌, ℕ, ◌+◌, ◌-◌, ◌*◌, ◌^◌, ◌≤◌, List, [], ◌∷◌, ◌++◌, Bool, true, false, length, ltb}
use Rattle.std.proofs.Math.Path.{refl, ap}
use Rattle.std.proofs.Common.{◌∙◌, arith}
use borrow.Author.Tests.{le-ltb}
use Rattle.base.specs.Pick.{pick}
use Rattle.codes.specs.declared.ids.Id.{Id}
use Rattle.codes.specs.Little.{le_at, le_bytes}
use Rattle.codes.specs.Ids.{be_at, be_bytes, halves_at, id_bytes}
use Rattle.codes.specs.Varint.{bytes_from, var_bytes}
use Rattle.xxh3_spec.specs.Xxh3.{mul, fold, xorshift, rotl, swap, rrmxmx, secret, of1to3, of4to8, of9to16, small, pair, mix_step, inward, of17to128, onward, of129to240, lane, accumulate, stir, scramble, turn, run_on, start_lanes, twice, merge, finish, large, xxh3}
use Rattle.frame.specs.Kind as kind
use Rattle.frame.specs.Layout.{Section, raw_section, head_bytes, payload, entry, entries, body_bytes, trailer, lay_out}
use Rattle.frame.proofs.Laws.Cases.{ids}
use Rattle.group.specs.Group.{bytes_of}
use Rattle.group.specs.Written.{split_from, split_bytes, dense_bytes}
use Rattle.batch.specs.declared.Edge.{Edge}
use Rattle.batch.specs.Batch.{Heading, heading_of, edge_at, edges_at, edges_of, partners_in, logs_in, marks_in}
use Rattle.batch_groups.specs.Groups.{none, any_dead, Group, join, groups_of}
use Rattle.write_image.specs.Image.{keys_in, split_cost, dense_by, is_dense, group_bytes, any_dense, numbers, partner_bytes, offsets_from, width_of, octet, octets, fenced, fence_bytes, fence_keys_from, fences_of, firsts_from, start_bytes, indexed, minor_of, key_bytes, offset_bytes, log_bytes, tomb_bytes, bit, flags_by, last_sections, sections_by, layout_by, layout_of, file_of}
use Rattle.write_image.specs.Image.Laws.{length_fences}

abbrev zeros7 : List ℕ → List ℕ
zeros7 xs = 0 ∷ 0 ∷ 0 ∷ 0 ∷ 0 ∷ 0 ∷ 0 ∷ xs

-- ---- a group: dense or split

pub record Dense : Type 0 where
  -- "at least 16·degree": the last cost that is split, and the first that is dense
  pub cost : (dense_by 1 1024 16383 ≡ false) × (dense_by 1 1024 16384 ≡ true)
  -- "degree is above 1,024", at 9 bytes a partner and one key
  pub degree : (dense_by 1 1024 9216 ≡ false) × (dense_by 1 1025 9225 ≡ true)
  -- "its square above 16·key count": 1,028 · 1,028 is 16 · 66,049, which is not above
  pub square : (dense_by 66048 1028 9252 ≡ true) × (dense_by 66049 1028 9252 ≡ false)
  -- 1,025 is dense up to 65,664 keys
  pub keys : (dense_by 65664 1025 9225 ≡ true) × (dense_by 65665 1025 9225 ≡ false)

pub dense : Dense
unfolding dense_by
dense = record { cost = (refl, refl); degree = (refl, refl); square = (refl, refl); keys = (refl, refl) }

-- ---- offset width: "24 bits for a partner section below 2^24 bytes, otherwise 32"

pub width : (8 * width_of (2 ^ 24 - 1) ≡ 24) × (8 * width_of (2 ^ 24) ≡ 32)
unfolding width_of
width = (refl, refl)

-- ---- tombstones: "Edge e is bit e mod 8 of byte e/8"

-- edge 0, edge 7 and edge 8 of nine
pub marks :
    (octets 2 (true ∷ false ∷ false ∷ false ∷ false ∷ false ∷ false ∷ false ∷ false ∷ []) ≡ 0x01 ∷ 0x00 ∷ [])
    × (octets 2 (false ∷ false ∷ false ∷ false ∷ false ∷ false ∷ false ∷ true ∷ false ∷ []) ≡ 0x80 ∷ 0x00 ∷ [])
    × (octets 2 (false ∷ false ∷ false ∷ false ∷ false ∷ false ∷ false ∷ false ∷ true ∷ []) ≡ 0x00 ∷ 0x01 ∷ [])
unfolding octet octets
marks = (refl, refl, refl)

-- ---- fences: "6 only above 65,536 keys, stride 256", tombstones: "5 only if an edge is dead", and the start index

module _ (w : ℕ) (es : List Edge) (gs : List Group) where
  -- the sections of a file of these edges and keys
  abbrev sections : Bool → List Section
  sections dead = sections_by (length gs) w dead es gs

  abbrev four : List Section → List Section
  four last =
      raw_section kind.keys (key_bytes gs)
      ∷ raw_section kind.offsets (offset_bytes w (length gs) 0 gs)
      ∷ raw_section kind.partners (partner_bytes (length gs) gs)
      ∷ raw_section kind.logs (log_bytes es)
      ∷ last

  abbrev tombstones : Section
  tombstones = raw_section kind.tombstones (tomb_bytes es)

  abbrev fences : Section
  fences = raw_section kind.fences (fences_of (keys_in gs))

  abbrev starts : Section
  starts = raw_section kind.starts (start_bytes gs)

  -- with that many keys
  abbrev with_keys : Bool → ℕ → List Section
  with_keys dead k = four (last_sections dead (fenced k) (indexed k) es gs)

  -- the start index: "from 1,025 keys up", the last section
  pub unindexed_at : length gs ≡ 1024 → (sections false ≡ four []) × (sections true ≡ four (tombstones ∷ []))
  unfolding sections_by last_sections
  unindexed_at n = (ap (with_keys false) n, ap (with_keys true) n)

  pub indexed_at : length gs ≡ 1025 → (sections false ≡ four (starts ∷ [])) × (sections true ≡ four (tombstones ∷ starts ∷ []))
  unfolding sections_by last_sections
  indexed_at n = (ap (with_keys false) n, ap (with_keys true) n)

  pub unfenced_at : length gs ≡ 65536 → (sections false ≡ four (starts ∷ [])) × (sections true ≡ four (tombstones ∷ starts ∷ []))
  unfolding sections_by last_sections
  unfenced_at n = (ap (with_keys false) n, ap (with_keys true) n)

  pub fenced_at : length gs ≡ 65537 → (sections false ≡ four (fences ∷ starts ∷ [])) × (sections true ≡ four (tombstones ∷ fences ∷ starts ∷ []))
  unfolding sections_by last_sections
  fenced_at n = (ap (with_keys false) n, ap (with_keys true) n)

  -- of every count of keys: which sections, in which order
  pub sections_are : (keys : ℕ) (dead : Bool) → sections_by keys w dead es gs
      ≡ raw_section 1 (key_bytes gs) ∷ raw_section 2 (offset_bytes w keys 0 gs) ∷ raw_section 3 (partner_bytes keys gs) ∷ raw_section 4 (log_bytes es)
      ∷ (pick dead (raw_section 5 (tomb_bytes es) ∷ []) [] ++ (pick (ltb 65536 keys) (raw_section 6 (fences_of (keys_in gs)) ∷ []) [] ++ pick (ltb 1024 keys) (raw_section 0x0200 (start_bytes gs) ∷ []) []))
  unfolding sections_by last_sections
  sections_are keys dead = refl

  -- up to 1,024 keys the file is as it was before there was a start index: minor version 0 and sections 1 to 5 alone
  pub layout_kept : (h : Heading) (keys : ℕ) (dense dead : Bool) → keys ≤ 1024 → layout_by h keys w dense dead es gs
      ≡ record {
        head = head_bytes 0 (flags_by h.direction dense dead) h.ids;
        sections = raw_section kind.keys (key_bytes gs) ∷ raw_section kind.offsets (offset_bytes w keys 0 gs) ∷ raw_section kind.partners (partner_bytes keys gs) ∷ raw_section kind.logs (log_bytes es)
            ∷ (pick dead (tombstones ∷ []) [] ++ []);
        keycount = keys;
        edgecount = length es;
        bits = 8 * w;
      }
  unfolding layout_by sections_by last_sections
  layout_kept h keys dense dead few = rw (le-ltb 65536 keys (omega arith), le-ltb 1024 keys few)

-- "with minor version 1": exactly where there is a start index
pub minor_is : (keys : ℕ) → minor_of keys ≡ bit (ltb 1024 keys)
minor_is keys = refl

pub minor : (minor_of 0 ≡ 0) × (minor_of 1 ≡ 0) × (minor_of 1024 ≡ 0) × (minor_of 1025 ≡ 1) × (minor_of 65536 ≡ 1) × (minor_of 65537 ≡ 1)
minor = (refl, refl, refl, refl, refl, refl)

-- "entry i being the number of edges before group i, the last the edge count": groups of 2 edges, 1 and 3; and no group
abbrev group_of : List Edge → Group
group_of es = record { key = none.key; edges = es }

pub starts_of : (start_bytes (group_of (none ∷ none ∷ []) ∷ group_of (none ∷ []) ∷ group_of (none ∷ none ∷ none ∷ []) ∷ [])
    ≡ 0 ∷ zeros7 (2 ∷ zeros7 (3 ∷ zeros7 (6 ∷ zeros7 []))))
    × (start_bytes [] ≡ 0 ∷ zeros7 [])
unfolding firsts_from numbers le_bytes
starts_of = (refl, refl)

-- 65,537 keys at stride 256 make 257 entries, and 65,536 would make 256; a million make 3,907
pub fence_count_lem : (kind.fence_count 65536 ≡ 256) × (kind.fence_count 65537 ≡ 257) × (kind.fence_count 1000000 ≡ 3907)
fence_count_lem = (refl, refl, refl)

-- the section of 65,537 keys begins with the stride and the count, and has 24 bytes for each entry
pub fence_head : (ks : List Id) → length ks ≡ 65537
    → (le_at (fences_of ks) 0 4 ≡ 256) × (le_at (fences_of ks) 4 4 ≡ 257) × (length (fences_of ks) ≡ 8 + 24 * 257)
unfolding fences_of le_bytes le_at
fence_head ks n =
    let count : kind.fence_count (length ks) ≡ 257 = ap kind.fence_count n in
    let head : (k : ℕ) → le_at (fences_of ks) k 4 ≡ le_at (le_bytes 4 256 ++ (le_bytes 4 257 ++ fence_keys_from (kind.fence_count (length ks)) ks 0)) k 4 =
    λ k. ap (λ (m : ℕ). le_at (le_bytes 4 256 ++ (le_bytes 4 m ++ fence_keys_from (kind.fence_count (length ks)) ks 0)) k 4) count in
    (head 0, head 4, length_fences ks ∙ ap (λ (m : ℕ). 8 + 24 * m) count)

-- ---- a batch of an inverse heading and three edges: a dead one and a live one of the same key, and one whose group is dense

unfoldable pub mixed : List ℕ
mixed =
    (3 ∷ 1 ∷ ids)
    ++ (2 ∷ zeros7 (1 ∷ zeros7 (2 ∷ zeros7 (5 ∷ zeros7 (1 ∷ 7 ∷ zeros7 []))))
    ++ (1 ∷ zeros7 (1 ∷ zeros7 (2 ∷ zeros7 (5 ∷ zeros7 (2 ∷ 0xff ∷ 0xff ∷ 0xff ∷ 0xff ∷ 0xff ∷ 0xff ∷ 0xff ∷ 0xff ∷ []))))
    ++ (1 ∷ zeros7 (1 ∷ zeros7 (3 ∷ 0 ∷ 2 ∷ 0 ∷ 0 ∷ 0 ∷ 0 ∷ 0 ∷ 0 ∷ zeros7 (1 ∷ 8 ∷ zeros7 []))))))

-- its file, as the second program writes it
unfoldable pub mixed_file : List ℕ
mixed_file =
    0x54 ∷ 0x47 ∷ 0x45 ∷ 0x44 ∷ 0x47 ∷ 0x45 ∷ 0x00 ∷ 0x00 ∷ 0x01 ∷ 0x00 ∷ 0x40 ∷ 0x00 ∷ 0x0e ∷ 0x00 ∷ 0x00 ∷ 0x00 ∷
    0x10 ∷ 0x11 ∷ 0x12 ∷ 0x13 ∷ 0x14 ∷ 0x15 ∷ 0x16 ∷ 0x17 ∷ 0x18 ∷ 0x19 ∷ 0x1a ∷ 0x1b ∷ 0x1c ∷ 0x1d ∷ 0x1e ∷ 0x1f ∷
    0x20 ∷ 0x21 ∷ 0x22 ∷ 0x23 ∷ 0x24 ∷ 0x25 ∷ 0x26 ∷ 0x27 ∷ 0x28 ∷ 0x29 ∷ 0x2a ∷ 0x2b ∷ 0x2c ∷ 0x2d ∷ 0x2e ∷ 0x2f ∷
    0x30 ∷ 0x31 ∷ 0x32 ∷ 0x33 ∷ 0x34 ∷ 0x35 ∷ 0x36 ∷ 0x37 ∷ 0x38 ∷ 0x39 ∷ 0x3a ∷ 0x3b ∷ 0x3c ∷ 0x3d ∷ 0x3e ∷ 0x3f ∷
    0x00 ∷ 0x00 ∷ 0x00 ∷ 0x00 ∷ 0x00 ∷ 0x00 ∷ 0x00 ∷ 0x01 ∷ 0x00 ∷ 0x00 ∷ 0x00 ∷ 0x00 ∷ 0x00 ∷ 0x00 ∷ 0x00 ∷ 0x02 ∷
    0x00 ∷ 0x00 ∷ 0x00 ∷ 0x00 ∷ 0x00 ∷ 0x00 ∷ 0x00 ∷ 0x01 ∷ 0x00 ∷ 0x00 ∷ 0x00 ∷ 0x00 ∷ 0x00 ∷ 0x00 ∷ 0x00 ∷ 0x03 ∷
    0x00 ∷ 0x00 ∷ 0x00 ∷ 0x14 ∷ 0x00 ∷ 0x00 ∷ 0x26 ∷ 0x00 ∷ 0x00 ∷ 0x02 ∷ 0x01 ∷ 0x05 ∷ 0x01 ∷ 0x00 ∷ 0x00 ∷ 0x00 ∷
    0x00 ∷ 0x00 ∷ 0x00 ∷ 0x00 ∷ 0x00 ∷ 0x02 ∷ 0x00 ∷ 0x00 ∷ 0x00 ∷ 0x00 ∷ 0x00 ∷ 0x00 ∷ 0x00 ∷ 0x01 ∷ 0x10 ∷ 0x00 ∷
    0x02 ∷ 0x00 ∷ 0x00 ∷ 0x00 ∷ 0x00 ∷ 0x00 ∷ 0x00 ∷ 0x00 ∷ 0x00 ∷ 0x00 ∷ 0x00 ∷ 0x00 ∷ 0x00 ∷ 0x00 ∷ 0x01 ∷ 0x07 ∷
    0x00 ∷ 0x00 ∷ 0x00 ∷ 0x00 ∷ 0x00 ∷ 0x00 ∷ 0x00 ∷ 0xff ∷ 0xff ∷ 0xff ∷ 0xff ∷ 0xff ∷ 0xff ∷ 0xff ∷ 0xff ∷ 0x08 ∷
    0x00 ∷ 0x00 ∷ 0x00 ∷ 0x00 ∷ 0x00 ∷ 0x00 ∷ 0x00 ∷ 0x01 ∷ 0x05 ∷ 0x00 ∷ 0x01 ∷ 0x00 ∷ 0x00 ∷ 0x00 ∷ 0x40 ∷ 0x00 ∷
    0x00 ∷ 0x00 ∷ 0x00 ∷ 0x00 ∷ 0x00 ∷ 0x00 ∷ 0x20 ∷ 0x00 ∷ 0x00 ∷ 0x00 ∷ 0x00 ∷ 0x00 ∷ 0x00 ∷ 0x00 ∷ 0x5e ∷ 0x2d ∷
    0xd8 ∷ 0x84 ∷ 0x77 ∷ 0xf5 ∷ 0x09 ∷ 0x27 ∷ 0x02 ∷ 0x00 ∷ 0x00 ∷ 0x00 ∷ 0x60 ∷ 0x00 ∷ 0x00 ∷ 0x00 ∷ 0x00 ∷ 0x00 ∷
    0x00 ∷ 0x00 ∷ 0x09 ∷ 0x00 ∷ 0x00 ∷ 0x00 ∷ 0x00 ∷ 0x00 ∷ 0x00 ∷ 0x00 ∷ 0xff ∷ 0x16 ∷ 0xbd ∷ 0xb1 ∷ 0x96 ∷ 0x0b ∷
    0x89 ∷ 0x42 ∷ 0x03 ∷ 0x00 ∷ 0x00 ∷ 0x00 ∷ 0x69 ∷ 0x00 ∷ 0x00 ∷ 0x00 ∷ 0x00 ∷ 0x00 ∷ 0x00 ∷ 0x00 ∷ 0x26 ∷ 0x00 ∷
    0x00 ∷ 0x00 ∷ 0x00 ∷ 0x00 ∷ 0x00 ∷ 0x00 ∷ 0xd4 ∷ 0xa5 ∷ 0xb7 ∷ 0xc1 ∷ 0x87 ∷ 0x57 ∷ 0x29 ∷ 0x34 ∷ 0x04 ∷ 0x00 ∷
    0x00 ∷ 0x00 ∷ 0x8f ∷ 0x00 ∷ 0x00 ∷ 0x00 ∷ 0x00 ∷ 0x00 ∷ 0x00 ∷ 0x00 ∷ 0x18 ∷ 0x00 ∷ 0x00 ∷ 0x00 ∷ 0x00 ∷ 0x00 ∷
    0x00 ∷ 0x00 ∷ 0x24 ∷ 0x3c ∷ 0xdf ∷ 0x0c ∷ 0x8a ∷ 0x3b ∷ 0x80 ∷ 0x22 ∷ 0x05 ∷ 0x00 ∷ 0x00 ∷ 0x00 ∷ 0xa7 ∷ 0x00 ∷
    0x00 ∷ 0x00 ∷ 0x00 ∷ 0x00 ∷ 0x00 ∷ 0x00 ∷ 0x01 ∷ 0x00 ∷ 0x00 ∷ 0x00 ∷ 0x00 ∷ 0x00 ∷ 0x00 ∷ 0x00 ∷ 0xeb ∷ 0xce ∷
    0x86 ∷ 0xeb ∷ 0xd2 ∷ 0xf9 ∷ 0x2e ∷ 0xe1 ∷ 0x02 ∷ 0x00 ∷ 0x00 ∷ 0x00 ∷ 0x00 ∷ 0x00 ∷ 0x00 ∷ 0x00 ∷ 0x03 ∷ 0x00 ∷
    0x00 ∷ 0x00 ∷ 0x00 ∷ 0x00 ∷ 0x00 ∷ 0x00 ∷ 0x18 ∷ 0xab ∷ 0x29 ∷ 0xf6 ∷ 0x33 ∷ 0x24 ∷ 0xf3 ∷ 0x45 ∷ 0x54 ∷ 0xb3 ∷
    0x00 ∷ 0x00 ∷ 0x00 ∷ 0x54 ∷ 0x47 ∷ 0x45 ∷ 0x44 ∷ 0x47 ∷ 0x45 ∷ 0x00 ∷ 0x00 ∷ []

pub mixed_edges : edges_of mixed
    ≡ record { key = record { hi = 1; lo = 2 }; partner = record { hi = 5; lo = 1 }; log = 7; dead = true }
    ∷ record { key = record { hi = 1; lo = 2 }; partner = record { hi = 5; lo = 2 }; log = 2 ^ 64 - 1; dead = false }
    ∷ record { key = record { hi = 1; lo = 3 }; partner = record { hi = 2 ^ 49; lo = 1 }; log = 8; dead = false } ∷ []
unfolding mixed edge_at edges_at edges_of halves_at be_at le_at
mixed_edges = refl

pub mixed_written : file_of (heading_of mixed) (edges_of mixed) ≡ mixed_file
unfolding mixed mixed_file heading_of edge_at edges_at edges_of le_at le_bytes be_at be_bytes halves_at id_bytes bytes_from var_bytes mul fold xorshift rotl swap rrmxmx secret of1to3 of4to8 of9to16 small pair mix_step inward of17to128 onward of129to240 lane accumulate stir scramble turn run_on start_lanes twice merge finish large xxh3 head_bytes payload entry entries body_bytes trailer lay_out bytes_of split_from split_bytes dense_bytes join groups_of partners_in logs_in marks_in keys_in any_dead split_cost dense_by is_dense group_bytes any_dense numbers partner_bytes offsets_from width_of octet octets fence_bytes fence_keys_from fences_of last_sections sections_by layout_by layout_of file_of
mixed_written = refl
