-- The file that the writer makes: "Sections in order 1 to 6 without gaps, 5 only if an edge is dead, 6 only above 65,536
-- keys, stride 256. Minor 0."; and the start index "last, from 1,025 keys up, with minor version 1".
use Rattle.std.specs.Prelude.{ℕ, zero, suc, ◌+◌, ◌-◌, ◌*◌, ◌/◌, ◌^◌, List, [], ◌∷◌, ◌++◌, Bool, true, false, ◌&&◌, ◌||◌, length, get_or, drop, ltb, leb}
use Rattle.base.specs.Pick.{pick}
use Rattle.codes.specs.declared.ids.Id.{Id}
use Rattle.codes.specs.Little.{le_bytes}
use Rattle.codes.specs.Ids.{id_bytes}
use Rattle.codes.specs.Varint.{var_bytes}
use Rattle.frame.specs.Kind as kind
use Rattle.frame.specs.Layout.{Section, Layout, raw_section, head_bytes, lay_out}
use Rattle.group.specs.Group.{bytes_of}
use Rattle.group.specs.Written.{written_as}
use Rattle.batch.specs.declared.Edge.{Edge}
use Rattle.batch.specs.Batch.{Heading, partners_in, logs_in, marks_in}
use Rattle.batch_groups.specs.Groups.{none, any_dead, Group, groups_of}
pub mod Laws

-- ---- what groups hold

unfoldable pub keys_in : List Group → List Id
keys_in [] = []
keys_in (g ∷ gs) = g.key ∷ keys_in gs

-- ---- a group

-- "Split cost of a group = each upper varint's length plus 8, summed": after the upper half hi
unfoldable pub split_cost : ℕ → List Id → ℕ
split_cost hi [] = 0
split_cost hi (p ∷ ps) = length (var_bytes (p.hi - hi)) + 8 + split_cost p.hi ps

-- "Dense if split cost is at least 16·degree, or if degree is above 1,024 and its square above 16·key count; otherwise split"
unfoldable pub dense_by : ℕ → ℕ → ℕ → Bool
dense_by keys degree cost = leb (16 * degree) cost || (ltb 1024 degree && ltb (16 * keys) (degree * degree))

unfoldable pub is_dense : ℕ → List Id → Bool
is_dense keys ps = dense_by keys (length ps) (split_cost 0 ps)

-- the group of the partners ps in a file of that many keys
unfoldable pub group_bytes : ℕ → List Id → List ℕ
group_bytes keys ps = written_as (is_dense keys ps) ps

-- the bytes of a group's edges
abbrev pub bytes_in : ℕ → Group → List ℕ
bytes_in keys g = group_bytes keys (partners_in g.edges)

unfoldable pub any_dense : ℕ → List Group → Bool
any_dense keys [] = false
any_dense keys (g ∷ gs) = is_dense keys (partners_in g.edges) || any_dense keys gs

-- ---- the sections

-- 1: "16 bytes each"
abbrev pub key_bytes : List Group → List ℕ
key_bytes gs = bytes_of (keys_in gs)

-- numbers of w bytes
unfoldable pub numbers : ℕ → List ℕ → List ℕ
numbers w [] = []
numbers w (x ∷ xs) = le_bytes w x ++ numbers w xs

-- 3: one group after the other
unfoldable pub partner_bytes : ℕ → List Group → List ℕ
partner_bytes keys [] = []
partner_bytes keys (g ∷ gs) = bytes_in keys g ++ partner_bytes keys gs

-- 2: where each group begins, the first at `at`, and where the last ends
unfoldable pub offsets_from : ℕ → ℕ → List Group → List ℕ
offsets_from keys at [] = at ∷ []
offsets_from keys at (g ∷ gs) = at ∷ offsets_from keys (at + length (bytes_in keys g)) gs

abbrev pub offset_bytes : ℕ → ℕ → ℕ → List Group → List ℕ
offset_bytes w keys at gs = numbers w (offsets_from keys at gs)

-- "Offset width: 24 bits for a partner section below 2^24 bytes, otherwise 32", in bytes
unfoldable pub width_of : ℕ → ℕ
width_of size = pick (ltb size (2 ^ 24)) 3 4

-- 4: "One u64 per edge, in file order"
abbrev pub log_bytes : List Edge → List ℕ
log_bytes es = numbers 8 (logs_in es)

-- 5: "Edge e is bit e mod 8 of byte e/8; unused bits zero": m bytes of eight marks, the first the lowest bit
abbrev pub bit : Bool → ℕ
bit true = 1
bit false = 0

unfoldable pub octet : ℕ → List Bool → ℕ
octet zero ds = 0
octet (suc n) [] = 0
octet (suc n) (d ∷ ds) = bit d + 2 * octet n ds

unfoldable pub octets : ℕ → List Bool → List ℕ
octets zero ds = []
octets (suc m) ds = octet 8 ds ∷ octets m (drop 8 ds)

abbrev pub tomb_bytes : List Edge → List ℕ
tomb_bytes es = octets (kind.tombstones_len (length es)) (marks_in es)

-- 6: "Stride u32; entry count u32 = key count divided by stride, rounded up; entries of key and u64 offset, entry i being
-- key i·stride and 16·i·stride"
unfoldable pub fence_bytes : Id → ℕ → List ℕ
fence_bytes k i = id_bytes k ++ le_bytes 8 (kind.key_size * (i * kind.fence_stride))

-- m entries from entry i on
unfoldable pub fence_keys_from : ℕ → List Id → ℕ → List ℕ
fence_keys_from zero ks i = []
fence_keys_from (suc m) ks i = fence_bytes (get_or ks (i * kind.fence_stride) none.key) i ++ fence_keys_from m ks (i + 1)

unfoldable pub fences_of : List Id → List ℕ
fences_of ks = le_bytes 4 kind.fence_stride ++ (le_bytes 4 (kind.fence_count (length ks)) ++ fence_keys_from (kind.fence_count (length ks)) ks 0)

abbrev pub fenced : ℕ → Bool
fenced keys = ltb kind.most_unfenced keys

-- 0x0200: "entry i being the number of edges before group i, the last the edge count"; before the first there are e
unfoldable pub firsts_from : ℕ → List Group → List ℕ
firsts_from e [] = e ∷ []
firsts_from e (g ∷ gs) = e ∷ firsts_from (e + length g.edges) gs

abbrev pub start_bytes : List Group → List ℕ
start_bytes gs = numbers kind.start_size (firsts_from 0 gs)

abbrev pub indexed : ℕ → Bool
indexed keys = ltb kind.most_unindexed keys

-- ---- the file

-- "Bit 2 is set exactly if a group is dense, bit 1 exactly if an edge is dead, bit 0 never"; bit 3 says inverse, and so does
-- direction 1
abbrev pub flags_by : ℕ → Bool → Bool → ℕ
flags_by direction dense dead = 8 * direction + (4 * bit dense + 2 * bit dead)

-- tombstones, fences and start index, each there or not
unfoldable pub last_sections : Bool → Bool → Bool → List Edge → List Group → List Section
last_sections dead fence index es gs =
    pick dead (raw_section kind.tombstones (tomb_bytes es) ∷ []) []
    ++ (pick fence (raw_section kind.fences (fences_of (keys_in gs)) ∷ []) []
    ++ pick index (raw_section kind.starts (start_bytes gs) ∷ []) [])

-- of that many keys, with offsets of w bytes
unfoldable pub sections_by : ℕ → ℕ → Bool → List Edge → List Group → List Section
sections_by keys w dead es gs =
    raw_section kind.keys (key_bytes gs)
    ∷ raw_section kind.offsets (offset_bytes w keys 0 gs)
    ∷ raw_section kind.partners (partner_bytes keys gs)
    ∷ raw_section kind.logs (log_bytes es)
    ∷ last_sections dead (fenced keys) (indexed keys) es gs

-- minor version 1 exactly where there is a start index
abbrev pub minor_of : ℕ → ℕ
minor_of keys = bit (indexed keys)

-- the same from what is counted of the edges: keys, bytes of an offset, whether a group is dense, whether an edge is dead
unfoldable pub layout_by : Heading → ℕ → ℕ → Bool → Bool → List Edge → List Group → Layout
layout_by h keys w dense dead es gs =
    record {
      head = head_bytes (minor_of keys) (flags_by h.direction dense dead) h.ids;
      sections = sections_by keys w dead es gs;
      keycount = keys;
      edgecount = length es;
      bits = 8 * w;
    }

unfoldable pub layout_of : Heading → List Edge → List Group → Layout
layout_of h es gs =
    layout_by h (length gs) (width_of (length (partner_bytes (length gs) gs))) (any_dense (length gs) gs) (any_dead es) es gs

unfoldable pub file_of : Heading → List Edge → List ℕ
file_of h es = lay_out (layout_of h es (groups_of es))
