-- What is counted of the edges before anything is written, and the size of the file that these counts give.
use Rattle.std.specs.Prelude.{◌≡◌, ℕ, ◌+◌, ◌*◌, Bool, List, length}
use Rattle.base.specs.Pick.{pick}
use Rattle.frame.specs.Kind as kind
use Rattle.batch.specs.declared.Edge.{Edge}
use Rattle.batch_groups.specs.Groups.{any_dead, groups_of}
use Rattle.write_image.specs.Image.{any_dense, partner_bytes, width_of, bit, fenced, indexed}

-- tombstones, fences and start index; a section that is not there takes nothing
abbrev pub tomb_size : ℕ → Bool → ℕ
tomb_size n dead = pick dead (kind.tombstones_len n) 0

abbrev pub fences_size : ℕ → ℕ
fences_size keys = pick (fenced keys) (kind.fences_len (kind.fence_count keys)) 0

abbrev pub starts_size : ℕ → ℕ
starts_size keys = pick (indexed keys) (kind.starts_len keys) 0

-- of n edges with that many keys, offsets of w bytes and a partner section of that many bytes
unfoldable pub sections_size : ℕ → ℕ → ℕ → ℕ → Bool → ℕ
sections_size keys w bytes n dead =
    kind.keys_len keys + (kind.offsets_len keys w + (bytes + (kind.logs_len n + (tomb_size n dead + (fences_size keys + starts_size keys)))))

abbrev pub section_count : ℕ → Bool → ℕ
section_count keys dead = 4 + (bit dead + (bit (fenced keys) + bit (indexed keys)))

-- header, sections, footer body, trailer
unfoldable pub file_size : ℕ → ℕ → ℕ → ℕ → Bool → ℕ
file_size keys w bytes n dead =
    kind.header_size + (sections_size keys w bytes n dead + (2 + kind.counts_size + kind.entry_size * section_count keys dead + kind.trailer_size))

-- what the check of a batch counts of the edges
pub record Tallied (es : List Edge) (n keys : ℕ) (dead : Bool) : Type 0 where
  pub edges_is : n ≡ length es
  pub keys_is : keys ≡ length (groups_of es)
  pub dead_is : dead ≡ any_dead es

-- the numbers are those of the edges
pub record Fitting (es : List Edge) (n keys w bytes : ℕ) (dense dead : Bool) : Type 0 where
  pub edges_is : n ≡ length es
  pub keys_is : keys ≡ length (groups_of es)
  pub bytes_is : bytes ≡ length (partner_bytes keys (groups_of es))
  pub width_is : w ≡ width_of bytes
  pub dense_is : dense ≡ any_dense keys (groups_of es)
  pub dead_is : dead ≡ any_dead es
