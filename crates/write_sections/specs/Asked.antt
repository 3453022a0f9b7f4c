-- What the writers of keys, offsets and partners ask and leave, each by a name.
use Rattle.std.specs.Prelude.{◌≡◌, ℕ, ◌+◌, ◌≤◌, List, ◌++◌, length, get_or}
use Rattle.std.proofs.lemmas.List.Edits.{sets}
use Rattle.base.specs.Over.{part}
use Rattle.codes.specs.Little.{le_bytes}
use Rattle.codes.specs.Ids.{id_bytes}
use Rattle.frame.specs.Kind.{key_size, most_edges}
use Rattle.batch.specs.declared.Edge.{Edge}
use Rattle.batch.specs.Batch.{partners_in}
use Rattle.batch_groups.specs.Groups.{none, Group, groups_of, Grouped}
use Rattle.write_image.specs.Image.{group_bytes, key_bytes, offset_bytes, partner_bytes}
use Rattle.write_image.specs.Image.Laws.{Rise}
use Rattle.write_group.specs.declared.Span.{Span}
use Rattle.write_group.specs.Span.{Spans}

-- an offset has 3 bytes or 4
abbrev pub Width : ℕ → Type 0
Width w = (3 ≤ w) × (w ≤ 4)

-- n edges in groups of rising keys, `keys` of them; from `at` on the output has room for `bytes` bytes
abbrev pub Placed : List Edge → ℕ → ℕ → ℕ → ℕ → ℕ → List ℕ → Type 0
Placed es n keys w at bytes out =
    (n ≡ length es) × (n ≤ most_edges) × (keys ≡ length (groups_of es)) × (keys ≤ most_edges) × Grouped 0 (groups_of es)
    × (at + bytes ≤ length out) × Width w

-- the three sections, one after the other
abbrev pub group_sections : ℕ → ℕ → List Group → List ℕ
group_sections w keys gs = key_bytes gs ++ (offset_bytes w keys 0 gs ++ partner_bytes keys gs)

-- ---- one group, the one that begins at edge i: its key goes to k, its offset to o, its bytes to p

abbrev pub bytes_for : List Edge → ℕ → Span → ℕ → List ℕ
bytes_for es i g keys = group_bytes keys (partners_in (part es i g.end))

abbrev pub GroupRoom : List Edge → ℕ → Span → ℕ → ℕ → ℕ → ℕ → ℕ → List ℕ → Type 0
GroupRoom es i g keys w k o p out =
    Spans es i g × (g.end ≤ most_edges) × (keys ≤ most_edges) × Rise 0 (partners_in (part es i g.end))
    × (k + key_size ≤ length out) × (o + w ≤ length out) × (p + length (bytes_for es i g keys) ≤ length out) × Width w

-- it answers r, the place after the group's bytes
abbrev pub GroupPut : List Edge → ℕ → Span → ℕ → ℕ → ℕ → ℕ → ℕ → ℕ → List ℕ → List ℕ → ℕ → Type 0
GroupPut es i g keys w start k o p out out' r =
    (r ≡ p + length (bytes_for es i g keys))
    × (out' ≡ sets (sets (sets out k (id_bytes (get_or es i none).key)) o (le_bytes w start)) p (bytes_for es i g keys))
