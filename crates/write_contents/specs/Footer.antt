-- The footer body over sections that stand in the output.
use Rattle.std.specs.Prelude.{◌≡◌, refl, ℕ, ◌+◌, ◌*◌, ◌≤◌, List, [], ◌++◌, Bool, true, false, length}
use Rattle.std.proofs.Common.{sym, ap, subst, ◌∙◌, arith, add-zero, append-nil, append_assoc}
use Rattle.base.specs.Pick.{pick}
use Rattle.base.specs.Put as P
use Rattle.base.specs.Put.{Put, Left}
use Rattle.codes.specs.Little.{le_bytes}
use Rattle.frame.specs.declared.Row.{Row}
use Rattle.frame.specs.Kind as kind
use Rattle.frame.specs.Frame.{raw_row}
use Rattle.frame.specs.Layout.{Section, raw_section, payload, entry, entries, body_bytes}
use Rattle.batch.specs.declared.Edge.{Edge}
use Rattle.batch_groups.specs.Groups.{groups_of}
use Rattle.write_image.specs.Image.{fenced, indexed, sections_by}
use Rattle.write_frame.specs.Standing.{Extent, entry_in, entries_in, total, entries_append, part_below, entries_standing}
use Rattle.write_frame.specs.Runs.{count_bytes}
use Rattle.write_plan.specs.Size.{tomb_size, fences_size, starts_size, section_count, Fitting}
use Rattle.write_plan.specs.Parts.{four, extent_if, total_if, last_by, extents_are, sections_raw, count_sections, body_parts}

unfoldable pub body_in : List ℕ → ℕ → ℕ → ℕ → ℕ → Bool → List ℕ
body_in s keys w partners n dead =
    le_bytes 2 (section_count keys dead) ++ (entries_in s 64 (four keys w partners n ++ last_by n dead keys) ++ count_bytes keys n (8 * w))

-- the same in the order of writing
pub body_run : (s : List ℕ) (keys w partners n : ℕ) (dead : Bool) → body_in s keys w partners n dead
    ≡ le_bytes 2 (section_count keys dead)
    ++ (entries_in s 64 (four keys w partners n) ++ (entries_in s (64 + total (four keys w partners n)) (last_by n dead keys) ++ count_bytes keys n (8 * w)))
unfolding body_in
body_run s keys w partners n dead =
    ap (λ (t : List ℕ). le_bytes 2 (section_count keys dead) ++ t)
    (ap (λ (t : List ℕ). t ++ count_bytes keys n (8 * w)) (entries_append s 64 (four keys w partners n) (last_by n dead keys))
    ∙ append_assoc (entries_in s 64 (four keys w partners n)) (entries_in s (64 + total (four keys w partners n)) (last_by n dead keys)) (count_bytes keys n (8 * w)))

-- where the sections stand after q, it is their body
pub body_standing : (es : List Edge) (n keys w partners : ℕ) (dense dead : Bool) → Fitting es n keys w partners dense dead → (q r : List ℕ) → length q ≡ 64
    → body_in (q ++ (payload (sections_by keys w dead es (groups_of es)) ++ r)) keys w partners n dead ≡ body_bytes (sections_by keys w dead es (groups_of es)) keys (length es) (8 * w)
unfolding body_in
body_standing es n keys w partners dense dead f q r l =
    let ss : List Section = sections_by keys w dead es (groups_of es) in
    let s : List ℕ = q ++ (payload ss ++ r) in
    let stand : entries_in s 64 (four keys w partners n ++ last_by n dead keys) ≡ entries 64 ss =
    ap (entries_in s 64) (sym (extents_are es n keys w partners dense dead f)) ∙ entries_standing ss q r 64 (sym l) (sections_raw keys w dead es (groups_of es)) in
    let count : section_count keys dead ≡ length ss = sym (count_sections keys w dead es (groups_of es)) in
    (λ j. le_bytes 2 (count j) ++ (stand j ++ count_bytes keys (f.edges_is j) (8 * w)))
    ∙ sym (body_parts ss keys (length es) (8 * w))

-- ---- entries, one after the other

pub length_entry_in : (s : List ℕ) (k start len : ℕ) → length (entry_in s k start len) ≡ 28
unfolding entry le_bytes
length_entry_in s k start len = refl

-- what is written of a row r is the entry of what r names, and that is what it must have room for
module _ {r : Row} (k start len : ℕ) (e : r ≡ raw_row k start len 0) where
  pub named : {o o₁ : List ℕ} {at p : ℕ} → Put o o₁ at p (entry_in o r.kind r.start r.len) → Put o o₁ at p (entry_in o k start len)
  named {o} {o₁} {at} {p} w = subst (λ (x : Row). Put o o₁ at p (entry_in o x.kind x.start x.len)) e w

  pub asked : {n at : ℕ} → (start + len ≤ n) × (at + 28 ≤ n) × (at ≤ 4294967296)
      → (r ≡ raw_row r.kind r.start r.len 0) × (r.start + r.len ≤ n) × (at + 28 ≤ n) × (at ≤ 4294967296)
  asked {n} {at} h =
      subst (λ (x : Row). (x ≡ raw_row x.kind x.start x.len 0) × (x.start + x.len ≤ n) × (at + 28 ≤ n) × (at ≤ 4294967296)) (sym e)
      (refl, h.0, h.1, h.2)

-- an entry of a section below `at` is written
pub entry_put : {out : List ℕ} {to : ℕ} {xs : List ℕ} {o : List ℕ} {at : ℕ} {ys : List ℕ} {out' : List ℕ} {r : ℕ} (k start len : ℕ)
    → Left out to (entry_in o k start len ++ xs) o at ys → start + len ≤ at → at ≤ to → Put out out' to r (entry_in out k start len) → Left out' r xs o at ys
entry_put {out} {to} {out' = out'} {r = r} k start len l h g p =
    P.put l (subst (λ (t : List ℕ). Put out out' to r (entry start (raw_section k t))) (part_below l start (start + len) h g) p)

pub four_entries : (s : List ℕ) (keys w partners n : ℕ) → entries_in s 64 (four keys w partners n)
    ≡ entry_in s kind.keys 64 (16 * keys)
    ++ (entry_in s kind.offsets (64 + 16 * keys) ((keys + 1) * w)
    ++ (entry_in s kind.partners (64 + 16 * keys + (keys + 1) * w) partners ++ (entry_in s kind.logs (64 + 16 * keys + (keys + 1) * w + partners) (8 * n) ++ [])))
unfolding entries_in four
four_entries s keys w partners n = refl

pub length_four : (s : List ℕ) (keys w partners n : ℕ) → length (entries_in s 64 (four keys w partners n)) ≡ 112
unfolding entries_in four entry le_bytes
length_four s keys w partners n = refl

-- the last three, each there or not
entries_if : (s : List ℕ) (start : ℕ) (b : Bool) (k len : ℕ) → entries_in s start (extent_if b k len) ≡ pick b (entry_in s k start len) []
unfolding entries_in
entries_if s start true k len = append-nil (entry_in s k start len)
entries_if s start false k len = refl

pub last_entries : (s : List ℕ) (start n : ℕ) (dead : Bool) (keys : ℕ) → entries_in s start (last_by n dead keys)
    ≡ pick dead (entry_in s kind.tombstones start (tomb_size n dead)) []
    ++ (pick (fenced keys) (entry_in s kind.fences (start + tomb_size n dead) (fences_size keys)) []
    ++ pick (indexed keys) (entry_in s kind.starts (start + tomb_size n dead + fences_size keys) (starts_size keys)) [])
unfolding last_by
last_entries s start n dead keys =
    let tombs : List Extent = extent_if dead kind.tombstones (tomb_size n dead) in
    let fences : List Extent = extent_if (fenced keys) kind.fences (fences_size keys) in
    let starts : List Extent = extent_if (indexed keys) kind.starts (starts_size keys) in
    let t : total tombs ≡ tomb_size n dead = total_if dead kind.tombstones (kind.tombstones_len n) in
    let f : total fences ≡ fences_size keys = total_if (fenced keys) kind.fences (kind.fences_len (kind.fence_count keys)) in
    let u : ℕ = start + tomb_size n dead in
    entries_append s start tombs (fences ++ starts)
    ∙ ap (λ (x : List ℕ). entries_in s start tombs ++ x) (entries_append s (start + total tombs) fences starts)
    ∙ (λ j. entries_in s start tombs ++ (entries_in s (start + t j) fences ++ entries_in s (start + t j + f j) starts))
    ∙ (λ j. entries_if s start dead kind.tombstones (tomb_size n dead) j
    ++ (entries_if s u (fenced keys) kind.fences (fences_size keys) j ++ entries_if s (u + fences_size keys) (indexed keys) kind.starts (starts_size keys) j))

-- ---- an entry that is there or not

module _ (o : List ℕ) (at : ℕ) (there : Bool) (k start len : ℕ) where
  abbrev pub here : List ℕ
  here = pick there (entry_in o k start (pick there len 0)) []

  pub here_room : there ≡ true → start + pick there len 0 ≤ length o → at + length here ≤ length o → (start + len ≤ length o) × (at + 28 ≤ length o)
  here_room t h g =
      let l = length_entry_in o k start len in
      let n : pick there len 0 ≡ len = ap (λ (b : Bool). pick b len 0) t in
      let m : length here ≡ length (entry_in o k start len) = ap (λ (b : Bool). length (pick b (entry_in o k start (pick b len 0)) [])) t in
      (omega arith, omega arith)

  pub here_put : there ≡ true → {o₁ : List ℕ} {p : ℕ} → Put o o₁ at p (entry_in o k start len) → Put o o₁ at p here
  here_put t {o₁} {p} w = subst (λ (b : Bool). Put o o₁ at p (pick b (entry_in o k start (pick b len 0)) [])) (sym t) w

  pub here_not : there ≡ false → Put o o at at here
  here_not t =
      subst (λ (b : Bool). Put o o at at (pick b (entry_in o k start (pick b len 0)) [])) (sym t) (record { place = sym (add-zero at); bytes = refl })
