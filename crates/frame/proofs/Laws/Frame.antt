-- The laws of the section table and of rules 9 to 12 and 36, and what the rules do not see: sections of unknown kinds and the minor
-- version.
use Rattle.std.specs.Prelude.{◌≡◌, ◌↔◌, ◌⊎◌, List, [], ◌∷◌, Bool, true, false, not, ◌&&◌, ◌||◌, length, leb, eqb, Ok, Err}
use Rattle.std.proofs.Math.Path.{refl, ap}
use Rattle.std.proofs.Common.{sym, subst, ◌∙◌, inl, inr, ⊎_elim, eqb-true, leb-true, eq-eqb, ne_eqb, le-leb, lt-ltb, ltb-true}
use Prim.Native.Nat.{ℕ, zero, suc, ◌+◌, ◌-◌, ◌*◌, ◌≤◌, ◌<◌}
use Rattle.std.proofs.Math.Decide.{ℕ_discrete, dec_lt}
use native.Mathlib.Omega.{arith}
use Rattle.std.proofs.Math.ListN.{get_or}
use Rattle.std.proofs.lemmas.Bool.{eqb-false, lt-leb}
use Rattle.base.specs.Pick.{pick}
use Rattle.codes.specs.Little.{le_bytes}
use Rattle.codes.specs.Little.Laws.{le_at_same}
use Rattle.codes.specs.Ids.Laws.{halves_same}
use Rattle.refusal.specs.declared.Refusal.{Refusal}
use Rattle.refusal.proofs.Laws.Check.{pick_fine, fine_pick, and_parts, and_both}
use Rattle.frame.specs.declared.Row.{Row}
use Rattle.frame.specs.declared.Range.{Range}
use Rattle.frame.specs.Kind as kind
use Rattle.frame.proofs.Laws.Kind.{number_at, slot_found}
use Rattle.frame.specs.Frame.{row_at, next_at, rows_from, end_from, entry_count, rows_of, end_of, key_count, edge_count, bits_of, has, repeated, section_of, range_of, range_good, ranges, all, name_good, once_good, kinds_good, fills, table_good, each_row, kind_good, codec_good, sizes_good, presence_good, counts_good, flags_of, direction_of, header_in, at_minor, head_check, record_from, framed_from}
use Rattle.frame.specs.Frame.Laws.{Table, ReservedKind}

-- the magic's number is that of its bytes
pub magic_is : le_bytes 8 kind.magic ≡ kind.magic_bytes
unfolding le_bytes
magic_is = refl

-- ---- tables

pub length_rows : (d : ℕ) (b : List ℕ) (i : ℕ) → length (rows_from d b i) ≡ d
unfolding rows_from
length_rows zero b i = refl
length_rows (suc d) b i = ap suc (length_rows d b (next_at b i))

-- an entry without its name is the least that there is
pub end_room : (d : ℕ) (b : List ℕ) (i : ℕ) → i + kind.entry_size * d ≤ end_from d b i
unfolding end_from
end_room zero b i = omega arith
end_room (suc d) b i = omega (arith, end_room d b (next_at b i))

pub table_parts : (b : List ℕ) → table_good b ≡ true → Table b
unfolding table_good
table_parts b e =
    let p = and_parts (leb 1 (entry_count b)) _ e in
    let q = and_parts (leb (entry_count b) kind.most_sections) _ p.1 in
    let r = and_parts (fills b) _ q.1 in
    let t = and_parts (all name_good (rows_of b)) _ r.1 in
    record { some = leb-true _ _ p.0; most = leb-true _ _ q.0; filled = eqb-true _ _ r.0; names = t.0; kinds = t.1 }

pub table_made : (b : List ℕ) → Table b → table_good b ≡ true
unfolding table_good
table_made b t =
    and_both (le-leb 1 (entry_count b) t.some) (and_both (le-leb (entry_count b) kind.most_sections t.most)
    (and_both (eq-eqb (end_of b + kind.counts_size) (length b) t.filled) (and_both t.names t.kinds)))

-- tables that have the same kinds that are read, as often, are good alike
all_once : (rs ts : List Row) (qs : List kind.Kind) → ((k : ℕ) → kind.slot_in k qs < length qs → (has k ts ≡ has k rs) × (repeated k ts ≡ repeated k rs)) → all (once_good ts) qs ≡ all (once_good rs) qs
unfolding all
all_once rs ts [] h = refl
all_once rs ts (q ∷ qs) h =
    let first : kind.slot_in q.number (q ∷ qs) ≡ 0 = rw (eq-eqb q.number q.number refl) in
    let same = h q.number (omega arith) in
    λ j. (not (same.1 j) && (not q.needed || same.0 j)) && all_once rs ts qs (λ k l. h k (later (eqb k q.number) (kind.slot_in k qs) l)) j
  where
    later : (b : Bool) (n : ℕ) → n < length qs → pick b 0 (suc n) < suc (length qs)
    later true n l = omega arith
    later false n l = omega arith

pub kinds_alike : (rs ts : List Row) → ((k : ℕ) → kind.fixed k ≡ true → (has k ts ≡ has k rs) × (repeated k ts ≡ repeated k rs)) → kinds_good ts ≡ kinds_good rs
unfolding kinds_good
kinds_alike rs ts h = all_once rs ts kind.kinds (λ k l. h k (lt-ltb (kind.slot_of k) (length kind.kinds) l))

-- a good table has its keys
pub kinds_keys : (rs : List Row) → kinds_good rs ≡ true → has kind.keys rs ≡ true
unfolding kinds_good all
kinds_keys rs e = (and_parts (not (repeated kind.keys rs)) (has kind.keys rs) (and_parts (once_good rs (kind.exactly_once kind.keys)) _ e).0).1

-- ---- walking the table: k entries are passed, the next is at i

module _ (b : List ℕ) (count i k : ℕ) (lt : k < count) where
  pub rows_on : (r : Row) → r ≡ row_at b i → rows_from (count - k) b i ≡ r ∷ rows_from (count - (k + 1)) b (i + kind.entry_size + r.namelen)
  unfolding rows_from row_at
  rows_on r e = let d : count - k ≡ suc (count - (k + 1)) = omega arith in rw (d, e)

  pub end_on : (r : Row) → r ≡ row_at b i → end_from (count - k) b i ≡ end_from (count - (k + 1)) b (i + kind.entry_size + r.namelen)
  unfolding end_from row_at
  end_on r e = let d : count - k ≡ suc (count - (k + 1)) = omega arith in rw (d, e)

  pub row_room : i + kind.entry_size ≤ end_from (count - k) b i
  row_room = omega (arith, end_room (count - k) b i)

pub rows_none : (b : List ℕ) (count i k : ℕ) → count ≤ k → rows_from (count - k) b i ≡ []
unfolding rows_from
rows_none b count i k h = let d : count - k ≡ 0 = omega arith in rw d

pub end_none : (b : List ℕ) (count i k : ℕ) → count ≤ k → end_from (count - k) b i ≡ i
unfolding end_from
end_none b count i k h = let d : count - k ≡ 0 = omega arith in rw d

-- ---- ranges

-- where the ranges are good, each section ends at the limit or before
pub section_within : (limit q : ℕ) (rs : List Row) (floor k : ℕ) → ranges limit rs floor k ≡ (Ok tt) → (section_of q rs).start + (section_of q rs).len ≤ limit
unfolding ranges section_of
section_within limit q [] floor k e = omega arith
section_within limit q (r ∷ rs) floor k e =
    let p = pick_fine (range_good limit floor r) (ranges limit rs (r.start + r.len) (k + 1)) (Refusal.Range k) e in
    let w = and_parts (leb floor r.start) (leb (r.start + r.len) limit) p.0 in
    go (eqb r.kind q) (leb-true (r.start + r.len) limit w.1) (section_within limit q rs (r.start + r.len) (k + 1) p.1)
  where
    go : (b : Bool) → r.start + r.len ≤ limit → (section_of q rs).start + (section_of q rs).len ≤ limit
        → (pick b (range_of r) (section_of q rs)).start + (pick b (range_of r) (section_of q rs)).len ≤ limit
    go true a ih = a
    go false a ih = ih

-- rule 11 in numbers: each section begins at the floor or later, where the one before it ends, and ends at the limit or before
unfoldable pub Apart : ℕ → ℕ → List Row → Type 0
Apart limit floor [] = Unit {0}
Apart limit floor (r ∷ rs) = (floor ≤ r.start) × (r.start + r.len ≤ limit) × Apart limit (r.start + r.len) rs

pub ranges_parts : (limit floor : ℕ) (rs : List Row) (k : ℕ) → ranges limit rs floor k ≡ (Ok tt) → Apart limit floor rs
unfolding ranges Apart
ranges_parts limit floor [] k e = tt
ranges_parts limit floor (r ∷ rs) k e =
    let p = pick_fine (range_good limit floor r) (ranges limit rs (r.start + r.len) (k + 1)) (Refusal.Range k) e in
    let w = and_parts (leb floor r.start) (leb (r.start + r.len) limit) p.0 in
    (leb-true _ _ w.0, leb-true _ _ w.1, ranges_parts limit (r.start + r.len) rs (k + 1) p.1)

pub ranges_made : (limit floor : ℕ) (rs : List Row) (k : ℕ) → Apart limit floor rs → ranges limit rs floor k ≡ (Ok tt)
unfolding ranges Apart
ranges_made limit floor [] k a = refl
ranges_made limit floor (r ∷ rs) k a =
    let good : range_good limit floor r ≡ true = and_both (le-leb floor r.start a.0) (le-leb (r.start + r.len) limit a.1) in
    fine_pick (Err (Refusal.Range k)) good (ranges_made limit (r.start + r.len) rs (k + 1) a.2)

-- ---- what is asked of each entry

module _ (good : Row → Bool) (told : ℕ → Refusal) where
  pub each_good : (r : Row) (rs : List Row) (k : ℕ) → good r ≡ true → each_row good told (r ∷ rs) k ≡ each_row good told rs (k + 1)
  unfolding each_row
  each_good r rs k e = rw e

  pub each_bad : (r : Row) (rs : List Row) (k : ℕ) → good r ≡ false → each_row good told (r ∷ rs) k ≡ Err (told k)
  unfolding each_row
  each_bad r rs k e = rw e

  pub each_parts : (r : Row) (rs : List Row) (k : ℕ) → each_row good told (r ∷ rs) k ≡ (Ok tt) → (good r ≡ true) × (each_row good told rs (k + 1) ≡ (Ok tt))
  unfolding each_row
  each_parts r rs k e = pick_fine (good r) (each_row good told rs (k + 1)) (told k) e

-- ---- "Every other kind is skipped"

-- the kinds that are read are 1 to 6 and 0x0200
abbrev pub ReadKind : ℕ → Type 0
ReadKind k = ((1 ≤ k) × (k ≤ 6)) ⊎ (k ≡ 0x0200)

slot_kinds : (i : ℕ) → i < 7 → ReadKind (number_at i)
slot_kinds zero h = inl (omega arith, omega arith)
slot_kinds (suc zero) h = inl (omega arith, omega arith)
slot_kinds (suc (suc zero)) h = inl (omega arith, omega arith)
slot_kinds (suc (suc (suc zero))) h = inl (omega arith, omega arith)
slot_kinds (suc (suc (suc (suc zero)))) h = inl (omega arith, omega arith)
slot_kinds (suc (suc (suc (suc (suc zero))))) h = inl (omega arith, omega arith)
slot_kinds (suc (suc (suc (suc (suc (suc zero)))))) h = inr refl
slot_kinds (suc (suc (suc (suc (suc (suc (suc i))))))) h = absurd (omega arith)

fixed_low : (k : ℕ) → 1 ≤ k → k ≤ 6 → kind.fixed k ≡ true
fixed_low zero a b = absurd (omega arith)
fixed_low (suc zero) a b = refl
fixed_low (suc (suc zero)) a b = refl
fixed_low (suc (suc (suc zero))) a b = refl
fixed_low (suc (suc (suc (suc zero)))) a b = refl
fixed_low (suc (suc (suc (suc (suc zero))))) a b = refl
fixed_low (suc (suc (suc (suc (suc (suc zero)))))) a b = refl
fixed_low (suc (suc (suc (suc (suc (suc (suc k))))))) a b = absurd (omega arith)

pub fixed_kinds : (k : ℕ) → (kind.fixed k ≡ true) ↔ ReadKind k
fixed_kinds k = (
  λ e.
      let l = ltb-true (kind.slot_of k) (length kind.kinds) e in
      subst ReadKind (slot_found k kind.kinds l) (slot_kinds (kind.slot_of k) l),
  ⊎_elim (λ h. fixed_low k h.0 h.1) (λ e. rw e),
)

pub reserved_kinds : (k : ℕ) → (kind.reserved k ≡ true) ↔ ReservedKind k
reserved_kinds k = (
  λ e. let p = and_parts (leb 7 k) (leb k 255) e in (leb-true 7 k p.0, leb-true k 255 p.1),
  λ h. and_both (le-leb 7 k h.0) (le-leb k 255 h.1),
)

-- a kind that is read is not reserved
pub fixed_unreserved : (k : ℕ) → kind.fixed k ≡ true → kind.reserved k ≡ false
fixed_unreserved k e =
    ⊎_elim (λ w. simp (lt-leb 7 k (omega (arith, w.1)))) (λ w. rw w) ((fixed_kinds k).0 e)

-- a kind is read, a property stream's, reserved, or unknown
unknown_parts : (k : ℕ) → kind.unknown k ≡ true → (kind.fixed k ≡ false) × (eqb k kind.properties ≡ false) × (kind.reserved k ≡ false)
unknown_parts k = go (kind.fixed k) (eqb k kind.properties) (kind.reserved k)
  where
    go : (x y z : Bool) → not (x || (y || z)) ≡ true → (x ≡ false) × (y ≡ false) × (z ≡ false)
    go true y z e = let q : ◌≡◌ {A = ℕ} 0 1 = cc in absurd (omega arith)
    go false true z e = let q : ◌≡◌ {A = ℕ} 0 1 = cc in absurd (omega arith)
    go false false true e = let q : ◌≡◌ {A = ℕ} 0 1 = cc in absurd (omega arith)
    go false false false e = (refl, refl, refl)

-- which kinds are unknown: "kind 0 and kinds from 0x0101 up", but for 0x0200
pub unknown_kinds : (k : ℕ) → (kind.unknown k ≡ true) ↔ ((k ≡ 0) ⊎ ((0x0101 ≤ k) × (k ≡ 0x0200 → ⊥)))
unknown_kinds k = (λ u. there (unknown_parts k u), ⊎_elim (λ e. rw e) large)
  where
    clash : {t : Bool} → t ≡ true → t ≡ false → ⊥
    clash e d = let q : ◌≡◌ {A = ℕ} 0 1 = cc in omega arith

    there : (kind.fixed k ≡ false) × (eqb k kind.properties ≡ false) × (kind.reserved k ≡ false) → (k ≡ 0) ⊎ ((0x0101 ≤ k) × (k ≡ 0x0200 → ⊥))
    there (x, y, z) = elim (ℕ_discrete k 0) [
      | yes e ↦ inl e
      | no e ↦ elim (dec_lt 0x0100 k) [
        | yes h ↦ inr (omega arith, λ q. clash ((fixed_kinds k).1 (inr q)) x)
        | no h ↦ elim (dec_lt 6 k) [
          | yes g ↦ let other = eqb-false k 0x0100 y in absurd (clash ((reserved_kinds k).1 (omega arith, omega arith)) z)
          | no g ↦ absurd (clash (fixed_low k (omega arith) (omega arith)) x)
        ]
      ]
    ]

    large : (0x0101 ≤ k) × (k ≡ 0x0200 → ⊥) → kind.unknown k ≡ true
    large (h, other) = go (kind.fixed k) refl
      where
        go : (x : Bool) → kind.fixed k ≡ x → not (x || (eqb k 0x0100 || kind.reserved k)) ≡ true
        go true p = ⊎_elim (λ w. absurd (omega (arith, w.1))) (λ w. absurd (other w)) ((fixed_kinds k).0 p)
        go false p = simp (ne_eqb k 0x0100 (λ e. omega arith), le-leb 7 k (omega arith), lt-leb k 255 (omega arith))

-- what the rules ask a table of known kinds is the same of both: whether one is there, whether twice, and how long it is
pub record SameKnown (rs ts : List Row) : Type 0 where
  pub there : (k : ℕ) → kind.unknown k ≡ false → has k ts ≡ has k rs
  pub doubled : (k : ℕ) → kind.unknown k ≡ false → repeated k ts ≡ repeated k rs
  pub len : (k : ℕ) → kind.unknown k ≡ false → (section_of k ts).len ≡ (section_of k rs).len

fixed_known : (k : ℕ) → kind.fixed k ≡ true → kind.unknown k ≡ false
fixed_known k e = rw e

module _ (rs ts : List Row) (s : SameKnown rs ts) where
  -- rule 9 asks for no unknown kind
  pub kinds_known : kinds_good ts ≡ kinds_good rs
  kinds_known = kinds_alike rs ts (λ k e. (s.there k (fixed_known k e), s.doubled k (fixed_known k e)))

  -- nor does rule 12
  pub counts_known : (flags : ℕ) (b c : List ℕ) → key_count c ≡ key_count b → edge_count c ≡ edge_count b → bits_of c ≡ bits_of b
      → counts_good flags (framed_from c ts) ≡ counts_good flags (framed_from b rs)
  unfolding counts_good sizes_good presence_good framed_from record_from
  counts_known flags b c n e w =
      rw (n, e, w, s.len kind.keys refl, s.len kind.offsets refl, s.len kind.logs refl, s.len kind.tombstones refl, s.len kind.starts refl, s.there kind.tombstones refl, s.there kind.starts refl, s.there kind.fences refl, s.there kind.properties refl)

-- a table with the kinds of rule 9 has an entry
pub kinds_some : (rs : List Row) → kinds_good rs ≡ true → 1 ≤ length rs
unfolding has
kinds_some [] e = let h = kinds_keys [] e in let z : ◌≡◌ {A = ℕ} 0 1 = cc in absurd (omega arith)
kinds_some (r ∷ rs) e = omega arith

-- an entry of a kind that is not read may have any name of at most 63 bytes, a reserved one too
pub name_unread : (r : Row) → kind.fixed r.kind ≡ false → r.namelen ≤ 63 → name_good r ≡ true
name_unread r e h = rw (le-leb r.namelen 63 h, e)

-- names have at most 63 bytes
unfoldable pub Short : List Row → Type 0
Short [] = Unit {0}
Short (r ∷ rs) = (r.namelen ≤ 63) × Short rs

pub names_short : (rs : List Row) → all name_good rs ≡ true → Short rs
unfolding all Short
names_short [] e = tt
names_short (r ∷ rs) e =
    let p = and_parts (name_good r) (all name_good rs) e in
    (leb-true r.namelen 63 (and_parts (leb r.namelen 63) _ p.0).0, names_short rs p.1)

module _ (r : Row) (rs : List Row) (u : kind.unknown r.kind ≡ true) where
  unlike : (k : ℕ) → kind.unknown k ≡ false → eqb r.kind k ≡ false
  unlike k h = ne_eqb r.kind k (λ e. let v : kind.unknown k ≡ true = (rw e at u) in let w : true ≡ false = sym v ∙ h in let z : ◌≡◌ {A = ℕ} 0 1 = cc in omega arith)

  -- an entry of an unknown kind makes no difference to what is asked of known ones
  pub section_skipped : (k : ℕ) → kind.unknown k ≡ false → section_of k rs ≡ section_of k (r ∷ rs)
  unfolding section_of
  section_skipped k h = rw (unlike k h)

  pub skipped : SameKnown (r ∷ rs) rs
  unfolding has repeated
  skipped = record { there = λ k h. rw (unlike k h); doubled = λ k h. rw (unlike k h); len = λ k h. ap (λ (x : Range). x.len) (section_skipped k h) }

  -- so none to rule 9's kinds
  pub kinds_skipped : kinds_good (r ∷ rs) ≡ kinds_good rs
  kinds_skipped = sym (kinds_known (r ∷ rs) rs skipped)

  -- its kind is not reserved, and its codec and its name's bytes are its writer's own
  pub kind_skipped : kind_good r ≡ true
  kind_skipped = ap not (unknown_parts r.kind u).2

  pub codec_skipped : codec_good r ≡ true
  codec_skipped = ap (λ (x : Bool). not x || eqb r.codec 0) (unknown_parts r.kind u).0

  pub name_skipped : r.namelen ≤ 63 → name_good r ≡ true
  name_skipped = name_unread r (unknown_parts r.kind u).0

-- ---- "minor u8, any"

-- two headers that differ in the minor version at most
abbrev pub ButMinor : List ℕ → List ℕ → Type 0
ButMinor g h = (i : ℕ) → i < kind.header_size → (i ≡ 9 → ⊥) → get_or g i 0 ≡ get_or h i 0

module _ (g h : List ℕ) (same : ButMinor g h) where
  pub flags_minor : flags_of g ≡ flags_of h
  flags_minor = le_at_same g h 12 12 4 (λ k l. same (12 + k) (omega arith) (λ e. omega arith))

  -- rules 2 to 5 do not see it
  pub head_minor : head_check g ≡ head_check h
  unfolding head_check
  head_minor =
      let magic = le_at_same g h 0 0 8 (λ k l. same (0 + k) (omega arith) (λ e. omega arith)) in
      let size = le_at_same g h 10 10 2 (λ k l. same (10 + k) (omega arith) (λ e. omega arith)) in
      rw (magic, same 8 (omega arith) (λ e. omega arith), size, flags_minor)

  -- of what the header says, it alone may be another
  pub header_minor : header_in g ≡ at_minor (get_or g 9 0) (header_in h)
  unfolding header_in
  header_minor =
      let flags = flags_minor in
      let first = halves_same g h 16 16 (λ k l. same (16 + k) (omega arith) (λ e. omega arith)) in
      let second = halves_same g h 32 32 (λ k l. same (32 + k) (omega arith) (λ e. omega arith)) in
      let third = halves_same g h 48 48 (λ k l. same (48 + k) (omega arith) (λ e. omega arith)) in
      λ i. record { minor = get_or g 9 0; direction = direction_of (flags i); flags = flags i; edgetype = first i; source = second i; destination = third i }
