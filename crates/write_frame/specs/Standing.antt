-- What stands in an output that is written from its first byte on, and the table entries of sections that stand there.
use Rattle.std.specs.Prelude.{◌≡◌, refl, ℕ, suc, ◌+◌, ◌-◌, ◌≤◌, List, [], ◌∷◌, ◌++◌, length, take, drop, set}
use Rattle.std.proofs.Common.{sym, ap, ap₂, ◌∙◌, arith, zero-add, add-zero, add_assoc, append_assoc, length-append, take-append-drop, take_at, length-take-le}
use Rattle.std.proofs.Math.Decide.{dec_lt}
use Rattle.std.proofs.lemmas.List.Edits.{sets, sets-eq}
use Rattle.std.proofs.lemmas.List.{drop-set-add, take-set-le}
use Rattle.base.specs.Over.{part, part_mid}
use Rattle.base.specs.Put.{Left}
use Rattle.frame.specs.Layout.{Section, raw_section, payload, entry, entries}

-- ---- parts

-- a store from i on leaves the part below
part_set : (l : List ℕ) (i x a e : ℕ) → e ≤ i → part (set l i x) a e ≡ part l a e
part_set l i x a e h = elim (dec_lt i a) [
  | yes g ↦
      let z : e - a ≡ 0 = omega arith in
      ap (λ (n : ℕ). take n (drop a (set l i x))) z ∙ sym (ap (λ (n : ℕ). take n (drop a l)) z)
  | no g ↦
      let q : a + (i - a) ≡ i = omega arith in
      ap (λ (n : ℕ). take (e - a) (drop a (set l n x))) (sym q)
      ∙ ap (take (e - a)) (drop-set-add a l (i - a) x)
      ∙ take-set-le (e - a) (drop a l) (i - a) x (omega arith)
]

part_sets : (xs l : List ℕ) (i a e : ℕ) → e ≤ i → part (sets l i xs) a e ≡ part l a e
part_sets [] l i a e h = refl
part_sets (x ∷ xs) l i a e h = part_sets xs (set l i x) (suc i) a e (omega arith) ∙ part_set l i x a e h

-- so a part below what is written stays
pub part_below : {out : List ℕ} {to : ℕ} {xs : List ℕ} {o : List ℕ} {at : ℕ} {ys : List ℕ} → Left out to xs o at ys → (a e : ℕ) → e ≤ at → at ≤ to → part out a e ≡ part o a e
part_below {out} {to} {xs} {o} {at} {ys} l a e h g =
    sym (part_sets xs out to a e (omega arith)) ∙ ap (λ (t : List ℕ). part t a e) l.whole ∙ part_sets ys o at a e h

-- where p is written at `at` and xs is left, p stands there
pub stands : {out : List ℕ} {to : ℕ} {o : List ℕ} {at : ℕ} (p xs : List ℕ) → Left out to xs o at (p ++ xs) → to ≡ at + length p → at + length (p ++ xs) ≤ length o
    → out ≡ take at o ++ (p ++ drop to out)
stands {out} {to} {o} {at} p xs l e h =
    let n = length-append p xs in
    let same = l.same in
    let mine : length (take to out) ≡ to = length-take-le to out (omega arith) in
    let old : length (take at o) ≡ at = length-take-le at o (omega arith) in
    let rest : List ℕ = drop (to + length xs) out in
    let after : List ℕ = drop (at + length (p ++ xs)) o in
    let one : take to (sets out to xs) ≡ take to out =
    ap (take to) (sets-eq xs out to (omega arith) ∙ append_assoc (take to out) xs rest) ∙ take_at (take to out) (xs ++ rest) to mine in
    let split : sets o at (p ++ xs) ≡ (take at o ++ p) ++ (xs ++ after) =
    sets-eq (p ++ xs) o at h
    ∙ append_assoc (take at o) (p ++ xs) after
    ∙ ap (λ (t : List ℕ). take at o ++ t) (append_assoc p xs after)
    ∙ sym (append_assoc (take at o) p (xs ++ after)) in
    let long : length (take at o ++ p) ≡ to = length-append (take at o) p ∙ omega arith in
    let two : take to (sets o at (p ++ xs)) ≡ take at o ++ p = ap (take to) split ∙ take_at (take at o ++ p) (xs ++ after) to long in
    sym (take-append-drop to out)
    ∙ ap (λ (t : List ℕ). t ++ drop to out) (sym one ∙ ap (take to) l.whole ∙ two)
    ∙ append_assoc (take at o) p (drop to out)

-- ---- entries

-- a kind and a length
pub record Extent : Type 0 where
  pub kind : ℕ
  pub len : ℕ

-- the entry of the section of that kind and length that stands in s from start on
abbrev pub entry_in : List ℕ → ℕ → ℕ → ℕ → List ℕ
entry_in s kind start len = entry start (raw_section kind (part s start (start + len)))

-- the entries of sections that stand in s one after the other from `at` on
unfoldable pub entries_in : List ℕ → ℕ → List Extent → List ℕ
entries_in s at [] = []
entries_in s at (x ∷ xs) = entry_in s x.kind at x.len ++ entries_in s (at + x.len) xs

pub entries_none : (s : List ℕ) (at : ℕ) → entries_in s at [] ≡ []
unfolding entries_in
entries_none s at = refl

pub entries_on : (s : List ℕ) (at : ℕ) (x : Extent) (xs : List Extent) → entries_in s at (x ∷ xs) ≡ entry_in s x.kind at x.len ++ entries_in s (at + x.len) xs
unfolding entries_in
entries_on s at x xs = refl

-- how long they are together
unfoldable pub total : List Extent → ℕ
total [] = 0
total (x ∷ xs) = x.len + total xs

pub entries_append : (s : List ℕ) (at : ℕ) (xs ys : List Extent) → entries_in s at (xs ++ ys) ≡ entries_in s at xs ++ entries_in s (at + total xs) ys
unfolding entries_in total
entries_append s at [] ys = ap (λ (t : ℕ). entries_in s t ys) (sym (add-zero at))
entries_append s at (x ∷ xs) ys =
    ap (λ (t : List ℕ). entry_in s x.kind at x.len ++ t)
    (entries_append s (at + x.len) xs ys ∙ ap (λ (t : ℕ). entries_in s (at + x.len) xs ++ entries_in s t ys) (add_assoc at x.len (total xs)))
    ∙ sym (append_assoc (entry_in s x.kind at x.len) (entries_in s (at + x.len) xs) (entries_in s (at + (x.len + total xs)) ys))

pub total_append : (xs ys : List Extent) → total (xs ++ ys) ≡ total xs + total ys
unfolding total
total_append [] ys = sym (zero-add (total ys))
total_append (x ∷ xs) ys = let ih = total_append xs ys in omega arith

-- entries of sections below what is written stay
pub entries_below : {out : List ℕ} {to : ℕ} {ws : List ℕ} {o : List ℕ} {at : ℕ} {ys : List ℕ} → Left out to ws o at ys → (xs : List Extent) (i : ℕ) → i + total xs ≤ at → at ≤ to → entries_in out i xs ≡ entries_in o i xs
unfolding entries_in total
entries_below l [] i h g = refl
entries_below l (x ∷ xs) i h g =
    ap₂ (λ (u v : List ℕ). u ++ v)
    (ap (λ (t : List ℕ). entry i (raw_section x.kind t)) (part_below l i (i + x.len) (omega arith) g))
    (entries_below l xs (i + x.len) (omega arith) g)

unfoldable pub extents : List Section → List Extent
extents [] = []
extents (s ∷ ss) = record { kind = s.kind; len = length s.bytes } ∷ extents ss

pub length_extents : (ss : List Section) → length (extents ss) ≡ length ss
unfolding extents
length_extents [] = refl
length_extents (s ∷ ss) = ap suc (length_extents ss)

pub extents_append : (ss ts : List Section) → extents (ss ++ ts) ≡ extents ss ++ extents ts
unfolding extents
extents_append [] ts = refl
extents_append (s ∷ ss) ts = ap (λ (t : List Extent). record { kind = s.kind; len = length s.bytes } ∷ t) (extents_append ss ts)

pub payload_append : (ss ts : List Section) → payload (ss ++ ts) ≡ payload ss ++ payload ts
unfolding payload
payload_append [] ts = refl
payload_append (s ∷ ss) ts = ap (λ (t : List ℕ). s.bytes ++ t) (payload_append ss ts) ∙ sym (append_assoc s.bytes (payload ss) (payload ts))

pub total_extents : (ss : List Section) → total (extents ss) ≡ length (payload ss)
unfolding total extents payload
total_extents [] = refl
total_extents (s ∷ ss) = ap (λ (t : ℕ). length s.bytes + t) (total_extents ss) ∙ sym (length-append s.bytes (payload ss))

-- sections that are raw, with their sums
unfoldable pub PlainSections : List Section → Type 0
PlainSections [] = Unit {0}
PlainSections (s ∷ ss) = (s ≡ raw_section s.kind s.bytes) × PlainSections ss

pub plain_append : (ss ts : List Section) → PlainSections ss → PlainSections ts → PlainSections (ss ++ ts)
unfolding PlainSections
plain_append [] ts p q = q
plain_append (s ∷ ss) ts p q = (p.0, plain_append ss ts p.1 q)

-- the entries of the sections that stand after q are their entries
pub entries_standing : (ss : List Section) (q r : List ℕ) (at : ℕ) → at ≡ length q → PlainSections ss → entries_in (q ++ (payload ss ++ r)) at (extents ss) ≡ entries at ss
unfolding entries_in extents payload entries PlainSections
entries_standing [] q r at e raw = refl
entries_standing (s ∷ ss) q r at e raw =
    let bytes : List ℕ = s.bytes in
    let all : List ℕ = q ++ ((bytes ++ payload ss) ++ r) in
    let flat : all ≡ q ++ (bytes ++ (payload ss ++ r)) = ap (λ (t : List ℕ). q ++ t) (append_assoc bytes (payload ss) r) in
    let next : all ≡ (q ++ bytes) ++ (payload ss ++ r) = flat ∙ sym (append_assoc q bytes (payload ss ++ r)) in
    let place : at + length bytes ≡ length (q ++ bytes) = ap (λ (t : ℕ). t + length bytes) e ∙ sym (length-append q bytes) in
    let here : part all at (at + length bytes) ≡ bytes =
    ap (λ (t : List ℕ). part t at (at + length bytes)) flat ∙ part_mid q bytes (payload ss ++ r) at (at + length bytes) e (ap (λ (t : ℕ). t + length bytes) e) in
    ap₂ (λ (u v : List ℕ). u ++ v)
    (ap (λ (t : List ℕ). entry at (raw_section s.kind t)) here ∙ ap (entry at) (sym raw.0))
    (ap (λ (t : List ℕ). entries_in t (at + length bytes) (extents ss)) next ∙ entries_standing ss (q ++ bytes) r (at + length bytes) place raw.1)
