-- The entries of a table that was laid out, read back.
use Rattle.std.specs.Prelude.{◌≡◌, Ok, Err}
use Rattle.std.proofs.Math.Path.{refl, ap, ap₂}
use Rattle.std.proofs.Common.{sym, ◌∙◌, length-append, get_or-append-add, le-leb}
use Prim.Native.Nat.{ℕ, ◌+◌, ◌-◌, ◌*◌, ◌^◌, ◌≤◌, ◌<◌}
use native.Mathlib.Omega.{arith}
use mathlib.Core.List.{List, [], ◌∷◌, ◌++◌, append_assoc}
use Rattle.std.proofs.Math.ListN.{length, get_or, take}
use Rattle.std.proofs.Math.Seq.{get_or_at, drop-append-add, take_at}
use Rattle.base.specs.Over.{part}
use Rattle.codes.specs.Little.{le_at, le_bytes}
use Rattle.codes.specs.Little.Laws.{le_at_back, le_at_same, length_le_bytes}
use Rattle.refusal.specs.declared.Refusal.{Refusal}
use Rattle.refusal.proofs.Laws.Check.{fine_pick, and_both}
use Rattle.frame.specs.declared.Row.{Row}
use Rattle.frame.specs.Frame.{row_at, rows_from, end_from, rows_of, end_of, entry_count, key_count, edge_count, bits_of, ranges}
use Rattle.frame.specs.Layout.{Section, payload, entry, entries, body_bytes}
use Rattle.laid_out.specs.Rows.{rows_in, SectionFits, SectionsFit, Small, AllNumbers}

-- ---- reading in the middle

-- past p
pub le_at_past : (p s : List ℕ) (n j : ℕ) → le_at (p ++ s) (length p + j) n ≡ le_at s j n
le_at_past p s n j = le_at_same (p ++ s) s (length p + j) j n (λ k h. let e : length p + j + k ≡ length p + (j + k) = omega arith in ap (λ (t : ℕ). get_or (p ++ s) t 0) e ∙ get_or-append-add p s (j + k) 0)

pub le_at_zero_past : (p s : List ℕ) (n : ℕ) → le_at (p ++ s) (length p) n ≡ le_at s 0 n
le_at_zero_past p s n = let e : length p ≡ length p + 0 = omega arith in ap (λ (k : ℕ). le_at (p ++ s) k n) e ∙ le_at_past p s n 0

-- a number that was laid between q and r
pub le_at_at : (n : ℕ) (q r : List ℕ) (x : ℕ) (s : List ℕ) (i : ℕ) → s ≡ q ++ (le_bytes n x ++ r) → length q ≡ i → x < 2 ^ (8 * n) → le_at s i n ≡ x
le_at_at n q r x s i e l b = rw (e, ← l) (le_at_back n q r x b)

pub length_entry : (at : ℕ) (s : Section) → length (entry at s) ≡ 28 + length s.name
unfolding entry
length_entry at s = simp (length-append, length_le_bytes) (omega arith)

module _ (at : ℕ) (s : Section) (r : List ℕ) (h : SectionFits at s) where
  row_first : row_at (entry at s ++ r) 0 ≡ record { kind = s.kind; codec = s.codec; namelen = length s.name; nameat = 28; start = at; len = length s.bytes; sum = s.sum }
  unfolding row_at entry le_at le_bytes
  row_first = λ j. record {
    kind = le_at_back 2 [] (s.codec ∷ length s.name ∷ (le_bytes 8 at ++ (le_bytes 8 (length s.bytes) ++ (le_bytes 8 s.sum ++ (s.name ++ r))))) s.kind h.kind j;
    codec = s.codec;
    namelen = length s.name;
    nameat = 28;
    start = le_at_back 8 [] (le_bytes 8 (length s.bytes) ++ (le_bytes 8 s.sum ++ (s.name ++ r))) at h.start j;
    len = le_at_back 8 [] (le_bytes 8 s.sum ++ (s.name ++ r)) (length s.bytes) h.len j;
    sum = le_at_back 8 [] (s.name ++ r) s.sum h.sum j;
  }

-- at its place
row_past : (p q : List ℕ) → row_at (p ++ q) (length p) ≡ record { kind = (row_at q 0).kind; codec = (row_at q 0).codec; namelen = (row_at q 0).namelen; nameat = length p + 28; start = (row_at q 0).start; len = (row_at q 0).len; sum = (row_at q 0).sum }
unfolding row_at
row_past p q = λ j. record {
  kind = (le_at_zero_past p q 2) j;
  codec = get_or-append-add p q 2 0 j;
  namelen = get_or-append-add p q 3 0 j;
  nameat = length p + 28;
  start = le_at_past p q 8 4 j;
  len = le_at_past p q 8 12 j;
  sum = le_at_past p q 8 20 j;
}

-- the first of several entries, and what follows it
module _ (s : Section) (ss : List Section) (at : ℕ) (p r : List ℕ) where
  abbrev left : List ℕ
  left = entries (at + length s.bytes) ss ++ r

  open_first : p ++ (entries at (s ∷ ss) ++ r) ≡ p ++ (entry at s ++ left)
  unfolding entries
  open_first = ap (λ (t : List ℕ). p ++ t) (append_assoc (entry at s) (entries (at + length s.bytes) ss) r)

  pub past_first : p ++ (entries at (s ∷ ss) ++ r) ≡ (p ++ entry at s) ++ left
  past_first = open_first ∙ sym (append_assoc p (entry at s) left)

  pub length_first : length (p ++ entry at s) ≡ length p + 28 + length s.name
  length_first = simp (length-append, length_entry) (omega arith)

  name_first : get_or (p ++ (entries at (s ∷ ss) ++ r)) (length p + 3) 0 ≡ length s.name
  unfolding entry le_bytes
  name_first = rw open_first (get_or-append-add p (entry at s ++ left) 3 0)

  -- its name
  pub name_back : part (p ++ (entries at (s ∷ ss) ++ r)) (length p + 28) (length p + 28 + length s.name) ≡ s.name
  unfolding entry le_bytes
  name_back =
      let n : length p + 28 + length s.name - (length p + 28) ≡ length s.name = omega arith in
      ap (λ (t : List ℕ). part t (length p + 28) (length p + 28 + length s.name)) open_first
      ∙ ap₂ take n (drop-append-add p (entry at s ++ left) 28) ∙ take_at s.name left (length s.name) refl

  row_at_lem : SectionFits at s → row_at (p ++ (entries at (s ∷ ss) ++ r)) (length p)
      ≡ record { kind = s.kind; codec = s.codec; namelen = length s.name; nameat = length p + 28; start = at; len = length s.bytes; sum = s.sum }
  row_at_lem h =
      rw open_first (row_past p (entry at s ++ left)
      ∙ ap (λ (w : Row). record { kind = w.kind; codec = w.codec; namelen = w.namelen; nameat = length p + 28; start = w.start; len = w.len; sum = w.sum }) (row_first at s left h))

-- the entries are read back
pub rows_back : (ss : List Section) (at : ℕ) (p r : List ℕ) → SectionsFit at ss → rows_from (length ss) (p ++ (entries at ss ++ r)) (length p) ≡ rows_in at (length p) ss
unfolding SectionsFit rows_from rows_in entries
rows_back [] at p r h = refl
rows_back (s ∷ ss) at p r h =
    let w : List ℕ = p ++ (entries at (s ∷ ss) ++ r) in
    let ih = rows_back ss (at + length s.bytes) (p ++ entry at s) r h.1 in
    ap₂ (λ (a : Row) (l : List Row). a ∷ l) (row_at_lem s ss at p r h.0)
    (ap (λ (k : ℕ). rows_from (length ss) w (length p + 28 + k)) (name_first s ss at p r)
    ∙ ap₂ (λ (t : List ℕ) (i : ℕ). rows_from (length ss) t i) (past_first s ss at p r) (sym (length_first s ss at p r))
    ∙ ih ∙ ap (λ (i : ℕ). rows_in (at + length s.bytes) i ss) (length_first s ss at p r))

pub end_back : (ss : List Section) (at : ℕ) (p r : List ℕ) → SectionsFit at ss → end_from (length ss) (p ++ (entries at ss ++ r)) (length p) ≡ length p + length (entries at ss)
unfolding SectionsFit end_from entries
end_back [] at p r h = omega arith
end_back (s ∷ ss) at p r h =
    let w : List ℕ = p ++ (entries at (s ∷ ss) ++ r) in
    let ih = end_back ss (at + length s.bytes) (p ++ entry at s) r h.1 in
    let l : length (entry at s ++ entries (at + length s.bytes) ss) ≡ length (entry at s) + length (entries (at + length s.bytes) ss) = length-append (entry at s) (entries (at + length s.bytes) ss) in
    ap (λ (k : ℕ). end_from (length ss) w (length p + 28 + k)) (name_first s ss at p r)
    ∙ ap₂ (λ (t : List ℕ) (i : ℕ). end_from (length ss) t i) (past_first s ss at p r) (sym (length_first s ss at p r))
    ∙ ih ∙ omega (arith, l, length_first s ss at p r, length_entry at s)

-- they lie one after the other
pub ranges_back : (ss : List Section) (at i k limit : ℕ) → at + length (payload ss) ≤ limit → ranges limit (rows_in at i ss) at k ≡ (Ok tt)
unfolding ranges rows_in payload
ranges_back [] at i k limit h = refl
ranges_back (s ∷ ss) at i k limit h =
    let l : length (s.bytes ++ payload ss) ≡ length s.bytes + length (payload ss) = length-append s.bytes (payload ss) in
    fine_pick (Err (Refusal.Range k)) (and_both (le-leb at at (omega arith)) (le-leb (at + length s.bytes) limit (omega arith)))
    (ranges_back ss (at + length s.bytes) (i + 28 + length s.name) (k + 1) limit (omega arith))

fit_from : (ss : List Section) (at : ℕ) → AllNumbers ss → at + length (payload ss) < 2 ^ 64 → SectionsFit at ss
unfolding SectionsFit AllNumbers payload
fit_from [] at n h = tt
fit_from (s ∷ ss) at n h =
    let l = length-append s.bytes (payload ss) in
    (record { kind = n.0; start = omega arith; len = omega arith; sum = n.1 }, fit_from ss (at + length s.bytes) n.2 (omega arith))

-- up to 64 sections of such numbers are small, however long they are
pub small_is : (ss : List Section) → length ss ≤ 64 → AllNumbers ss → 64 + length (payload ss) < 2 ^ 64 → Small ss
small_is ss few n h = (omega arith, fit_from ss 64 n h)

module _ (ss : List Section) (n e bits : ℕ) (h : Small ss) where
  abbrev b : List ℕ
  b = body_bytes ss n e bits

  abbrev after : List ℕ
  after = le_bytes 8 n ++ (le_bytes 8 e ++ (bits ∷ []))

  pub length_body : length b ≡ 19 + length (entries 64 ss)
  unfolding body_bytes
  length_body = simp (length-append, length_le_bytes) (omega arith)

  pub count_back : entry_count b ≡ length ss
  unfolding body_bytes
  count_back = le_at_back 2 [] (entries 64 ss ++ after) (length ss) (omega (arith, h.0))

  pub body_rows : rows_of b ≡ rows_in 64 2 ss
  unfolding rows_of body_bytes le_bytes
  body_rows = rw count_back (rows_back ss 64 (le_bytes 2 (length ss)) after h.1)

  pub body_end : end_of b + 17 ≡ length b
  unfolding end_of body_bytes le_bytes
  body_end = rw count_back (let q = end_back ss 64 (le_bytes 2 (length ss)) after h.1 in omega (arith, q, length_body))

  pub keys_back : n < 2 ^ 64 → key_count b ≡ n
  unfolding body_bytes
  keys_back g =
      le_at_at 8 (le_bytes 2 (length ss) ++ entries 64 ss) (le_bytes 8 e ++ (bits ∷ [])) n b (length b - 17) (sym (append_assoc (le_bytes 2 (length ss)) (entries 64 ss) after))
      (simp (length-append, length_le_bytes) (omega (arith, length_body))) g

  pub edges_back : e < 2 ^ 64 → edge_count b ≡ e
  unfolding body_bytes
  edges_back g =
      le_at_at 8 (le_bytes 2 (length ss) ++ (entries 64 ss ++ le_bytes 8 n)) (bits ∷ []) e b (length b - 9) (simp append_assoc)
      (simp (length-append, length_le_bytes) (omega (arith, length_body))) g

  pub bits_back : bits_of b ≡ bits
  unfolding body_bytes
  bits_back =
      let q : List ℕ = le_bytes 2 (length ss) ++ (entries 64 ss ++ (le_bytes 8 n ++ le_bytes 8 e)) in
      let w : b ≡ q ++ (bits ∷ []) = simp append_assoc in
      let l : length q ≡ length b - 1 = simp (length-append, length_le_bytes) (omega (arith, length_body)) in
      ap (λ (t : List ℕ). get_or t (length b - 1) 0) w ∙ get_or_at q bits [] 0 (length b - 1) l
