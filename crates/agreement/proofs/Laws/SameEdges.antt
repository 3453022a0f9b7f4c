-- Whenever the full check passes, both users see the same edges: for every key, the lookup with enough room gives exactly
-- the read-out's edges of that key, in order, with log numbers and dead marks, and absence exactly if it has none.
use Rattle.std.specs.Prelude.{◌≡◌, Bool, eqb, ltb, Ok, Some}
use Rattle.std.proofs.Math.Path.{refl, sym, ap, ap₂}
use Rattle.std.proofs.Common.{◌∙◌, add-one, eq-eqb, ne_eqb, ltb-false}
use Prim.Native.Nat.{ℕ, zero, suc, ◌+◌, ◌-◌, ◌*◌, ◌/◌, ◌%◌, ◌≤◌, ◌<◌}
use Rattle.std.proofs.Math.Nat.{add-zero, zero-add, sub-zero}
use native.Mathlib.Omega.{arith}
use Rattle.std.proofs.Math.Decide.{ℕ_discrete}
use mathlib.Core.List.{List, [], ◌∷◌, ◌++◌, append-nil}
use Rattle.std.proofs.Math.Bool.{true, false}
use Rattle.std.proofs.Math.ListN.{length}
use Rattle.batch.specs.Batch.{partners_in, logs_in}
use Rattle.base.specs.Pick.{pick}
use Rattle.codes.specs.declared.ids.Id.{Id}
use Rattle.codes.specs.Ids.{id_number, halves_at}
use Rattle.codes.specs.Ids.Laws.{number_halves}
use Rattle.refusal.specs.declared.Refusal.{Refusal}
use Rattle.refusal.specs.Check.{refuse}
use Rattle.refusal.proofs.Laws.Check.{fine_parts, either_parts}
use Rattle.frame.specs.declared.Range.{Range}
use Rattle.frame.specs.declared.Opened.{Opened}
use Rattle.frame.specs.Frame.{record_of}
use Rattle.frame.specs.Open.{known_of, bytes_at, key_at, offset_at, open_of}
use Rattle.index.specs.declared.keys.Found.{Found}
use Rattle.index.specs.Find.{find_in}
use Rattle.index.specs.Find.Laws.{find_sound, find_absent}
use Rattle.index.specs.Order.{KeysRise, key_once, OffsetsRise}
use Rattle.degrees.specs.Degrees.{group_at, degree_at, edges_before, start_of, plus, capped}
use Rattle.degrees.specs.Degrees.Laws.{in_is, degree_is, capped_is, start_is}
use Rattle.codes.specs.Varint.{varint_at, Varint}
use Rattle.group.specs.Group.{degree_of, group_of, is_good, partners_of}
use Rattle.group.proofs.Laws.Group.{good_is}
use Rattle.group.proofs.Laws.Good as group
use Rattle.lookup.specs.Lookup.{Outcome, found, absent, refused, Rooms, group_check, before, logs_from, marks_from, short, look_in, look_with, look_of}
use Rattle.lookup.proofs.Laws.Groups.{check_good, good_seen}
use Rattle.lookup.specs.Calls as calls
use Rattle.lookup.proofs.Laws.Calls as calls_laws
use Rattle.reader.proofs.Laws.Opened.{opened_keys, opened_offsets}
use Rattle.reader.proofs.Laws.Look.{of_good, with_record}
use Rattle.batch.specs.declared.Edge.{Edge}
use Rattle.full_check.specs.Full.{group_in, groups_from, degrees_from, full_check, checked_of}
use Rattle.full_check.specs.Checked.{checked_opened, fine_checked}
use Rattle.readout.specs.Edges.{edge_of, edges_from, key_degree, key_edges, read_from, edges_in}
use Rattle.readout.specs.ReadOut.Laws.{checked_edges, checked_starts}
use Rattle.agreement.specs.SameEdges.{of_key, mark_bytes_in, Says, shown_by, unindexed, edges_of_file, Enough}

-- the sentence leaves nothing open: two outcomes that say the same edges show the same
pub says_one : (full : Bool) (x y : Outcome) (es : List Edge) → Says full x es → Says full y es → shown_by x ≡ shown_by y
unfolding Says shown_by
says_one full (found i c ps ls ms) (found j d qs ks ns) es h k = λ t. record { there = true; partners = (h.1 ∙ sym k.1) t; logs = (h.2 ∙ sym k.2) t; marks = (h.3 ∙ sym k.3) t }
says_one full (found i c ps ls ms) (absent d) es h k = let some = h.0 in absurd (omega (arith, ap length k))
says_one full (found i c ps ls ms) (refused r) es h k = absurd k
says_one full (absent c) (found j d qs ks ns) es h k = let some = k.0 in absurd (omega (arith, ap length h))
says_one full (absent c) (absent d) es h k = refl
says_one full (absent c) (refused r) es h k = absurd k
says_one full (refused r) y es h k = absurd h

-- and an outcome says one run of edges: another has the same partners, log numbers and dead marks
pub says_edges : (x : Outcome) (es fs : List Edge) → Says true x es → Says true x fs → (partners_in es ≡ partners_in fs) × (logs_in es ≡ logs_in fs) × (mark_bytes_in es ≡ mark_bytes_in fs)
unfolding Says
says_edges (found i c ps ls ms) es fs h k = (sym h.1 ∙ k.1, sym h.2 ∙ k.2, sym h.3 ∙ k.3)
says_edges (absent c) es fs h k = let e : es ≡ fs = h ∙ sym k in (ap partners_in e, ap logs_in e, ap mark_bytes_in e)
says_edges (refused r) es fs h k = absurd h

-- ---- edges of a key

key_append : (k : ℕ) (xs ys : List Edge) → of_key k (xs ++ ys) ≡ of_key k xs ++ of_key k ys
unfolding of_key
key_append k [] ys = refl
key_append k (e ∷ xs) ys = go (eqb (id_number e.key) k) (key_append k xs ys)
  where
    go : (b : Bool) → of_key k (xs ++ ys) ≡ of_key k xs ++ of_key k ys
        → pick b (e ∷ of_key k (xs ++ ys)) (of_key k (xs ++ ys)) ≡ pick b (e ∷ of_key k xs) (of_key k xs) ++ of_key k ys
    go true h = ap (λ (t : List Edge). e ∷ t) h
    go false h = h

module _ (logs dead : List ℕ) (key : Id) (k : ℕ) where
  all_of : id_number key ≡ k → (ps : List Id) (e : ℕ) → of_key k (edges_from logs dead key e ps) ≡ edges_from logs dead key e ps
  unfolding of_key edges_from
  all_of q [] e = refl
  all_of q (p ∷ ps) e = rw (eq-eqb (id_number key) k q) (ap (λ (t : List Edge). edge_of logs dead key p e ∷ t) (all_of q ps (e + 1)))

  none_of : (id_number key ≡ k → ⊥) → (ps : List Id) (e : ℕ) → of_key k (edges_from logs dead key e ps) ≡ []
  unfolding of_key edges_from
  none_of q [] e = refl
  none_of q (p ∷ ps) e = rw (ne_eqb (id_number key) k q) (none_of q ps (e + 1))

-- what a run of edges of one key holds
module _ (logs dead : List ℕ) (key : Id) where
  partners_of_lem : (ps : List Id) (e : ℕ) → partners_in (edges_from logs dead key e ps) ≡ ps
  unfolding partners_in edges_from
  partners_of_lem [] e = refl
  partners_of_lem (p ∷ ps) e = ap (λ (t : List Id). p ∷ t) (partners_of_lem ps (e + 1))

  logs_of : (ps : List Id) (e : ℕ) → logs_in (edges_from logs dead key e ps) ≡ logs_from (length ps) logs e
  unfolding logs_in edges_from logs_from
  logs_of [] e = refl
  logs_of (p ∷ ps) e = ap₂ (λ (x : ℕ) (y : List ℕ). x ∷ y) refl (logs_of ps (e + 1))

  pub mark_is : (x : ℕ) → pick (eqb (x % 2) 1) 1 0 ≡ x % 2
  mark_is x =
      elim (ℕ_discrete (x % 2) 1) [
        | yes q ↦ rw (eq-eqb (x % 2) 1 q) (sym q)
        | no q ↦ rw (ne_eqb (x % 2) 1 q) (omega arith)
      ]

  marks_of_lem : (ps : List Id) (e : ℕ) → mark_bytes_in (edges_from logs dead key e ps) ≡ marks_from (length ps) dead e
  unfolding mark_bytes_in edges_from marks_from
  marks_of_lem [] e = refl
  marks_of_lem (p ∷ ps) e = ap₂ (λ (x : ℕ) (y : List ℕ). x ∷ y) (mark_is _) (marks_of_lem ps (e + 1))

  count_of : (ps : List Id) (e : ℕ) → length (edges_from logs dead key e ps) ≡ length ps
  unfolding edges_from
  count_of [] e = refl
  count_of (p ∷ ps) e = ap suc (count_of ps (e + 1))

-- the degree is the group's first varint
varint_of : (g : List ℕ) {x : Varint} → degree_of g ≡ x → varint_at g 0 ≡ x
unfolding degree_of
varint_of g e = e

-- ---- groups: p the partners, o the offsets of w bytes each, n of them

module _ (keys p o : List ℕ) (w : ℕ) (logs dead : List ℕ) where
  -- of good groups, each is good
  pub each_good : (d i : ℕ) → groups_from p o w d i ≡ (Ok tt) → (j : ℕ) → i ≤ j → j < i + d → is_good (group_in p o w j) ≡ true
  unfolding groups_from
  each_good zero i e j a b = absurd (omega arith)
  each_good (suc d) i e j a b =
      let q = fine_parts (group_check i (group_in p o w i)) (groups_from p o w d (i + 1)) e in
      elim (ℕ_discrete i j) [
        | yes s ↦ rw s at (check_good i (group_in p o w i) q.0)
        | no s ↦ each_good d (i + 1) q.1 j (omega arith) (omega arith)
      ]

  degrees_last : (d i : ℕ) → degrees_from p o w (suc d) i ≡ degrees_from p o w d i + key_degree keys p o w logs dead (i + d)
  unfolding degrees_from
  degrees_last zero i = let z : i + 0 ≡ i = omega arith in rw z (omega arith)
  degrees_last (suc d) i =
      let ih = degrees_last d (i + 1) in
      let z : i + 1 + d ≡ i + suc d = omega arith in
      ap (λ (t : ℕ). key_degree keys p o w logs dead i + t) (ih ∙ ap (λ (t : ℕ). degrees_from p o w d (i + 1) + key_degree keys p o w logs dead t) z) ∙ omega arith

  degrees_cut : (a b i : ℕ) → degrees_from p o w (a + b) i ≡ degrees_from p o w a i + degrees_from p o w b (i + a)
  unfolding degrees_from
  degrees_cut zero b i = let z : i + 0 ≡ i = omega arith in rw (zero-add, z) (sym (zero-add _))
  degrees_cut (suc a) b i =
      let n : suc a + b ≡ suc (a + b) = omega arith in
      let z : i + 1 + a ≡ i + suc a = omega arith in
      ap (λ (t : ℕ). degrees_from p o w t i) n
      ∙ ap (λ (t : ℕ). key_degree keys p o w logs dead i + t) (degrees_cut a b (i + 1) ∙ ap (λ (t : ℕ). degrees_from p o w a (i + 1) + degrees_from p o w b t) z)
      ∙ omega arith

  -- the edges before a group are those of the degrees before it
  module _ (n : ℕ) (up : OffsetsRise o w n (length p)) (ok : groups_from p o w n 0 ≡ (Ok tt)) where
    degree_here : (i : ℕ) → i < n → (degree_at p o w i ≡ Some (key_degree keys p o w logs dead i)) × (1 ≤ key_degree keys p o w logs dead i)
    degree_here i lt =
        let g = group_at p o w i in
        let good = each_good n 0 ok i (omega arith) (omega arith) in
        let (dense, is) = good_is (group_of g) good in
        let d = group.degree_is g dense (partners_of (group_of g)) is in
        let rise = up.above i lt in
        let end = up.within (i + 1) (omega arith) in
        let some = d.0 in
        (degree_is p o w i refl refl (in_is p (offset_at o w i) (offset_at o w (i + 1)) (omega arith) (omega arith) _ _ (varint_of g d.1.1) (λ z. omega arith)), some)

    before_is : (i : ℕ) → i ≤ n → edges_before p o w i ≡ Some (degrees_from p o w i 0)
    unfolding edges_before plus degrees_from
    before_is zero h = refl
    before_is (suc i) h =
        let d = (degree_here i (omega arith)).0 in
        let z : 0 + i ≡ i = omega arith in
        rw (before_is i (omega arith), d) (ap Some (ap (λ (t : ℕ). degrees_from p o w i 0 + key_degree keys p o w logs dead t) (sym z) ∙ sym (degrees_last i 0)))

  -- ---- the edges of key k among all of them

  none_read : (k : ℕ) (d i e : ℕ) → ((j : ℕ) → i ≤ j → j < i + d → key_at keys j ≡ k → ⊥) → of_key k (read_from keys p o w logs dead d i e) ≡ []
  unfolding read_from of_key
  none_read k zero i e n = refl
  none_read k (suc d) i e n =
      let ih = none_read k d (i + 1) (e + key_degree keys p o w logs dead i) (λ j a b. n j (omega arith) (omega arith)) in
      let mine = none_of logs dead (halves_at keys (i * 16)) k (λ q. n i (omega arith) (omega arith) (sym (number_halves keys (i * 16)) ∙ q)) (partners_of (group_in p o w i)) e in
      key_append k (key_edges keys p o w logs dead i e) (read_from keys p o w logs dead d (i + 1) (e + key_degree keys p o w logs dead i))
      ∙ ap₂ (λ (x y : List Edge). x ++ y) mine ih

  pub one_read : (k : ℕ) (d i e j : ℕ) → i ≤ j → j < i + d → key_at keys j ≡ k → ((m : ℕ) → i ≤ m → m < i + d → key_at keys m ≡ k → m ≡ j)
      → of_key k (read_from keys p o w logs dead d i e) ≡ key_edges keys p o w logs dead j (e + degrees_from p o w (j - i) i)
  unfolding read_from degrees_from
  one_read k zero i e j a b q u = absurd (omega arith)
  one_read k (suc d) i e j a b q u =
      elim (ℕ_discrete i j) [
        | yes s ↦
            let mine = all_of logs dead (halves_at keys (i * 16)) k (number_halves keys (i * 16) ∙ ap (key_at keys) s ∙ q) (partners_of (group_in p o w i)) e in
            let others = none_read k d (i + 1) (e + key_degree keys p o w logs dead i) (λ m x y r. let z = u m (omega arith) (omega arith) r in omega arith) in
            let none : j - i ≡ 0 = omega arith in
            key_append k (key_edges keys p o w logs dead i e) (read_from keys p o w logs dead d (i + 1) (e + key_degree keys p o w logs dead i))
            ∙ ap₂ (λ (x y : List Edge). x ++ y) mine others
            ∙ append-nil (key_edges keys p o w logs dead i e)
            ∙ ap₂ (λ (x y : ℕ). key_edges keys p o w logs dead x y) s (sym (ap (λ (t : ℕ). e + degrees_from p o w t i) none ∙ add-zero e))
        | no s ↦
            let mine = none_of logs dead (halves_at keys (i * 16)) k (λ r. s (u i (omega arith) (omega arith) (sym (number_halves keys (i * 16)) ∙ r))) (partners_of (group_in p o w i)) e in
            let ih = one_read k d (i + 1) (e + key_degree keys p o w logs dead i) j (omega arith) (omega arith) q (λ m x y r. u m (omega arith) (omega arith) r) in
            let more : j - i ≡ suc (j - (i + 1)) = omega arith in
            let sum : e + key_degree keys p o w logs dead i + degrees_from p o w (j - (i + 1)) (i + 1) ≡ e + (key_degree keys p o w logs dead i + degrees_from p o w (j - (i + 1)) (i + 1)) = omega arith in
            key_append k (key_edges keys p o w logs dead i e) (read_from keys p o w logs dead d (i + 1) (e + key_degree keys p o w logs dead i))
            ∙ ap₂ (λ (x y : List Edge). x ++ y) mine ih
            ∙ ap (key_edges keys p o w logs dead j) (sum ∙ ap (λ (t : ℕ). e + degrees_from p o w t i) (sym more))
      ]

-- a run of edges of one key, found
found_says : (full : Bool) (logs dead : List ℕ) (key : Id) (ps : List Id) (e i c : ℕ) (es : List Edge) → es ≡ edges_from logs dead key e ps → 1 ≤ length ps
    → Says full (found i c ps (pick full (logs_from (length ps) logs e) []) (pick full (marks_from (length ps) dead e) [])) es
unfolding Says
found_says full logs dead key ps e i c es q some =
    let count = ap length q ∙ count_of logs dead key ps e in (
      omega arith,
      sym (ap partners_in q ∙ partners_of_lem logs dead key ps e),
      ap (λ (t : List ℕ). pick full t []) (sym (ap logs_in q ∙ logs_of logs dead key ps e)),
      ap (λ (t : List ℕ). pick full t []) (sym (ap mark_bytes_in q ∙ marks_of_lem logs dead key ps e)),
    )

absent_says : (full : Bool) (c : ℕ) (es : List Edge) → es ≡ [] → Says full (absent c) es
unfolding Says
absent_says full c es e = e

-- the same by another name of the outcome
says_as : (full : Bool) {x y : Outcome} (es : List Edge) → x ≡ y → Says full y es → Says full x es
says_as full es e h = rw e h

module _ (f : List ℕ) (o : Opened) (pass : checked_of f ≡ Ok o) (k : ℕ) where
  abbrev keys : List ℕ
  keys = bytes_at f o.keys

  abbrev ps : List ℕ
  ps = bytes_at f o.partners

  abbrev os : List ℕ
  os = bytes_at f o.offsets

  abbrev w : ℕ
  w = o.bits / 8

  abbrev ls : List ℕ
  ls = bytes_at f o.logs

  abbrev ds : List ℕ
  ds = pick o.marked (bytes_at f o.dead) []

  -- the edges of key k
  abbrev mine : List Edge
  mine = of_key k (edges_in (known_of f o))

  opens : open_of f ≡ Ok o
  opens = checked_opened f o pass

  rise : KeysRise keys o.keycount
  rise = opened_keys f o opens

  up : OffsetsRise os w o.keycount (length ps)
  up = opened_offsets f o opens

  ok : groups_from ps os w o.keycount 0 ≡ (Ok tt)
  ok = (checked_edges f o pass).0

  total : degrees_from ps os w o.keycount 0 ≡ o.edgecount
  total = (checked_edges f o pass).1

  -- a key that the search does not find has no edges
  mine_none : (c : ℕ) → find_in keys o.keycount k ≡ Found.Absent c → mine ≡ []
  unfolding edges_in known_of
  mine_none c e = none_read keys ps os w ls ds k o.keycount 0 0 (λ j a b q. find_absent keys o.keycount rise k c e j (omega arith) q)

  module _ (i c : ℕ) (e : find_in keys o.keycount k ≡ Found.At i c) where
    here : (i < o.keycount) × (key_at keys i ≡ k)
    here = find_sound keys o.keycount k i c e

    group_partners : List Id
    group_partners = partners_of (group_in ps os w i)

    first : ℕ
    first = degrees_from ps os w i 0

    -- the edges of key i are those of its group
    mine_one : mine ≡ edges_from ls ds (halves_at keys (i * 16)) first group_partners
    unfolding edges_in known_of group_partners first
    mine_one =
        let lt = here.0 in
        let z : 0 + degrees_from ps os w (i - 0) 0 ≡ degrees_from ps os w i 0 = zero-add _ ∙ ap (λ (t : ℕ). degrees_from ps os w t 0) (sub-zero i) in
        one_read keys ps os w ls ds k o.keycount 0 0 i (omega arith) (omega arith) here.1
        (λ m a b q. key_once keys o.keycount rise m i (omega arith) lt (q ∙ sym here.1))
        ∙ ap (λ (t : ℕ). key_edges keys ps os w ls ds i t) z

    some : 1 ≤ length group_partners
    unfolding group_partners
    some = (degree_here keys ps os w ls ds o.keycount up ok i here.0).1

    -- the group is good
    seen_good : calls.group f o i ≡ Ok (length group_partners)
    unfolding group_partners
    seen_good =
        let lt = here.0 in
        let risen = up.above i lt in
        let end = up.within (i + 1) (omega arith) in
        let (dense, is) = good_is (group_in ps os w i) (each_good keys ps os w ls ds o.keycount 0 ok i (omega arith) (omega arith)) in
        good_seen ps (offset_at os w i) (offset_at os w (i + 1)) i (omega arith) (omega arith) dense (partners_of (group_in ps os w i)) is

    -- its edges lie within the edge count
    through : first + length group_partners ≤ o.edgecount
    unfolding first group_partners
    through =
        let lt = here.0 in
        let t = total in
        let last = degrees_last keys ps os w ls ds i 0 in
        let z : 0 + i ≡ i = omega arith in
        let cut = degrees_cut keys ps os w ls ds (suc i) (o.keycount - suc i) 0 in
        let all : suc i + (o.keycount - suc i) ≡ o.keycount = omega arith in
        omega (arith, ap (λ (x : ℕ). degrees_from ps os w x 0) all, ap (λ (x : ℕ). length (partners_of (group_in ps os w x))) z)

    -- they begin where the degrees before it end, as the start index says too
    begins : before (known_of f o) i (length group_partners) ≡ Some first
    unfolding first group_partners before known_of
    begins = by o.indexed refl
      where
        next : degrees_from ps os w (suc i) 0 ≡ degrees_from ps os w i 0 + length (partners_of (group_in ps os w i))
        next = degrees_last keys ps os w ls ds i 0 ∙ ap (λ (x : ℕ). degrees_from ps os w i 0 + length (partners_of (group_in ps os w x))) (zero-add i)

        by : (b : Bool) → o.indexed ≡ b
            → pick b (start_of (pick b (bytes_at f o.starts) []) i (length (partners_of (group_in ps os w i)))) (edges_before ps os w i) ≡ Some (degrees_from ps os w i 0)
        by true m =
            let lt = here.0 in
            let at = checked_starts f o pass m i (omega arith) in
            let end = checked_starts f o pass m (i + 1) (omega arith) ∙ ap (λ (x : ℕ). degrees_from ps os w x 0) (add-one i) ∙ next in
            start_is (bytes_at f o.starts) i (length (partners_of (group_in ps os w i))) (omega arith) ∙ ap Some at
        by false m = let lt = here.0 in before_is keys ps os w ls ds o.keycount up ok i (omega arith)

    -- and so without the start index
    pub begins_same : (r : Range) → before (known_of f (unindexed r o)) i (length (partners_of (group_in ps os w i))) ≡ before (known_of f o) i (length (partners_of (group_in ps os w i)))
    unfolding before known_of first group_partners
    begins_same r = let lt = here.0 in before_is keys ps os w ls ds o.keycount up ok i (omega arith) ∙ sym begins

    placed : capped o.edgecount (before (known_of f o) i (length group_partners)) ≡ Some first
    placed = let h = through in capped_is o.edgecount (before (known_of f o) i (length group_partners)) first begins (omega arith)

    module _ (rooms : Rooms) where
      -- with log numbers and dead marks
      full_here : short true rooms (length mine) ≡ false → Says true (look_in true rooms (known_of f o) k) mine
      unfolding group_partners first known_of
      full_here room =
          let d : length mine ≡ length group_partners = ap length mine_one ∙ count_of ls ds (halves_at keys (i * 16)) group_partners first in
          says_as true mine
          (calls_laws.look_at true rooms f o k i c e
          ∙ calls_laws.whole_found f o i (length group_partners) seen_good rooms c first placed through (ap (short true rooms) (sym d) ∙ room))
          (found_says true ls ds (halves_at keys (i * 16)) group_partners first i c mine mine_one some)

    -- partners alone
    alone_here : (n : ℕ) → 16 * length mine ≤ n → Says false (look_in false (calls.alone n) (known_of f o) k) mine
    unfolding group_partners first known_of
    alone_here n room =
        let d : length mine ≡ length group_partners = ap length mine_one ∙ count_of ls ds (halves_at keys (i * 16)) group_partners first in
        says_as false mine
        (calls_laws.look_at false (calls.alone n) f o k i c e ∙ calls_laws.partners_found f o i (length group_partners) seen_good n c (omega arith))
        (found_says false ls ds (halves_at keys (i * 16)) group_partners first i c mine mine_one some)

  full_says : (rooms : Rooms) → short true rooms (length mine) ≡ false → Says true (look_in true rooms (known_of f o) k) mine
  full_says rooms room = by_found (find_in keys o.keycount k) refl
    where
      by_found : (x : Found) → find_in keys o.keycount k ≡ x → Says true (look_in true rooms (known_of f o) k) mine
      by_found (Found.At i c) e = full_here i c e rooms room
      by_found (Found.Absent c) e = says_as true mine (calls_laws.look_absent true rooms f o k c e) (absent_says true c mine (mine_none c e))

  alone_says : (n : ℕ) → 16 * length mine ≤ n → Says false (look_in false (calls.alone n) (known_of f o) k) mine
  alone_says n room = by_found (find_in keys o.keycount k) refl
    where
      by_found : (x : Found) → find_in keys o.keycount k ≡ x → Says false (look_in false (calls.alone n) (known_of f o) k) mine
      by_found (Found.At i c) e = alone_here i c e n room
      by_found (Found.Absent c) e = says_as false mine (calls_laws.look_absent false (calls.alone n) f o k c e) (absent_says false c mine (mine_none c e))

-- it is enough exactly where no output is too short
pub enough_room : (rooms : Rooms) (d : ℕ) → short true rooms d ≡ false → Enough rooms d
unfolding short
enough_room rooms d e =
    let a = either_parts (Refusal.Room d) (ltb rooms.bytes (16 * d)) _ (ap (refuse (Refusal.Room d)) e) in
    let b = either_parts (Refusal.Room d) (ltb rooms.logs d) (ltb rooms.marks d) (ap (refuse (Refusal.Room d)) a.1) in
    record { bytes = ltb-false _ _ a.0; logs = ltb-false _ _ b.0; marks = ltb-false _ _ b.1 }

pub room_enough : (rooms : Rooms) (d : ℕ) → Enough rooms d → short true rooms d ≡ false
room_enough rooms d room = let bytes = room.bytes in let logs = room.logs in let marks = room.marks in calls_laws.short_none rooms d (omega arith) (omega arith) (omega arith)

module _ (f : List ℕ) (pass : full_check f ≡ (Ok tt)) (k : ℕ) where
  good : checked_of f ≡ Ok (record_of f)
  good = fine_checked f pass

  -- partners with log numbers and dead marks, from the file and from the record that opening gave
  module _ (rooms : Rooms) (room : Enough rooms (length (of_key k (edges_of_file f)))) where
    pub same_edges : Says true (look_of true rooms k f) (of_key k (edges_of_file f))
    same_edges =
        says_as true (of_key k (edges_of_file f)) (of_good true rooms k f (record_of f) (checked_opened f (record_of f) good))
        (full_says f (record_of f) good k rooms (room_enough rooms (length (of_key k (edges_of_file f))) room))

    pub same_edges_with : Says true (look_with true rooms k f (record_of f)) (of_key k (edges_of_file f))
    same_edges_with = says_as true (of_key k (edges_of_file f)) (with_record true rooms k f (record_of f) (checked_opened f (record_of f) good)) same_edges

  -- partners alone
  module _ (n : ℕ) (room : 16 * length (of_key k (edges_of_file f)) ≤ n) where
    pub same_partners : Says false (look_of false (calls.alone n) k f) (of_key k (edges_of_file f))
    same_partners =
        says_as false (of_key k (edges_of_file f)) (of_good false (calls.alone n) k f (record_of f) (checked_opened f (record_of f) good))
        (alone_says f (record_of f) good k n room)

    pub same_partners_with : Says false (look_with false (calls.alone n) k f (record_of f)) (of_key k (edges_of_file f))
    same_partners_with =
        says_as false (of_key k (edges_of_file f)) (with_record false (calls.alone n) k f (record_of f) (checked_opened f (record_of f) good)) same_partners
