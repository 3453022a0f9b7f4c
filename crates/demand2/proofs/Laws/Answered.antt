-- What a lookup answers of a written file, to the last number: a key's index is its place among the different keys of the batch,
-- and the count of keys compared is the halving rule's own among them.
use Rattle.std.specs.Prelude.{◌≡◌, refl, ℕ, zero, suc, ◌+◌, ◌≤◌, ◌<◌, Bool, length, get_or, take, drop, Ok, Err}
use Rattle.std.proofs.Math.Path.{sym, ap₂}
use Rattle.std.proofs.Common.{ap, ◌∙◌, arith, take-append-drop, drop-cons, length-take-le, lt-ltb, le-ltb}
use mathlib.Core.List.{List, [], ◌∷◌, ◌++◌}
use Rattle.base.specs.Pick.{pick}
use Rattle.codes.specs.declared.ids.Id.{Id}
use Rattle.codes.specs.Ids.{id_number}
use Rattle.frame.specs.Open.{Known, key_at}
use Rattle.index.specs.declared.keys.Found.{Found}
use Rattle.index.specs.Find.{find_in, compared_of}
use Rattle.index.specs.Find.Laws.{find_sound}
use Rattle.lookup.specs.Lookup.{Outcome, found, absent, refused, outcome, Rooms, look_group, on_found, look_in}
use Rattle.batch.specs.declared.Edge.{Edge}
use Rattle.batch_groups.specs.Groups.{none, Group, IdFits, Grouped}
use Rattle.write_image.specs.Image.{key_bytes}
use Rattle.agreement.specs.SameEdges.{Says}
use Rattle.demand2.proofs.Laws.Below.{none_below}
use Rattle.demand2.proofs.Laws.Contents.{group_key}
use Rattle.demand2.specs.Answers.{index_in, comparisons_in, outcome_by, PlaceTold}
use Rattle.refusal.specs.Check.{Check}

-- ---- the index

abbrev past : Group
past = record { key = none.key; edges = [] }

above_floor : (floor : ℕ) (gs : List Group) → Grouped floor gs → (i : ℕ) → i < length gs → floor ≤ id_number (get_or gs i past).key
unfolding Grouped
above_floor floor [] o i h = absurd (omega arith)
above_floor floor (g ∷ gs) o zero h = o.0
above_floor floor (g ∷ gs) o (suc i) h = let low = o.0 in let up = above_floor (suc (id_number g.key)) gs o.4 i (omega arith) in omega arith

-- of the key of group i it is i
index_is : (floor : ℕ) (gs : List Group) → Grouped floor gs → (i : ℕ) → i < length gs → index_in (id_number (get_or gs i past).key) gs ≡ i
unfolding index_in Grouped
index_is floor [] o i h = absurd (omega arith)
index_is floor (g ∷ gs) o zero h =
    ap₂ (λ (b : Bool) (n : ℕ). pick b 1 0 + n) (le-ltb (id_number g.key) (id_number g.key) (omega arith))
    (none_below (id_number g.key) (suc (id_number g.key)) gs o.4 (omega arith))
index_is floor (g ∷ gs) o (suc i) h =
    let up = above_floor (suc (id_number g.key)) gs o.4 i (omega arith) in
    let rest = index_is (suc (id_number g.key)) gs o.4 i (omega arith) in
    ap₂ (λ (b : Bool) (n : ℕ). pick b 1 0 + n) (lt-ltb (id_number g.key) (id_number (get_or gs i past).key) (omega arith)) rest ∙ omega arith

-- a group's key fits
key_fits : (floor : ℕ) (gs : List Group) → Grouped floor gs → (i : ℕ) → i < length gs → IdFits (get_or gs i past).key
unfolding Grouped
key_fits floor [] o i h = absurd (omega arith)
key_fits floor (g ∷ gs) o zero h = o.1
key_fits floor (g ∷ gs) o (suc i) h = key_fits (suc (id_number g.key)) gs o.4 i (omega arith)

-- what is found stands at its index
module _ (gs : List Group) (order : Grouped 0 gs) (k : ℕ) where
  key_is : (i : ℕ) → i < length gs → key_at (key_bytes gs) i ≡ id_number (get_or gs i past).key
  key_is i h =
      let split : gs ≡ take i gs ++ get_or gs i past ∷ drop (suc i) gs = sym (take-append-drop i gs) ∙ ap (λ (t : List Group). take i gs ++ t) (drop-cons gs i past h) in
      ap (key_at (key_bytes gs)) (sym (length-take-le i gs (omega arith)))
      ∙ group_key gs (take i gs) (get_or gs i past) (drop (suc i) gs) split (key_fits 0 gs order i h)

  found_at : (i c : ℕ) → find_in (key_bytes gs) (length gs) k ≡ Found.At i c → i ≡ index_in k gs
  found_at i c e =
      let (h, q) = find_sound (key_bytes gs) (length gs) k i c e in
      sym (ap (λ (t : ℕ). index_in t gs) (sym q ∙ key_is i h) ∙ index_is 0 gs order i h)

module _ (known : Known) (gs : List Group) (order : Grouped 0 gs) (keys : known.keys ≡ key_bytes gs) (count : known.keycount ≡ length gs) (full : Bool) (rooms : Rooms) (k : ℕ) where
  on_group : (i c : ℕ) (chk : Check) (ps : List Id) (logs marks : List ℕ) → find_in (key_bytes gs) (length gs) k ≡ Found.At i c → PlaceTold k gs (outcome chk (found i c ps logs marks))
  unfolding PlaceTold outcome compared_of
  on_group i c (Ok _) ps logs marks e = (found_at gs order k i c e, sym (ap compared_of e))
  on_group i c (Err r) ps logs marks e = tt

  on_search : (x : Found) → find_in (key_bytes gs) (length gs) k ≡ x → PlaceTold k gs (on_found full rooms known x)
  unfolding PlaceTold on_found look_group compared_of
  on_search (Found.At i c) e = on_group i c _ _ _ _ e
  on_search (Found.Absent c) e = sym (ap compared_of e)

  pub look_placed : PlaceTold k gs (look_in full rooms known k)
  unfolding look_in
  look_placed =
      let e : find_in known.keys known.keycount k ≡ find_in (key_bytes gs) (length gs) k = ap₂ (λ (s : List ℕ) (n : ℕ). find_in s n k) keys count in
      on_search (find_in known.keys known.keycount k) (sym e)

-- with the edges that it says, an outcome is the one that the edges give
pub outcome_is : (full : Bool) (k : ℕ) (gs : List Group) (es : List Edge) (x : Outcome) → Says full x es → PlaceTold k gs x
    → x ≡ outcome_by full (index_in k gs) (comparisons_in k gs) es
unfolding Says PlaceTold outcome_by
outcome_is full k gs [] (found i c ps logs marks) h p = absurd (omega (arith, h.0))
outcome_is full k gs (e ∷ es) (found i c ps logs marks) h p = λ j. found (p.0 j) (p.1 j) (h.1 j) (h.2 j) (h.3 j)
outcome_is full k gs [] (absent c) h p = ap absent p
outcome_is full k gs (e ∷ es) (absent c) h p = absurd (omega (arith, ap length h))
outcome_is full k gs es (refused r) h p = absurd h
