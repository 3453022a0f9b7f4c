-- The start index does not show: of a file that passes the full check, the lookup by a record with the start index and by the same
-- record without it give the same answer, refusals, places and counts included.
use Rattle.std.specs.Prelude.{◌≡◌, ℕ, ◌+◌, List, [], Bool, true, not, ◌&&◌, length, Option, Ok}
use Rattle.std.proofs.Math.Path.{refl, sym, ap}
use Rattle.std.proofs.Common.{◌∙◌, arith}
use Rattle.base.specs.Pick.{pick}
use Rattle.refusal.specs.declared.Refusal.{Refusal}
use Rattle.refusal.specs.Check.{◌⊳◌, refuse}
use Rattle.frame.specs.declared.Range.{Range}
use Rattle.frame.specs.declared.Opened.{Opened}
use Rattle.frame.specs.Frame.{record_of}
use Rattle.frame.specs.Open.{known_of, bytes_at, record_good}
use Rattle.frame.proofs.Laws.Open.{recorded_parts, recorded_made}
use Rattle.index.specs.declared.keys.Found.{Found}
use Rattle.index.specs.Find.{find_in}
use Rattle.lookup.specs.Lookup.{Outcome, found, outcome, Rooms, group_fault, before, within, first_of, logs_from, marks_from, short, offset, partners_at, look_check, look_group, on_found, look_in, look_with}
use Rattle.reader.proofs.Laws.Opened.{opened_good}
use Rattle.reader.proofs.Laws.Look.{with_good}
use Rattle.full_check.specs.Full.{full_check, checked_of}
use Rattle.full_check.specs.Checked.{checked_opened, fine_checked}
use Rattle.agreement.specs.SameEdges.{unindexed}
use Rattle.agreement.proofs.Laws.SameEdges.{begins_same}

-- rule 21 does not look at the range of a start index that is said not to be there
good_without : (f : List ℕ) (o : Opened) (r : Range) → record_good f o ≡ true → record_good f (unindexed r o) ≡ true
good_without f o r e =
    let p = recorded_parts (length f) o e in
    let s = p.sized in
    recorded_made (length f) (unindexed r o) (record {
      bytes = p.bytes;
      keys = p.keys;
      offsets = p.offsets;
      partners = p.partners;
      logs = p.logs;
      dead = p.dead;
      starts = λ m. let z : ◌≡◌ {A = ℕ} 0 1 = cc in absurd (omega arith);
      width = p.width;
      sized = record {
        few = s.few;
        edges = s.edges;
        keys = s.keys;
        offsets = s.offsets;
        logs = s.logs;
        dead = s.dead;
        starts = λ m. let z : ◌≡◌ {A = ℕ} 0 1 = cc in absurd (omega arith);
      };
    })

module _ (f : List ℕ) (o : Opened) (pass : checked_of f ≡ Ok o) (r : Range) (full : Bool) (rooms : Rooms) (key : ℕ) where
  -- the same group, whose edges begin at `sum`
  group_by : (i c : ℕ) → (Option ℕ) → Outcome
  group_by i c sum =
      let d : ℕ = length (partners_at full rooms (known_of f o) i) in
      outcome
      (group_fault (bytes_at f o.partners) (offset full rooms (known_of f o) i) (offset full rooms (known_of f o) (i + 1)) i
      ⊳ refuse (Refusal.Degrees i) (full && not (within o.edgecount d sum))
      ⊳ refuse (Refusal.Room d) (short full rooms d))
      (found i c (partners_at full rooms (known_of f o) i) (pick full (logs_from d (bytes_at f o.logs) (first_of sum)) [])
      (pick full (marks_from d (pick o.marked (bytes_at f o.dead) []) (first_of sum)) []))

  group_with : (i c : ℕ) → look_group full rooms (known_of f o) i c ≡ group_by i c (before (known_of f o) i (length (partners_at full rooms (known_of f o) i)))
  unfolding group_by look_group look_check known_of
  group_with i c = refl

  group_without : (i c : ℕ) → look_group full rooms (known_of f (unindexed r o)) i c ≡ group_by i c (before (known_of f (unindexed r o)) i (length (partners_at full rooms (known_of f o) i)))
  unfolding group_by look_group look_check known_of
  group_without i c = refl

  in_without : look_in full rooms (known_of f (unindexed r o)) key ≡ look_in full rooms (known_of f o) key
  unfolding look_in on_found known_of
  in_without = go (find_in (bytes_at f o.keys) o.keycount key) refl
    where
      go : (x : Found) → find_in (bytes_at f o.keys) o.keycount key ≡ x → on_found full rooms (known_of f (unindexed r o)) x ≡ on_found full rooms (known_of f o) x
      go (Found.At i c) e = group_without i c ∙ ap (group_by i c) (begins_same f o pass key i c e r) ∙ sym (group_with i c)
      go (Found.Absent c) e = refl

  with_without : look_with full rooms key f (unindexed r o) ≡ look_with full rooms key f o
  with_without =
      let good = opened_good f o (checked_opened f o pass) in
      with_good full rooms key f (unindexed r o) (good_without f o r good) ∙ in_without ∙ sym (with_good full rooms key f o good)

-- whatever numbers stand in the range's place
pub same_without : (f : List ℕ) → full_check f ≡ (Ok tt) → (r : Range) (full : Bool) (rooms : Rooms) (key : ℕ)
    → look_with full rooms key f (unindexed r (record_of f)) ≡ look_with full rooms key f (record_of f)
same_without f e r full rooms key = with_without f (record_of f) (fine_checked f e) r full rooms key
