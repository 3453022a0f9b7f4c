-- Which refusals a lookup gives after opening, and when it tells a fault of the group, 14 at it or 19, exactly.
use Rattle.std.proofs.Math.Path.{◌≡◌, refl, ap}
use Rattle.std.proofs.Common.{◌∙◌, inl, inr, ⊎_elim, arith, ltb-false, lt-ltb, le-ltb}
use Rattle.std.specs.Prelude.{◌↔◌, ◌⊎◌, List, [], ◌∷◌, Bool, not, ◌&&◌, ◌||◌, ltb, Ok, Err}
use Prim.Native.Nat.{ℕ, ◌+◌, ◌/◌, ◌≤◌, ◌<◌}
use Rattle.std.proofs.Math.Decide.{dec_lt}
use Rattle.std.proofs.Math.Bool.{true, false}
use Rattle.std.proofs.Math.ListN.{length}
use Rattle.std.proofs.lemmas.Bool.{not-true}
use Rattle.base.specs.Over.{part}
use Rattle.refusal.specs.declared.Refusal.{Refusal}
use Rattle.refusal.specs.Refusal.{number_of}
use Rattle.refusal.specs.Check.{◌⊳◌, refuse, Check}
use Rattle.refusal.proofs.Laws.Check.{fine_parts, fine_both, bad_then, fine_then, by_first, by_second, refuse_bad, refuse_fine, refuse_own, either_parts, and_parts, listed, Numbers, numbers_fine, numbers_bad, numbers_refuse, numbers_then, numbers_more, not_given}
use Rattle.frame.specs.Open.{Known, offset_at}
use Rattle.index.specs.declared.keys.Found.{Found}
use Rattle.index.specs.Find.{find_in}
use Rattle.degrees.specs.Degrees.{misplaced}
use Rattle.group.specs.Group.{Decoded, good, bad, is_good, group_of}
use Rattle.group.specs.declared.fault.Fault.{Fault}
use Rattle.group.specs.Fault.{refusal_of}
use Rattle.group.proofs.Laws.Fault.{fault_numbers, fault_listed, fault_once, fault_apart}
use Rattle.lookup.specs.Lookup.{Outcome, refused, outcome, Rooms, group_check, group_fault, within, short, partners_at, before, look_check, look_group, on_found, look_in}
use Rattle.lookup.specs.Given.{look_numbers, FaultIn, UnplacedIn, MisplacedIn}

-- ---- a group's faults

pub group_numbers : (i : ℕ) (w : Decoded) → Numbers fault_numbers (group_check i w)
unfolding group_check
group_numbers i (good dense ps) = numbers_fine fault_numbers
group_numbers i (bad f) = numbers_bad fault_numbers (refusal_of i f) (fault_listed i f)

pub group_fine : (i : ℕ) (w : Decoded) → (group_check i w ≡ (Ok tt)) ↔ (is_good w ≡ true)
unfolding group_check is_good
group_fine i (good dense ps) = (λ e. refl, λ e. refl)
group_fine i (bad f) = (λ e. let z : ◌≡◌ {A = ℕ} 0 1 = cc in absurd (omega arith), λ e. let z : ◌≡◌ {A = ℕ} 0 1 = cc in absurd (omega arith))

pub group_fault_lem : (i : ℕ) (w : Decoded) (j : ℕ) (f : Fault) → (group_check i w ≡ Err (refusal_of j f)) ↔ ((w ≡ bad f) × (i ≡ j))
unfolding group_check
group_fault_lem i w j f = (go w, λ h. ap (group_check i) h.0 ∙ ap (λ (t : ℕ). Err (refusal_of t f)) h.1)
  where
    go : (w : Decoded) → group_check i w ≡ Err (refusal_of j f) → (w ≡ bad f) × (i ≡ j)
    go (good dense ps) e = let z : ◌≡◌ {A = ℕ} 0 1 = cc in absurd (omega arith)
    go (bad x) e =
        let same : refusal_of i x ≡ refusal_of j f = cc in
        let t = fault_once i j x f same in (ap bad t.0, t.1)

-- ---- a lookup in what is known of a file

-- a check's refusal is the outcome's
told : (c : Check) (x : Outcome) → ((r : Refusal) → x ≡ refused r → ⊥) → (r : Refusal) → (outcome c x ≡ refused r) ↔ (c ≡ Err r)
unfolding outcome
told (Ok _) x never r = (λ e. absurd (never r e), λ e. let z : ◌≡◌ {A = ℕ} 0 1 = cc in absurd (omega arith))
told (Err q) x never r = (λ e. let same : q ≡ r = cc in ap Err same, λ e. let same : q ≡ r = cc in ap refused same)

module _ (full : Bool) (rooms : Rooms) (k : Known) where
  abbrev begins : ℕ → ℕ
  begins i = offset_at k.offsets (k.bits / 8) i

  abbrev group : ℕ → List ℕ
  group i = part k.partners (begins i) (begins (i + 1))

  abbrev misses : ℕ → Bool
  misses i = misplaced k.partners (begins i) (begins (i + 1))

  abbrev unplaced : ℕ → ℕ → Bool
  unplaced i d = full && not (within k.edgecount d (before k i d))

  late_numbers : (i d : ℕ) → Numbers (19 ∷ 20 ∷ []) (refuse (Refusal.Degrees i) (unplaced i d) ⊳ refuse (Refusal.Room d) (short full rooms d))
  late_numbers i d =
      let late : List ℕ = 19 ∷ 20 ∷ [] in
      numbers_then late _ _ (numbers_refuse late (Refusal.Degrees i) (unplaced i d) refl) (numbers_refuse late (Refusal.Room d) (short full rooms d) refl)

  check_numbers : (i d : ℕ) → Numbers look_numbers (look_check full rooms k i d)
  unfolding look_check group_fault
  check_numbers i d =
      numbers_then look_numbers _ _
      (numbers_then look_numbers _ _ (numbers_refuse look_numbers (Refusal.Offset i) (misses i) refl) (numbers_more fault_numbers look_numbers refl (group_numbers i (group_of (group i)))))
      (numbers_more (19 ∷ 20 ∷ []) look_numbers refl (late_numbers i d))

  group_refused : (i c : ℕ) (r : Refusal) → (look_group full rooms k i c ≡ refused r) ↔ (look_check full rooms k i (length (partners_at full rooms k i)) ≡ Err r)
  unfolding look_group
  group_refused i c r = told (look_check full rooms k i (length (partners_at full rooms k i))) _ (λ q e. let z : ◌≡◌ {A = ℕ} 0 1 = cc in omega arith) r

  module _ (key : ℕ) where
    -- no other number
    pub look_numbers_lem : (r : Refusal) → look_in full rooms k key ≡ refused r → listed (number_of r) look_numbers ≡ true
    unfolding look_in on_found
    look_numbers_lem r = go (find_in k.keys k.keycount key)
      where
        go : (x : Found) → on_found full rooms k x ≡ refused r → listed (number_of r) look_numbers ≡ true
        go (Found.At i c) e = check_numbers i (length (partners_at full rooms k i)) r ((group_refused i c r).0 e)
        go (Found.Absent c) e = let z : ◌≡◌ {A = ℕ} 0 1 = cc in absurd (omega arith)

    -- a refusal of the group that is found: what is to be shown of its check
    module _ (r : Refusal) where
      look_by : (A : ℕ → Type 0) → ((j : ℕ) → look_check full rooms k j (length (partners_at full rooms k j)) ≡ Err r → A j)
          → (look_in full rooms k key ≡ refused r) → (j : ℕ) × (c : ℕ) × (find_in k.keys k.keycount key ≡ Found.At j c) × A j
      unfolding look_in on_found
      look_by A told e = go (find_in k.keys k.keycount key) refl e
        where
          go : (x : Found) → find_in k.keys k.keycount key ≡ x → on_found full rooms k x ≡ refused r
              → (j : ℕ) × (c : ℕ) × (find_in k.keys k.keycount key ≡ Found.At j c) × A j
          go (Found.At j c) q e = (j, c, q, told j ((group_refused j c r).0 e))
          go (Found.Absent c) q e = let z : ◌≡◌ {A = ℕ} 0 1 = cc in absurd (omega arith)

      look_back : (j c : ℕ) → find_in k.keys k.keycount key ≡ Found.At j c → look_check full rooms k j (length (partners_at full rooms k j)) ≡ Err r → look_in full rooms k key ≡ refused r
      unfolding look_in on_found
      look_back j c q e = ap (on_found full rooms k) q ∙ (group_refused j c r).1 e

    -- the two offsets of a group that is not misplaced
    placed : (j : ℕ) → misses j ≡ false → (begins j ≤ begins (j + 1)) × (begins (j + 1) ≤ length k.partners)
    placed j e =
        let m = either_parts (Refusal.Offset j) (ltb (begins (j + 1)) (begins j)) (ltb (length k.partners) (begins (j + 1))) ((refuse_fine (Refusal.Offset j) (misses j)).1 e) in
        (ltb-false _ _ m.0, ltb-false _ _ m.1)

    not_missed : (j : ℕ) → begins j ≤ begins (j + 1) → begins (j + 1) ≤ length k.partners → misses j ≡ false
    not_missed j a b = rw (le-ltb (begins (j + 1)) (begins j) a, le-ltb (length k.partners) (begins (j + 1)) b)

    fallen : (j : ℕ) → misses j ≡ true → (begins (j + 1) < begins j) ⊎ (length k.partners < begins (j + 1))
    fallen j e =
        elim (dec_lt (begins (j + 1)) (begins j)) [
          | yes h ↦ inl h
          | no h ↦ elim (dec_lt (length k.partners) (begins (j + 1))) [
            | yes g ↦ inr g
            | no g ↦ let z : ◌≡◌ {A = ℕ} 0 1 = cc (e, not_missed j (omega arith) (omega arith)) in absurd (omega arith)
          ]
        ]

    missed : (j : ℕ) → (begins (j + 1) < begins j) ⊎ (length k.partners < begins (j + 1)) → misses j ≡ true
    missed j = ⊎_elim (λ h. rw (lt-ltb (begins (j + 1)) (begins j) h)) (λ h. second (ltb (begins (j + 1)) (begins j)) (lt-ltb (length k.partners) (begins (j + 1)) h))
      where
        second : (a : Bool) {b : Bool} → b ≡ true → (a || b) ≡ true
        second true e = refl
        second false e = e

    module _ (i : ℕ) (f : Fault) where
      abbrev told_by : Refusal
      told_by = refusal_of i f

      -- 14, 19 and 20 tell no fault
      misplaced_not : (j : ℕ) → refuse (Refusal.Offset j) (misses j) ≡ Err told_by → ⊥
      misplaced_not j = fault_apart i f (14 ∷ []) (numbers_refuse (14 ∷ []) (Refusal.Offset j) (misses j) refl) refl

      late_not : (j d : ℕ) → refuse (Refusal.Degrees j) (unplaced j d) ⊳ refuse (Refusal.Room d) (short full rooms d) ≡ Err told_by → ⊥
      late_not j d = fault_apart i f (19 ∷ 20 ∷ []) (late_numbers j d) refl

      -- a fault of group i, exactly
      pub look_fault : (look_in full rooms k key ≡ refused told_by) ↔ FaultIn k key i f
      unfolding look_check group_fault
      look_fault = (λ e. found (look_by told_by (λ j. (misses j ≡ false) × (group_of (group j) ≡ bad f) × (j ≡ i)) told e), back)
        where
          told : (j : ℕ) → look_check full rooms k j (length (partners_at full rooms k j)) ≡ Err told_by → (misses j ≡ false) × (group_of (group j) ≡ bad f) × (j ≡ i)
          told j e =
              let d : ℕ = length (partners_at full rooms k j) in
              let a = (by_first (refuse (Refusal.Offset j) (misses j) ⊳ group_check j (group_of (group j))) _ told_by (late_not j d)).0 e in
              let b = (by_second (refuse (Refusal.Offset j) (misses j)) (group_check j (group_of (group j))) told_by (misplaced_not j)).0 a in
              let t = (group_fault_lem j (group_of (group j)) i f).0 b.1 in
              ((refuse_fine (Refusal.Offset j) (misses j)).0 b.0, t.0, t.1)

          found : ((j : ℕ) × (c : ℕ) × (find_in k.keys k.keycount key ≡ Found.At j c) × ((misses j ≡ false) × (group_of (group j) ≡ bad f) × (j ≡ i))) → FaultIn k key i f
          found (j, c, q, t) =
              let o = placed j t.0 in
              let here : FaultIn k key j f = record { compared = c; found = q; rises = o.0; inside = o.1; group = t.1 } in
              (rw t.2 at here)

          back : FaultIn k key i f → look_in full rooms k key ≡ refused told_by
          back t =
              let bad : group_check i (group_of (group i)) ≡ Err told_by = (group_fault_lem i (group_of (group i)) i f).1 (t.group, refl) in
              let fine = (refuse_fine (Refusal.Offset i) (misses i)).1 (not_missed i t.rises t.inside) in
              look_back told_by i t.compared t.found (bad_then _ (fine_then _ fine ∙ bad))

    -- "14 and 19 keep the group": 14 at i, exactly
    pub look_misplaced : (i : ℕ) → (look_in full rooms k key ≡ refused (Refusal.Offset i)) ↔ MisplacedIn k key i
    unfolding look_check group_fault
    look_misplaced i = (λ e. found (look_by (Refusal.Offset i) (λ j. (misses j ≡ true) × (j ≡ i)) told e), back)
      where
        of_rule : (j : ℕ) (t : Bool) → refuse (Refusal.Offset j) t ≡ Err (Refusal.Offset i) → (t ≡ true) × (j ≡ i)
        of_rule j true e = (refl, cc)
        of_rule j false e = let z : ◌≡◌ {A = ℕ} 0 1 = cc in absurd (omega arith)

        told : (j : ℕ) → look_check full rooms k j (length (partners_at full rooms k j)) ≡ Err (Refusal.Offset i) → (misses j ≡ true) × (j ≡ i)
        told j e =
            let r : Refusal = Refusal.Offset i in
            let a = (by_first (refuse (Refusal.Offset j) (misses j) ⊳ group_check j (group_of (group j))) _ r (not_given (19 ∷ 20 ∷ []) (late_numbers j (length (partners_at full rooms k j))) r refl)).0 e in
            let b = (by_first (refuse (Refusal.Offset j) (misses j)) (group_check j (group_of (group j))) r (not_given fault_numbers (group_numbers j (group_of (group j))) r refl)).0 a in
            of_rule j (misses j) b

        found : ((j : ℕ) × (c : ℕ) × (find_in k.keys k.keycount key ≡ Found.At j c) × ((misses j ≡ true) × (j ≡ i))) → MisplacedIn k key i
        found (j, c, q, t) = let here : MisplacedIn k key j = record { compared = c; found = q; misplaced = fallen j t.0 } in (rw t.1 at here)

        back : MisplacedIn k key i → look_in full rooms k key ≡ refused (Refusal.Offset i)
        back t = look_back (Refusal.Offset i) i t.compared t.found (bad_then _ (bad_then _ ((refuse_bad (Refusal.Offset i) (misses i)).1 (missed i t.misplaced))))

    -- 19 at i, exactly; partners alone never give it
    pub look_unplaced : (i : ℕ) → (look_in full rooms k key ≡ refused (Refusal.Degrees i)) ↔ ((full ≡ true) × UnplacedIn k key i)
    unfolding look_check group_fault
    look_unplaced i = (λ e. found (look_by (Refusal.Degrees i) Here told e), back)
      where
        Here : ℕ → Type 0
        Here j = (misses j ≡ false) × (is_good (group_of (group j)) ≡ true) × (unplaced j (length (partners_at full rooms k j)) ≡ true) × (j ≡ i)

        of_rule : (j : ℕ) (t : Bool) → refuse (Refusal.Degrees j) t ≡ Err (Refusal.Degrees i) → (t ≡ true) × (j ≡ i)
        of_rule j true e = (refl, cc)
        of_rule j false e = let z : ◌≡◌ {A = ℕ} 0 1 = cc in absurd (omega arith)

        not_group : (j : ℕ) (w : Decoded) → group_check j w ≡ Err (Refusal.Degrees i) → ⊥
        not_group j w = not_given fault_numbers (group_numbers j w) (Refusal.Degrees i) refl

        told : (j : ℕ) → look_check full rooms k j (length (partners_at full rooms k j)) ≡ Err (Refusal.Degrees i) → Here j
        told j e =
            let r : Refusal = Refusal.Degrees i in
            let d : ℕ = length (partners_at full rooms k j) in
            let rule : Check = refuse (Refusal.Offset j) (misses j) in
            let faults : Check = group_check j (group_of (group j)) in
            let a = (by_second (rule ⊳ faults) _ r (λ q. not_group j (group_of (group j)) ((by_second rule faults r (refuse_own (Refusal.Offset j) r (misses j) (λ z. omega arith))).0 q).1)).0 e in
            let fine = fine_parts rule faults a.0 in
            let b = (by_first (refuse (Refusal.Degrees j) (unplaced j d)) _ r (refuse_own (Refusal.Room d) r (short full rooms d) (λ z. omega arith))).0 a.1 in
            let t = of_rule j (unplaced j d) b in
            ((refuse_fine (Refusal.Offset j) (misses j)).0 fine.0, (group_fine j (group_of (group j))).0 fine.1, t.0, t.1)

        found : ((j : ℕ) × (c : ℕ) × (find_in k.keys k.keycount key ≡ Found.At j c) × Here j) → (full ≡ true) × UnplacedIn k key i
        found (j, c, q, t) =
            let o = placed j t.0 in
            let u = and_parts full (not (within k.edgecount (length (partners_at full rooms k j)) (before k j (length (partners_at full rooms k j))))) t.2 in
            let here : UnplacedIn k key j = record { compared = c; found = q; rises = o.0; inside = o.1; group = (t.1, not-true _ u.1) } in
            (u.0, rw t.3 at here)

        back : (full ≡ true) × UnplacedIn k key i → look_in full rooms k key ≡ refused (Refusal.Degrees i)
        back (all, t) =
            let d : ℕ = length (partners_at full rooms k i) in
            let rule = (refuse_fine (Refusal.Offset i) (misses i)).1 (not_missed i t.rises t.inside) in
            let faults = (group_fine i (group_of (group i))).1 t.group.0 in
            let test : unplaced i d ≡ true = rw (all, t.group.1) in
            look_back (Refusal.Degrees i) i t.compared t.found
            (fine_then _ (fine_both rule faults) ∙ bad_then _ ((refuse_bad (Refusal.Degrees i) (unplaced i d)).1 test))
