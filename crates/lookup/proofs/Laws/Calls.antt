-- Lookups by their ways out, as the code goes through them: f the file, o the record.
use Rattle.std.specs.Prelude.{◌≡◌, ℕ, ◌+◌, ◌*◌, ◌≤◌, ◌<◌, Bool, not, ◌||◌, length, ltb, leb, Result, Ok, Err, Option, Some, None}
use Rattle.std.proofs.Math.Path.{refl, ap, ap₂}
use Rattle.std.proofs.Common.{sym, ◌∙◌, arith, true≢false}
use Rattle.std.proofs.Math.Decide.{dec_le}
use mathlib.Core.List.{List, []}
use Rattle.std.proofs.Math.Bool.{true, false}
use borrow.Author.Tests.{lt-ltb, le-ltb, le-leb, lt-leb}
use Rattle.base.specs.Pick.{pick}
use Rattle.base.specs.Over.{over}
use Rattle.codes.specs.declared.ids.Id.{Id}
use Rattle.refusal.specs.declared.Refusal.{Refusal}
use Rattle.refusal.specs.Check.{◌⊳◌, refuse, Check}
use Rattle.refusal.proofs.Laws.Check.{bad_then, fine_then}
use Rattle.frame.specs.declared.Opened.{Opened}
use Rattle.frame.specs.Open.{Known, known_of, bytes_at}
use Rattle.index.specs.declared.keys.Found.{Found}
use Rattle.index.specs.Find.{find_in}
use Rattle.degrees.specs.Degrees.{capped}
use Rattle.group.specs.Group.{bytes_of}
use Rattle.lookup.specs.declared.Looked.{Looked}
use Rattle.lookup.specs.Lookup.{Outcome, found, absent, refused, outcome, Rooms, logs_from, marks_from, within, first_of, short, partners_at, before, look_check, look_group, on_found, look_in, looked_of, partners_left, logs_left, marks_left}
use Rattle.lookup.proofs.Laws.Groups.{seen_fault, seen_degree, seen_refusal}
use Rattle.lookup.specs.Calls.{alone, Alone, begins, ends, group, Whole}

outcome_bad : {c : Check} {r : Refusal} (x : Outcome) → c ≡ Err r → outcome c x ≡ refused r
unfolding outcome
outcome_bad x e = rw e

outcome_fine : {c : Check} (x : Outcome) → c ≡ (Ok tt) → outcome c x ≡ x
unfolding outcome
outcome_fine x e = rw e

refuse_true : (r : Refusal) {t : Bool} → t ≡ true → refuse r t ≡ Err r
refuse_true r e = rw e

refuse_false : (r : Refusal) {t : Bool} → t ≡ false → refuse r t ≡ (Ok tt)
refuse_false r e = rw e

-- a sum that is capped is the sum, and within the edge count what it was
cap_cases : (e d : ℕ) (x : Option ℕ) (s : ℕ) → capped e x ≡ Some s → (within e d x ≡ leb (s + d) e) × (first_of x ≡ s)
unfolding capped within first_of
cap_cases e d (Some t) s q =
    elim (dec_le t e) [
      | yes h ↦
          let r : Some t ≡ Some s = sym (simp (le-leb t e h)) ∙ q in
          let same : t ≡ s = cc in
          (ap (λ (m : ℕ). leb (m + d) e) same, same)
      | no h ↦
          let r : None ≡ Some s = sym (simp (lt-leb t e (omega arith))) ∙ q in
          let z : ◌≡◌ {A = ℕ} 0 1 = cc in absurd (omega arith)
    ]
cap_cases e d None s q = let z : ◌≡◌ {A = ℕ} 0 1 = cc in absurd (omega arith)

within_is : (e d : ℕ) (x : Option ℕ) (s : ℕ) → capped e x ≡ Some s → within e d x ≡ leb (s + d) e
within_is e d x s q = (cap_cases e d x s q).0

first_is : (e : ℕ) (x : Option ℕ) (s : ℕ) → capped e x ≡ Some s → first_of x ≡ s
first_is e x s q = (cap_cases e 0 x s q).1

within_bad : (e d : ℕ) (x : Option ℕ) → capped e x ≡ None → within e d x ≡ false
unfolding capped within
within_bad e d (Some t) q =
    elim (dec_le t e) [
      | yes h ↦
          let r : Some t ≡ None = sym (simp (le-leb t e h)) ∙ q in
          let z : ◌≡◌ {A = ℕ} 0 1 = cc in absurd (omega arith)
      | no h ↦ simp (lt-leb (t + d) e (omega arith))
    ]
within_bad e d None q = refl

pub capped_le : (e : ℕ) (x : Option ℕ) (s : ℕ) → capped e x ≡ Some s → s ≤ e
unfolding capped
capped_le e (Some t) s q =
    elim (dec_le t e) [
      | yes h ↦
          let r : Some t ≡ Some s = sym (simp (le-leb t e h)) ∙ q in
          let same : t ≡ s = cc in omega arith
      | no h ↦
          let r : None ≡ Some s = sym (simp (lt-leb t e (omega arith))) ∙ q in
          let z : ◌≡◌ {A = ℕ} 0 1 = cc in absurd (omega arith)
    ]
capped_le e None s q = let z : ◌≡◌ {A = ℕ} 0 1 = cc in absurd (omega arith)

-- ---- ways out of partners alone

pub alone_absent : (x : Outcome) (c : ℕ) (o : List ℕ) → x ≡ absent c → Alone x (Ok (Looked.Absent c)) o o
unfolding looked_of partners_left
alone_absent x c o e = record { answer = sym (ap looked_of e); partners = sym (ap (λ (y : Outcome). partners_left y o) e) }

pub alone_refused : (x : Outcome) (r : Refusal) (o : List ℕ) → x ≡ refused r → Alone x (Err r) o o
unfolding looked_of partners_left
alone_refused x r o e = record { answer = sym (ap looked_of e); partners = sym (ap (λ (y : Outcome). partners_left y o) e) }

pub alone_found : (x : Outcome) (i c d : ℕ) (ps : List Id) (o out : List ℕ) → x ≡ found i c ps [] [] → length ps ≡ d → out ≡ over (bytes_of ps) o
    → Alone x (Ok (Looked.Found d i c)) o out
unfolding looked_of partners_left
alone_found x i c d ps o out e l q = record {
  answer = sym (ap looked_of e ∙ ap (λ (n : ℕ). Ok (Looked.Found n i c)) l);
  partners = q ∙ sym (ap (λ (y : Outcome). partners_left y o) e);
}

-- ---- the search

module _ (full : Bool) (rooms : Rooms) (f : List ℕ) (o : Opened) where
  abbrev k : Known
  k = known_of f o

  pub look_absent : (key c : ℕ) → find_in (bytes_at f o.keys) o.keycount key ≡ Found.Absent c → look_in full rooms k key ≡ absent c
  unfolding look_in on_found known_of
  look_absent key c e = rw e

  pub look_at : (key i c : ℕ) → find_in (bytes_at f o.keys) o.keycount key ≡ Found.At i c → look_in full rooms k key ≡ look_group full rooms k i c
  unfolding look_in on_found known_of
  look_at key i c e = rw e

module _ (f : List ℕ) (o : Opened) (i : ℕ) where
  module _ (full : Bool) (rooms : Rooms) (c : ℕ) where
    pub look_fault : (r : Refusal) → (group f o i) ≡ Err r → look_group full rooms (known_of f o) i c ≡ refused r
    unfolding look_group look_check known_of
    look_fault r e = outcome_bad _ (bad_then _ (seen_refusal (bytes_at f o.partners) (begins f o i) (ends f o i) i r e))

  module _ (d : ℕ) (g : (group f o i) ≡ Ok d) where
    degree : length (partners_at true (alone 0) (known_of f o) i) ≡ d
    unfolding known_of
    degree = seen_degree (bytes_at f o.partners) (begins f o i) (ends f o i) i d g

    -- partners alone
    module _ (n c : ℕ) where
      alone_check : (t : Bool) → ltb n (16 * d) ≡ t → look_check false (alone n) (known_of f o) i d ≡ refuse (Refusal.Room d) t
      unfolding look_check short known_of
      alone_check t e =
          fine_then _ (seen_fault (bytes_at f o.partners) (begins f o i) (ends f o i) i d g)
          ∙ ap (refuse (Refusal.Room d)) (or_false (ltb n (16 * d)) ∙ e)
        where
          or_false : (b : Bool) → (b || false) ≡ b
          or_false true = refl
          or_false false = refl

      group_is : look_group false (alone n) (known_of f o) i c ≡ outcome (look_check false (alone n) (known_of f o) i d) (found i c (partners_at true (alone 0) (known_of f o) i) [] [])
      unfolding look_group
      group_is = ap (λ (m : ℕ). outcome (look_check false (alone n) (known_of f o) i m) (found i c (partners_at true (alone 0) (known_of f o) i) [] [])) degree

      pub partners_short : n < 16 * d → look_group false (alone n) (known_of f o) i c ≡ refused (Refusal.Room d)
      partners_short h = group_is ∙ outcome_bad _ (alone_check true (lt-ltb n (16 * d) h))

      pub partners_found : 16 * d ≤ n → look_group false (alone n) (known_of f o) i c ≡ found i c (partners_at true (alone 0) (known_of f o) i) [] []
      partners_found h = group_is ∙ outcome_fine _ (alone_check false (le-ltb n (16 * d) h))

    -- with log numbers and dead marks
    abbrev sum : Option ℕ
    sum = before (known_of f o) i d

    module _ (rooms : Rooms) (c : ℕ) where
      abbrev marks : List ℕ
      marks = pick o.marked (bytes_at f o.dead) []

      whole_is : look_group true rooms (known_of f o) i c
          ≡ outcome (look_check true rooms (known_of f o) i d) (found i c (partners_at true (alone 0) (known_of f o) i) (logs_from d (bytes_at f o.logs) (first_of sum)) (marks_from d marks (first_of sum)))
      unfolding look_group known_of
      whole_is =
          ap (λ (m : ℕ).
          outcome (look_check true rooms (known_of f o) i m)
          (found i c (partners_at true (alone 0) (known_of f o) i) (logs_from m (bytes_at f o.logs) (first_of (before (known_of f o) i m))) (marks_from m marks (first_of (before (known_of f o) i m)))))
          degree

      -- after the group's own faults
      rest : (t u : Bool) → within o.edgecount d sum ≡ t → short true rooms d ≡ u
          → look_check true rooms (known_of f o) i d ≡ (refuse (Refusal.Degrees i) (not t) ⊳ refuse (Refusal.Room d) u)
      unfolding look_check known_of
      rest t u p q =
          fine_then _ (seen_fault (bytes_at f o.partners) (begins f o i) (ends f o i) i d g)
          ∙ ap₂ (λ (x y : Bool). refuse (Refusal.Degrees i) (not x) ⊳ refuse (Refusal.Room d) y) p q

      pub whole_lost : capped o.edgecount sum ≡ None → look_group true rooms (known_of f o) i c ≡ refused (Refusal.Degrees i)
      whole_lost e = whole_is ∙ outcome_bad _ (rest false (short true rooms d) (within_bad o.edgecount d sum e) refl)

      module _ (s : ℕ) (e : capped o.edgecount sum ≡ Some s) where
        pub whole_over : o.edgecount < s + d → look_group true rooms (known_of f o) i c ≡ refused (Refusal.Degrees i)
        whole_over h =
            whole_is ∙ outcome_bad _ (rest false (short true rooms d) (within_is o.edgecount d sum s e ∙ lt-leb (s + d) o.edgecount h) refl)

        module _ (h : s + d ≤ o.edgecount) where
          pub whole_short : short true rooms d ≡ true → look_group true rooms (known_of f o) i c ≡ refused (Refusal.Room d)
          whole_short q =
              whole_is ∙ outcome_bad _ (rest true true (within_is o.edgecount d sum s e ∙ le-leb (s + d) o.edgecount h) q)

          pub whole_found : short true rooms d ≡ false
              → look_group true rooms (known_of f o) i c ≡ found i c (partners_at true (alone 0) (known_of f o) i) (logs_from d (bytes_at f o.logs) s) (marks_from d marks s)
          whole_found q =
              whole_is
              ∙ outcome_fine _ (rest true false (within_is o.edgecount d sum s e ∙ le-leb (s + d) o.edgecount h) q)
              ∙ ap (λ (m : ℕ). found i c (partners_at true (alone 0) (known_of f o) i) (logs_from d (bytes_at f o.logs) m) (marks_from d marks m)) (first_is o.edgecount sum s e)

pub whole_absent : (x : Outcome) (c : ℕ) (o l m : List ℕ) → x ≡ absent c → Whole x (Ok (Looked.Absent c)) o o l l m m
unfolding looked_of partners_left logs_left marks_left
whole_absent x c o l m e = record {
  answer = sym (ap looked_of e);
  partners = sym (ap (λ (y : Outcome). partners_left y o) e);
  numbers = sym (ap (λ (y : Outcome). logs_left y l) e);
  dead = sym (ap (λ (y : Outcome). marks_left y m) e);
}

pub whole_refused : (x : Outcome) (r : Refusal) (o l m : List ℕ) → x ≡ refused r → Whole x (Err r) o o l l m m
unfolding looked_of partners_left logs_left marks_left
whole_refused x r o l m e = record {
  answer = sym (ap looked_of e);
  partners = sym (ap (λ (y : Outcome). partners_left y o) e);
  numbers = sym (ap (λ (y : Outcome). logs_left y l) e);
  dead = sym (ap (λ (y : Outcome). marks_left y m) e);
}

pub whole_given : (x : Outcome) (i c d : ℕ) (ps : List Id) (ls ms o out l logs m marks : List ℕ) → x ≡ found i c ps ls ms → length ps ≡ d
    → out ≡ over (bytes_of ps) o → logs ≡ over ls l → marks ≡ over ms m → Whole x (Ok (Looked.Found d i c)) o out l logs m marks
unfolding looked_of partners_left logs_left marks_left
whole_given x i c d ps ls ms o out l logs m _ e n p q r = record {
  answer = sym (ap looked_of e ∙ ap (λ (t : ℕ). Ok (Looked.Found t i c)) n);
  partners = p ∙ sym (ap (λ (y : Outcome). partners_left y o) e);
  numbers = q ∙ sym (ap (λ (y : Outcome). logs_left y l) e);
  dead = r ∙ sym (ap (λ (y : Outcome). marks_left y m) e);
}

-- the outputs: all have room, or one is short
module _ (rooms : Rooms) (d : ℕ) where
  pub short_bytes : rooms.bytes < 16 * d → short true rooms d ≡ true
  unfolding short
  short_bytes h = simp (lt-ltb rooms.bytes (16 * d) h)

  module _ (b : 16 * d ≤ rooms.bytes) where
    pub short_logs : rooms.logs < d → short true rooms d ≡ true
    unfolding short
    short_logs h = simp (le-ltb rooms.bytes (16 * d) b, lt-ltb rooms.logs d h)

    module _ (l : d ≤ rooms.logs) where
      pub short_last : short true rooms d ≡ ltb rooms.marks d
      unfolding short
      short_last = simp (le-ltb rooms.bytes (16 * d) b, le-ltb rooms.logs d l)

      pub short_marks : rooms.marks < d → short true rooms d ≡ true
      short_marks h = short_last ∙ lt-ltb rooms.marks d h

      pub short_none : d ≤ rooms.marks → short true rooms d ≡ false
      short_none h = short_last ∙ le-ltb rooms.marks d h

  -- where none is short, all have room
  pub none_short : short true rooms d ≡ false → (16 * d ≤ rooms.bytes) × (d ≤ rooms.logs) × (d ≤ rooms.marks)
  none_short e =
      elim (dec_le (16 * d) rooms.bytes) [
        | yes b ↦ elim (dec_le d rooms.logs) [
          | yes l ↦ elim (dec_le d rooms.marks) [
            | yes m ↦ (b, l, m)
            | no m ↦ absurd (true≢false (sym (short_marks b l (omega arith)) ∙ e))
          ]
          | no l ↦ absurd (true≢false (sym (short_logs b (omega arith)) ∙ e))
        ]
        | no b ↦ absurd (true≢false (sym (short_bytes (omega arith)) ∙ e))
      ]

-- an outcome by another name
pub whole_as : {x y : Outcome} {r : Result Looked Refusal} {o out l logs m marks : List ℕ} → x ≡ y → Whole y r o out l logs m marks → Whole x r o out l logs m marks
whole_as e w = rw e w

pub alone_as : {x y : Outcome} {r : Result Looked Refusal} {o out : List ℕ} → x ≡ y → Alone y r o out → Alone x r o out
alone_as e w = rw e w
