-- A lookup by the start index: when it gives 19, exactly, where the group's log numbers begin, and that it reads no other group.
use Rattle.std.proofs.Math.Path.{◌≡◌, refl, sym, ap}
use Rattle.std.proofs.Common.{◌∙◌, inl, inr, ⊎_elim, arith, eq-eqb, ne_eqb, le-leb}
use Rattle.std.specs.Prelude.{◌↔◌, ◌⊎◌, Bool, false, not, ◌&&◌, ◌||◌, Option, Ok, Some, Err}
use Prim.Native.Nat.{ℕ, ◌+◌, ◌/◌, ◌<◌}
use Rattle.std.proofs.Math.Decide.{ℕ_discrete, dec_lt}
use mathlib.Core.List.{List, []}
use Rattle.std.proofs.Math.Bool.{true}
use Rattle.std.proofs.Math.ListN.{length}
use Rattle.std.proofs.Math.Dec.{ltb, leb}
use Rattle.std.proofs.lemmas.Bool.{lt-leb}
use Rattle.base.specs.Pick.{pick}
use Rattle.base.specs.Over.{part}
use Rattle.codes.specs.declared.ids.Id.{Id}
use Rattle.refusal.specs.declared.Refusal.{Refusal}
use Rattle.refusal.specs.Check.{◌⊳◌, refuse, Check}
use Rattle.refusal.proofs.Laws.Check.{fine_parts, good_parts}
use Rattle.frame.specs.declared.Opened.{Opened}
use Rattle.frame.specs.Open.{Known, known_of, bytes_at, offset_at, start_at}
use Rattle.index.specs.declared.keys.Found.{Found}
use Rattle.index.specs.Find.{find_in}
use Rattle.degrees.specs.Degrees.{misplaced, edges_before, start_of}
use Rattle.group.specs.Group.{group_of, partners_of}
use Rattle.lookup.specs.Lookup.{Outcome, found, outcome, Rooms, group_check, group_fault, before, within, first_of, logs_from, marks_from, short, offset, partners_at, look_check, look_group, on_found, look_in}
use Rattle.lookup.specs.Starts.{SameGroup, SameBut}

clash : {t : Bool} → t ≡ true → t ≡ false → ⊥
clash a b = let q : ◌≡◌ {A = ℕ} 0 1 = cc in omega arith

module _ (k : Known) (there : k.indexed ≡ true) (i d : ℕ) where
  abbrev begin : ℕ
  begin = start_at k.starts i

  abbrev next : ℕ
  next = start_at k.starts (i + 1)

  by_index : before k i d ≡ start_of k.starts i d
  unfolding before
  by_index = rw there

  unlike_bad : (begin + d ≡ next → ⊥) → within k.edgecount d (before k i d) ≡ false
  unfolding start_of within
  unlike_bad h = ap (within k.edgecount d) by_index ∙ rw (ne_eqb (begin + d) next h)

  like : begin + d ≡ next → before k i d ≡ Some begin
  unfolding start_of
  like h = by_index ∙ rw (eq-eqb (begin + d) next h)

  like_ends : begin + d ≡ next → within k.edgecount d (before k i d) ≡ leb next k.edgecount
  unfolding within
  like_ends h = ap (within k.edgecount d) (like h) ∙ ap (λ (t : ℕ). leb t k.edgecount) h

  -- "19 is then given for a difference unlike the degree, or an end above the edge count", in mathematical numbers
  abbrev pub Unlike : Type 0
  Unlike = (start_at k.starts i + d ≡ start_at k.starts (i + 1) → ⊥) ⊎ (k.edgecount < start_at k.starts (i + 1))

  pub unlike_exactly : (within k.edgecount d (before k i d) ≡ false) ↔ Unlike
  unlike_exactly = (
    λ e.
        elim (ℕ_discrete (begin + d) next) [
          | yes h ↦ elim (dec_lt k.edgecount next) [
            | yes g ↦ inr g
            | no g ↦ absurd (clash (like_ends h ∙ le-leb next k.edgecount (omega arith)) e)
          ]
          | no h ↦ inl h
        ],
    ⊎_elim unlike_bad
        (λ g.
        elim (ℕ_discrete (begin + d) next) [
          | yes h ↦ like_ends h ∙ lt-leb next k.edgecount g
          | no h ↦ unlike_bad h
        ]),
  )

  -- otherwise "A lookup takes its start there"
  pub starts_there : within k.edgecount d (before k i d) ≡ true → first_of (before k i d) ≡ start_at k.starts i
  unfolding first_of
  starts_there e =
      elim (ℕ_discrete (begin + d) next) [
        | yes h ↦ ap first_of (like h)
        | no h ↦ absurd (clash e (unlike_bad h))
      ]

-- what is known of the start index is the record's own
pub known_starts : (f : List ℕ) (o : Opened) → ((known_of f o).indexed ≡ o.indexed) × (o.indexed ≡ true → (known_of f o).starts ≡ bytes_at f o.starts)
unfolding known_of
known_starts f o = (refl, λ m. rw m)

-- "A record without the index sums degrees as before, also where the file has the section"
pub summed_there : (k : Known) → k.indexed ≡ false → (i d : ℕ) → before k i d ≡ edges_before k.partners k.offsets (k.bits / 8) i
unfolding before
summed_there k m i d = rw m

-- a lookup of the group g, of which `misses` says whether its offsets fall or leave the partners, and whose edges begin at `sum`
abbrev seen : Bool → Rooms → ℕ → ℕ → Bool → List ℕ → (Option ℕ) → ℕ → List ℕ → List ℕ → Outcome
seen full rooms i c misses g sum edges logs dead =
    let ps : List Id = partners_of (group_of g) in
    let d : ℕ = length ps in
    outcome
    ((refuse (Refusal.Offset i) misses ⊳ group_check i (group_of g))
    ⊳ refuse (Refusal.Degrees i) (full && not (within edges d sum))
    ⊳ refuse (Refusal.Room d) (short full rooms d))
    (found i c ps (pick full (logs_from d logs (first_of sum)) []) (pick full (marks_from d dead (first_of sum)) []))

module _ (full : Bool) (rooms : Rooms) where
  is_seen : (k : Known) → k.indexed ≡ true → (i c : ℕ)
      → look_group full rooms k i c
      ≡ seen full rooms i c (misplaced k.partners (offset_at k.offsets (k.bits / 8) i) (offset_at k.offsets (k.bits / 8) (i + 1)))
      (part k.partners (offset_at k.offsets (k.bits / 8) i) (offset_at k.offsets (k.bits / 8) (i + 1)))
      (start_of k.starts i (length (partners_of (group_of (part k.partners (offset_at k.offsets (k.bits / 8) i) (offset_at k.offsets (k.bits / 8) (i + 1)))))))
      k.edgecount k.logs k.dead
  unfolding look_group look_check group_fault before
  is_seen k there i c = rw there

  pub no_other : (k j : Known) → k.indexed ≡ true → j.indexed ≡ true → SameBut k j → (key : ℕ)
      → ((i c : ℕ) → find_in k.keys k.keycount key ≡ Found.At i c → SameGroup k j i) → look_in full rooms k key ≡ look_in full rooms j key
  unfolding look_in on_found
  no_other k j a b s key same =
      go (find_in k.keys k.keycount key) refl ∙ ap (on_found full rooms j) (λ t. find_in (s.keys t) (s.keycount t) key)
    where
      go : (x : Found) → find_in k.keys k.keycount key ≡ x → on_found full rooms k x ≡ on_found full rooms j x
      go (Found.At i c) e =
          let g = same i c e in
          is_seen k a i c
          ∙ (λ t.
          seen full rooms i c (ltb (g.ends t) (g.begins t) || ltb (g.size t) (g.ends t)) (g.bytes t)
          (start_of (s.starts t) i (length (partners_of (group_of (g.bytes t))))) (s.edgecount t) (s.logs t) (s.dead t))
          ∙ sym (is_seen j b i c)
      go (Found.Absent c) e = refl

-- ---- what is found begins where the start index says

-- an outcome that is found is the one that was meant, and nothing was refused
found_is : (c : Check) (x : Outcome) {i n : ℕ} {ps : List Id} {ls ms : List ℕ} → outcome c x ≡ found i n ps ls ms → (c ≡ (Ok tt)) × (x ≡ found i n ps ls ms)
unfolding outcome
found_is (Ok _) x e = (refl, e)
found_is (Err r) x e = let z : ◌≡◌ {A = ℕ} 0 1 = cc in absurd (omega arith)

module _ (rooms : Rooms) (k : Known) (there : k.indexed ≡ true) where
  group_taken : (i c : ℕ) {j n : ℕ} {ps : List Id} {ls ms : List ℕ} → look_group true rooms k i c ≡ found j n ps ls ms
      → (ls ≡ logs_from (length ps) k.logs (start_at k.starts j)) × (ms ≡ marks_from (length ps) k.dead (start_at k.starts j))
  unfolding look_group look_check
  group_taken i c {j = j} {ps = ps} {ls = ls} {ms = ms} e =
      let qs : List Id = partners_at true rooms k i in
      let d : ℕ = length qs in
      let x = found_is (look_check true rooms k i d) _ e in
      let late = (fine_parts (group_fault k.partners (offset true rooms k i) (offset true rooms k (i + 1)) i) _ x.0).1 in
      let good : within k.edgecount d (before k i d) ≡ true = good_parts (Refusal.Degrees i) (within k.edgecount d (before k i d)) (fine_parts (refuse (Refusal.Degrees i) (not (within k.edgecount d (before k i d)))) _ late).0 in
      let at = starts_there k there i d good in
      let same : i ≡ j = cc x.1 in
      let list : qs ≡ ps = cc x.1 in
      let logs : logs_from d k.logs (first_of (before k i d)) ≡ ls = cc x.1 in
      let marks : marks_from d k.dead (first_of (before k i d)) ≡ ms = cc x.1 in
      (sym logs ∙ (λ t. logs_from (length (list t)) k.logs ((at ∙ ap (start_at k.starts) same) t)), sym marks ∙ (λ t. marks_from (length (list t)) k.dead ((at ∙ ap (start_at k.starts) same) t)))

  -- "A lookup takes its start there": the log numbers and marks of an answer are those from the group's own entry on
  pub taken : (key : ℕ) {i c : ℕ} {ps : List Id} {ls ms : List ℕ} → look_in true rooms k key ≡ found i c ps ls ms
      → (ls ≡ logs_from (length ps) k.logs (start_at k.starts i)) × (ms ≡ marks_from (length ps) k.dead (start_at k.starts i))
  unfolding look_in on_found
  taken key {i = i} {c = n} {ps = ps} {ls = ls} {ms = ms} = go (find_in k.keys k.keycount key)
    where
      go : (x : Found) → on_found true rooms k x ≡ found i n ps ls ms → (ls ≡ logs_from (length ps) k.logs (start_at k.starts i)) × (ms ≡ marks_from (length ps) k.dead (start_at k.starts i))
      go (Found.At j c) e = group_taken j c e
      go (Found.Absent c) e = let z : ◌≡◌ {A = ℕ} 0 1 = cc in absurd (omega arith)
