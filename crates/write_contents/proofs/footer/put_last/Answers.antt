use mathlib.Core.Path.{◌≡◌, refl, sym, ap, ap₂, ◌∙◌}
use Prim.Native.Nat.{ℕ, ◌+◌, ◌≤◌}
use native.Mathlib.Omega.{arith}
use mathlib.Core.List.{List, [], ◌++◌, append-nil}
use mathlib.Core.Bool.{Bool, true, false}
use lib.ListN.{length}
use Rattle.base.specs.Pick.{pick}
use Rattle.base.specs.Put as P
use Rattle.base.specs.Put.{Put, Left}
use Rattle.frame.specs.Kind as kind
use Rattle.frame.specs.Layout.{raw_section, entry}
use Rattle.write_image.specs.Image.{fenced, indexed}
use Rattle.write_frame.specs.Standing.{entry_in, entries_in, total, part_below}
use Rattle.write_plan.specs.Size.{tomb_size, fences_size, starts_size}
use Rattle.write_plan.specs.Parts.{last_by, total_last}
use Rattle.write_contents.specs.Footer.{length_entry_in, last_entries}
use Rattle.write_contents.proofs.footer.put_last.Goals as goal

most_entry : (b : Bool) (s : List ℕ) (k start len : ℕ) → length (pick b (entry_in s k start len) []) ≤ 28
most_entry true s k start len = let e = length_entry_in s k start len in omega arith
most_entry false s k start len = omega arith

module _ (o : List ℕ) (at start n keys : ℕ) (dead : Bool) (t : ℕ) (et : t ≡ tomb_size n dead) (f : ℕ) (ef : f ≡ fences_size keys)
    (below : start + total (last_by n dead keys) ≤ at) (room : at + length (entries_in o start (last_by n dead keys)) ≤ length o) (most : at ≤ 2147483648) where
  abbrev whole : List ℕ
  whole = entries_in o start (last_by n dead keys)

  abbrev tombs : List ℕ
  tombs = pick dead (entry_in o kind.tombstones start (tomb_size n dead)) []

  -- in the output as it is then
  abbrev fences : List ℕ → List ℕ
  fences s = pick (fenced keys) (entry_in s kind.fences (start + t) (fences_size keys)) []

  abbrev starts : List ℕ → List ℕ
  starts s = pick (indexed keys) (entry_in s kind.starts (start + t + f) (starts_size keys)) []

  ends : start + t + f + starts_size keys ≤ at
  ends = let l = total_last n dead keys in omega arith

  todo : Left o at (tombs ++ (fences o ++ starts o)) o at whole
  todo =
      P.is
      (last_entries o start n dead keys
      ∙ ap₂ (λ (x y : ℕ). tombs
      ++ (pick (fenced keys) (entry_in o kind.fences (start + x) (fences_size keys)) [] ++ pick (indexed keys) (entry_in o kind.starts (start + x + y) (starts_size keys)) []))
      (sym et) (sym ef))
      (P.start o at whole)

  room₀ : (start + tomb_size n dead ≤ length o) × (at + length tombs ≤ length o) × (at ≤ 4294967296)
  room₀ = let e = ends in let r = P.room tombs (fences o ++ starts o) todo room in (omega arith, omega arith, omega arith)

  module _ {o₁ : List ℕ} {a₁ : ℕ} (p : Put o o₁ at a₁ tombs) where
    l₁ : Left o₁ a₁ (fences o₁ ++ starts o) o at whole
    l₁ =
        let e = ends in
        let q = p.place in
        let kept : fences o₁ ≡ fences o =
        ap (λ (x : List ℕ). pick (fenced keys) (entry (start + t) (raw_section kind.fences x)) [])
        (part_below (P.put todo p) (start + t) (start + t + fences_size keys) (omega arith) (omega arith)) in
        P.is (ap (λ (x : List ℕ). x ++ starts o) (sym kept)) (P.put todo p)

    room₁ : (start + t + fences_size keys ≤ length o₁) × (a₁ + length (fences o₁) ≤ length o₁) × (a₁ ≤ 4294967296)
    room₁ =
        let e = ends in
        let s = l₁.same in
        let q = p.place in
        let r = P.room (fences o₁) (starts o) l₁ room in
        let m = most_entry dead o kind.tombstones start (tomb_size n dead) in
        (omega arith, omega arith, omega arith)

    module _ {o₂ : List ℕ} {a₂ : ℕ} (q : Put o₁ o₂ a₁ a₂ (fences o₁)) where
      l₂ : Left o₂ a₂ (starts o₂ ++ []) o at whole
      l₂ =
          let e = ends in
          let u = p.place in
          let v = q.place in
          let kept : starts o₂ ≡ starts o =
          ap (λ (x : List ℕ). pick (indexed keys) (entry (start + t + f) (raw_section kind.starts x)) [])
          (part_below (P.put l₁ q) (start + t + f) (start + t + f + starts_size keys) e (omega arith)) in
          P.is (sym kept ∙ sym (append-nil (starts o₂))) (P.put l₁ q)

      room₂ : (start + t + f + starts_size keys ≤ length o₂) × (a₂ + length (starts o₂) ≤ length o₂) × (a₂ ≤ 4294967296)
      room₂ =
          let e = ends in
          let s = l₂.same in
          let u = p.place in
          let v = q.place in
          let r = P.room (starts o₂) [] l₂ room in
          let m = most_entry dead o kind.tombstones start (tomb_size n dead) in
          let k = most_entry (fenced keys) o₁ kind.fences (start + t) (fences_size keys) in
          (omega arith, omega arith, omega arith)

      done : {o₃ : List ℕ} {a₃ : ℕ} → Put o₂ o₃ a₂ a₃ (starts o₂) → Put o o₃ at a₃ whole
      done r = P.end refl (P.put l₂ r)

pub overflow_add-after_tombs : goal.overflow_add-after_tombs
overflow_add-after_tombs c =
    let a = c.args in
    let l = total_last a.plan.edges a.plan.dead a.plan.keys in
    let p = c.requires in omega (arith, p.2, p.4, c.tomb_size.ensures.0)

pub overflow_add-after_fences : goal.overflow_add-after_fences
overflow_add-after_fences c = let a = c.args in let e = ends a.out.now a.at a.start a.plan.edges a.plan.keys a.plan.dead _ c.tomb_size.ensures.0 _ c.fences_size.ensures.0 c.requires.2 c.requires.3 c.requires.4 in omega arith

pub put_tombs_entry-p-requires : goal.put_tombs_entry-p-requires
put_tombs_entry-p-requires c = let a = c.args in let r = room₀ a.out.now a.at a.start a.plan.edges a.plan.keys a.plan.dead _ c.tomb_size.ensures.0 _ c.fences_size.ensures.0 c.requires.2 c.requires.3 c.requires.4 in (c.requires.0, r.0, r.1, r.2)

pub put_fences_entry-q-requires : goal.put_fences_entry-q-requires
put_fences_entry-q-requires c = let a = c.args in let r = room₁ a.out.now a.at a.start a.plan.edges a.plan.keys a.plan.dead _ c.tomb_size.ensures.0 _ c.fences_size.ensures.0 c.requires.2 c.requires.3 c.requires.4 c.put_tombs_entry-p.ensures in (c.requires.1, r.0, r.1, r.2)

pub put_starts_entry-requires : goal.put_starts_entry-requires
put_starts_entry-requires c = let a = c.args in let r = room₂ a.out.now a.at a.start a.plan.edges a.plan.keys a.plan.dead _ c.tomb_size.ensures.0 _ c.fences_size.ensures.0 c.requires.2 c.requires.3 c.requires.4 c.put_tombs_entry-p.ensures c.put_fences_entry-q.ensures in (c.requires.1, r.0, r.1, r.2)

pub returns : goal.returns
returns c = let a = c.args in done a.out.now a.at a.start a.plan.edges a.plan.keys a.plan.dead _ c.tomb_size.ensures.0 _ c.fences_size.ensures.0 c.requires.2 c.requires.3 c.requires.4 c.put_tombs_entry-p.ensures c.put_fences_entry-q.ensures c.put_starts_entry.ensures
