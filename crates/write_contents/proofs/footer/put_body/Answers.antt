use mathlib.Core.Path.{◌≡◌, refl, sym, ap, ap₂, subst, ◌∙◌}
use Prim.Native.Nat.{ℕ, ◌+◌, ◌*◌, ◌≤◌}
use native.Mathlib.Omega.{arith}
use mathlib.Core.List.{List, [], ◌++◌, append-nil}
use mathlib.Core.Bool.{Bool}
use lib.ListN.{length, length-append}
use lib.Seq.{sets}
use Rattle.base.specs.Put as P
use Rattle.base.specs.Put.{Put, Left}
use Rattle.codes.specs.Little.{le_bytes}
use Rattle.codes.specs.Little.Laws.{length_le_bytes}
use Rattle.write_frame.specs.Standing.{entries_in, total, entries_below}
use Rattle.write_frame.specs.Runs.{count_bytes, length_counts}
use Rattle.write_plan.specs.Size.{sections_size, section_count}
use Rattle.write_plan.specs.Parts.{four, total_four, last_by, total_last}
use Rattle.write_contents.specs.Footer.{body_in, body_run, length_four}
use Rattle.write_contents.proofs.footer.put_body.Goals as goal

module _ (o : List ℕ) (at keys w partners n : ℕ) (dead : Bool) (count : ℕ) (ec : count ≡ section_count keys dead) (most : at ≤ 1073741824) (below : 64 + sections_size keys w partners n dead ≤ at)
    (room : at + length (body_in o keys w partners n dead) ≤ length o) where
  abbrev whole : List ℕ
  whole = body_in o keys w partners n dead

  abbrev firsts : List ℕ
  firsts = entries_in o 64 (four keys w partners n)

  abbrev start : ℕ
  start = 64 + (16 * keys + ((keys + 1) * w + (partners + 8 * n)))

  abbrev lasts : List ℕ
  lasts = entries_in o start (last_by n dead keys)

  abbrev counts : List ℕ
  counts = count_bytes keys n (8 * w)

  todo : Left o at (le_bytes 2 count ++ (firsts ++ (lasts ++ counts))) o at whole
  todo =
      P.is
      (body_run o keys w partners n dead
      ∙ ap₂ (λ (x y : ℕ). le_bytes 2 x ++ (firsts ++ (entries_in o (64 + y) (last_by n dead keys) ++ counts))) (sym ec) (total_four keys w partners n))
      (P.start o at whole)

  sizes : start + total (last_by n dead keys) ≤ at
  unfolding sections_size
  sizes = let l = total_last n dead keys in omega arith

  start_low : start ≤ at
  start_low = omega (arith, sizes)

  room₀ : at + 2 + 112 ≤ length o
  room₀ =
      let r = P.room (le_bytes 2 count) (firsts ++ (lasts ++ counts)) todo room in
      omega (arith, length_le_bytes 2 count, length-append firsts (lasts ++ counts), length_four o keys w partners n)

  module _ {o₁ : List ℕ} (e : o₁ ≡ sets o at (le_bytes 2 count)) where
    l₁ : Left o₁ (at + 2) (firsts ++ (lasts ++ counts)) o at whole
    l₁ =
        let p : Put o o₁ at (at + 2) (le_bytes 2 count) = record { place = ap (λ (t : ℕ). at + t) (sym (length_le_bytes 2 count)); bytes = e } in P.put todo p

    room₁ : (start ≤ at + 2) × (at + 2 + 112 ≤ length o₁) × (at + 2 ≤ 2147483648)
    room₁ = let s = l₁.same in let z = start_low in (omega arith, omega (arith, room₀), omega arith)

    module _ {o₂ : List ℕ} {a₂ : ℕ} (p : Put o₁ o₂ (at + 2) a₂ (entries_in o₁ 64 (four keys w partners n))) where
      same_firsts : entries_in o₁ 64 (four keys w partners n) ≡ firsts
      same_firsts = let t = total_four keys w partners n in entries_below l₁ (four keys w partners n) 64 (omega (arith, start_low)) (omega arith)

      l₂ : Left o₂ a₂ (lasts ++ counts) o at whole
      l₂ = P.put l₁ (subst (Put o₁ o₂ (at + 2) a₂) same_firsts p)

      at₂ : a₂ ≡ at + 114
      at₂ = p.place ∙ ap (λ (t : ℕ). at + 2 + t) (length_four o₁ keys w partners n) ∙ omega arith

      same_lasts : entries_in o₂ start (last_by n dead keys) ≡ lasts
      same_lasts = let q = at₂ in entries_below l₂ (last_by n dead keys) start sizes (omega arith)

      room₂ : (start + total (last_by n dead keys) ≤ a₂) × (a₂ + length (entries_in o₂ start (last_by n dead keys)) ≤ length o₂) × (a₂ ≤ 2147483648)
      room₂ =
          let q = at₂ in
          let z = sizes in
          let x = ap length same_lasts in
          let r = P.room lasts counts l₂ room in
          (omega arith, omega arith, omega arith)

      module _ {o₃ : List ℕ} {a₃ : ℕ} (q : Put o₂ o₃ a₂ a₃ (entries_in o₂ start (last_by n dead keys))) where
        l₃ : Left o₃ a₃ (counts ++ []) o at whole
        l₃ = P.is (sym (append-nil counts)) (P.put l₂ (subst (Put o₂ o₃ a₂ a₃) same_lasts q))

        room₃ : a₃ + 17 ≤ length o₃
        room₃ = omega (arith, P.room counts [] l₃ room, length_counts keys n (8 * w))

        done : {o₄ : List ℕ} {a₄ : ℕ} → Put o₃ o₄ a₃ a₄ counts → Put o o₄ at a₄ whole
        done r = P.end refl (P.put l₃ r)

pub put_le-requires : goal.put_le-requires
put_le-requires c = let a = c.args in let r = room₀ a.out.now a.at a.plan.keys a.plan.width a.plan.partners a.plan.edges a.plan.dead _ c.section_count-count.ensures.0 c.requires.3 c.requires.4 c.requires.5 in omega arith

pub put_four-p-requires : goal.put_four-p-requires
put_four-p-requires c = let a = c.args in let r = room₁ a.out.now a.at a.plan.keys a.plan.width a.plan.partners a.plan.edges a.plan.dead _ c.section_count-count.ensures.0 c.requires.3 c.requires.4 c.requires.5 c.put_le.ensures in (r.0, r.1, r.2, c.requires.1)

pub overflow_mul-start-2 : goal.overflow_mul-start-2
overflow_mul-start-2 c = let a = c.args in let z = start_low a.out.now a.at a.plan.keys a.plan.width a.plan.partners a.plan.edges a.plan.dead _ c.section_count-count.ensures.0 c.requires.3 c.requires.4 c.requires.5 in omega (arith, c.requires.3)

pub overflow_add-start-2 : goal.overflow_add-start-2
overflow_add-start-2 c = let a = c.args in let z = start_low a.out.now a.at a.plan.keys a.plan.width a.plan.partners a.plan.edges a.plan.dead _ c.section_count-count.ensures.0 c.requires.3 c.requires.4 c.requires.5 in omega (arith, c.requires.3)

pub overflow_add-start-3 : goal.overflow_add-start-3
overflow_add-start-3 c = let a = c.args in let z = start_low a.out.now a.at a.plan.keys a.plan.width a.plan.partners a.plan.edges a.plan.dead _ c.section_count-count.ensures.0 c.requires.3 c.requires.4 c.requires.5 in omega (arith, c.requires.3)

pub overflow_add-start-4 : goal.overflow_add-start-4
overflow_add-start-4 c = let a = c.args in let z = start_low a.out.now a.at a.plan.keys a.plan.width a.plan.partners a.plan.edges a.plan.dead _ c.section_count-count.ensures.0 c.requires.3 c.requires.4 c.requires.5 in omega (arith, c.requires.3)

pub overflow_add-start-5 : goal.overflow_add-start-5
overflow_add-start-5 c = let a = c.args in let z = start_low a.out.now a.at a.plan.keys a.plan.width a.plan.partners a.plan.edges a.plan.dead _ c.section_count-count.ensures.0 c.requires.3 c.requires.4 c.requires.5 in omega (arith, c.requires.3)

pub put_last-q-requires : goal.put_last-q-requires
put_last-q-requires c = let a = c.args in let r = room₂ a.out.now a.at a.plan.keys a.plan.width a.plan.partners a.plan.edges a.plan.dead _ c.section_count-count.ensures.0 c.requires.3 c.requires.4 c.requires.5 c.put_le.ensures c.put_four-p.ensures in (c.requires.2, c.requires.0, r.0, r.1, r.2)

pub put_counts-requires : goal.put_counts-requires
put_counts-requires c = let a = c.args in room₃ a.out.now a.at a.plan.keys a.plan.width a.plan.partners a.plan.edges a.plan.dead _ c.section_count-count.ensures.0 c.requires.3 c.requires.4 c.requires.5 c.put_le.ensures c.put_four-p.ensures c.put_last-q.ensures

pub returns : goal.returns
returns c = let a = c.args in done a.out.now a.at a.plan.keys a.plan.width a.plan.partners a.plan.edges a.plan.dead _ c.section_count-count.ensures.0 c.requires.3 c.requires.4 c.requires.5 c.put_le.ensures c.put_four-p.ensures c.put_last-q.ensures c.put_counts.ensures
