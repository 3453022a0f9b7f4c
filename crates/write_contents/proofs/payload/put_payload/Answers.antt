use mathlib.Core.Path.{◌≡◌, refl, sym, ap, ◌∙◌}
use Prim.Native.Nat.{ℕ, ◌+◌, ◌*◌, ◌≤◌}
use native.Mathlib.Omega.{arith}
use mathlib.Core.List.{List, [], ◌++◌, append-nil, append_assoc}
use mathlib.Core.Bool.{Bool}
use lib.ListN.{length, length-append}
use Rattle.base.specs.Pick.{pick}
use Rattle.base.specs.Put as P
use Rattle.base.specs.Put.{Put, Left}
use Rattle.codes.specs.declared.ids.Id.{Id}
use Rattle.batch.specs.declared.Edge.{Edge}
use Rattle.frame.specs.Layout.{payload}
use Rattle.batch_groups.specs.Groups.{Group, groups_of, Grouped}
use Rattle.write_image.specs.Image.{keys_in, key_bytes, offset_bytes, partner_bytes, log_bytes, tomb_bytes, fences_of, fenced, start_bytes, indexed, sections_by}
use Rattle.write_image.specs.Image.Laws.{length_keys}
use Rattle.write_sections.specs.Ids.{ids_at}
use Rattle.batch.specs.Batch.{edges_of}
use Rattle.write_plan.specs.Parts.{payload_parts}
use Rattle.write_contents.specs.Payload.{keys_stand}
use Rattle.write_contents.proofs.payload.put_payload.Goals as goal

module _ (es : List Edge) (keys w : ℕ) (dead : Bool) (o : List ℕ) (at : ℕ) (ek : keys ≡ length (groups_of es)) (g : Grouped 0 (groups_of es))
    (room : at + length (payload (sections_by keys w dead es (groups_of es))) ≤ length o) where
  abbrev gs : List Group
  gs = groups_of es

  abbrev whole : List ℕ
  whole = payload (sections_by keys w dead es gs)

  abbrev rest : List ℕ
  rest = offset_bytes w keys 0 gs ++ partner_bytes keys gs

  abbrev firsts : List ℕ
  firsts = key_bytes gs ++ rest

  abbrev tombs : List ℕ
  tombs = pick dead (tomb_bytes es) []

  abbrev fences : List ℕ
  fences = pick (fenced keys) (fences_of (keys_in gs)) []

  abbrev starts : List ℕ
  starts = pick (indexed keys) (start_bytes gs) []

  abbrev lasts : List ℕ
  lasts = fences ++ starts

  -- what has a part for each edge
  abbrev marked : List ℕ
  marked = log_bytes es ++ tombs

  parts : whole ≡ firsts ++ (marked ++ lasts)
  parts = payload_parts keys w dead es gs ∙ ap (λ (t : List ℕ). firsts ++ t) (sym (append_assoc (log_bytes es) tombs lasts))

  todo : Left o at (firsts ++ (marked ++ lasts)) o at whole
  todo = P.is parts (P.start o at whole)

  room₀ : at + length firsts ≤ length o
  room₀ = omega (arith, P.room firsts (marked ++ lasts) todo room)

  module _ {o₁ : List ℕ} {a₁ : ℕ} (p₁ : Put o o₁ at a₁ firsts) where
    l₁ : Left o₁ a₁ (marked ++ lasts) o at whole
    l₁ = P.put todo p₁

    room₁ : a₁ + length marked ≤ length o₁
    room₁ = omega (arith, P.room marked lasts l₁ room)

    module _ {o₂ : List ℕ} {a₂ : ℕ} (p₂ : Put o₁ o₂ a₁ a₂ marked) where
      abbrev more : List ℕ
      more = rest ++ marked

      split : whole ≡ (key_bytes gs ++ more) ++ lasts
      split =
          parts
          ∙ append_assoc (key_bytes gs) rest (marked ++ lasts)
          ∙ sym (append_assoc (key_bytes gs) more lasts ∙ ap (λ (t : List ℕ). key_bytes gs ++ t) (append_assoc rest marked lasts))

      l₂ : Left o₂ a₂ lasts o at whole
      l₂ = P.put l₁ p₂

      at₂ : a₂ ≡ at + length (key_bytes gs ++ more)
      at₂ = let q = l₂.place in let s = ap length split ∙ length-append (key_bytes gs ++ more) lasts in omega arith

      keys_there : ids_at keys o₂ at ≡ keys_in gs
      keys_there = keys_stand gs more lasts g split l₂ at₂ room keys ek

      keys_below : at + 16 * keys ≤ a₂
      keys_below = let q = at₂ in let s = length-append (key_bytes gs) more in let k = length_keys gs in omega arith

      left : Left o₂ a₂ (pick (fenced keys) (fences_of (ids_at keys o₂ at)) [] ++ starts) o at whole
      left = P.is (ap (λ (t : List Id). pick (fenced keys) (fences_of t) [] ++ starts) (sym keys_there)) l₂

      room₂ : a₂ + length (pick (fenced keys) (fences_of (ids_at keys o₂ at)) []) ≤ length o₂
      room₂ = omega (arith, P.room (pick (fenced keys) (fences_of (ids_at keys o₂ at)) []) starts left room)

      module _ {o₃ : List ℕ} {a₃ : ℕ} (p₃ : Put o₂ o₃ a₂ a₃ (pick (fenced keys) (fences_of (ids_at keys o₂ at)) [])) where
        l₃ : Left o₃ a₃ (starts ++ []) o at whole
        l₃ = P.is (sym (append-nil starts)) (P.put left p₃)

        room₃ : a₃ + length starts ≤ length o₃
        room₃ = omega (arith, P.room starts [] l₃ room)

        done : {o₄ : List ℕ} {a₄ : ℕ} → Put o₃ o₄ a₃ a₄ starts → Put o o₄ at a₄ whole
        done p₄ = P.end refl (P.put l₃ p₄)

pub put_groups-p-requires : goal.put_groups-p-requires
put_groups-p-requires c = let a = c.args in (c.requires.0, c.requires.1, c.requires.2, c.requires.3, c.requires.4, room₀ (edges_of a.batch.now) a.plan.keys a.plan.width a.plan.dead a.out.now a.at c.requires.2 c.requires.4 c.requires.5, c.requires.6)

pub put_by_edge-q-requires : goal.put_by_edge-q-requires
put_by_edge-q-requires c = let a = c.args in (c.requires.0, c.requires.1, room₁ (edges_of a.batch.now) a.plan.keys a.plan.width a.plan.dead a.out.now a.at c.requires.2 c.requires.4 c.requires.5 c.put_groups-p.ensures)

pub put_fences_if-r-requires : goal.put_fences_if-r-requires
put_fences_if-r-requires c =
    let a = c.args in
    let p₁ = c.put_groups-p.ensures in
    let p₂ = c.put_by_edge-q.ensures in
    (c.requires.3, keys_below (edges_of a.batch.now) a.plan.keys a.plan.width a.plan.dead a.out.now a.at c.requires.2 c.requires.4 c.requires.5 p₁ p₂, room₂ (edges_of a.batch.now) a.plan.keys a.plan.width a.plan.dead a.out.now a.at c.requires.2 c.requires.4 c.requires.5 p₁ p₂)

pub put_starts_if-requires : goal.put_starts_if-requires
put_starts_if-requires c =
    let a = c.args in
    (c.requires.0, room₃ (edges_of a.batch.now) a.plan.keys a.plan.width a.plan.dead a.out.now a.at c.requires.2 c.requires.4 c.requires.5 c.put_groups-p.ensures c.put_by_edge-q.ensures c.put_fences_if-r.ensures)

pub returns : goal.returns
returns c =
    let a = c.args in
    done (edges_of a.batch.now) a.plan.keys a.plan.width a.plan.dead a.out.now a.at c.requires.2 c.requires.4 c.requires.5 c.put_groups-p.ensures c.put_by_edge-q.ensures c.put_fences_if-r.ensures c.put_starts_if.ensures
