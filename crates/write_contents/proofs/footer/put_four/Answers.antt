use mathlib.Core.Path.{◌≡◌, refl, ap, ◌∙◌}
use Prim.Native.Nat.{ℕ, ◌+◌, ◌*◌, ◌≤◌}
use native.Mathlib.Omega.{arith}
use mathlib.Core.List.{List, [], ◌++◌}
use lib.ListN.{length}
use Rattle.base.specs.Put as P
use Rattle.base.specs.Put.{Put, Left}
use Rattle.frame.specs.Kind as kind
use Rattle.write_frame.specs.Standing.{entry_in, entries_in}
use Rattle.write_plan.specs.Parts.{four}
use Rattle.write_contents.specs.Footer.{length_entry_in, named, asked, entry_put, four_entries}
use Rattle.write_contents.proofs.footer.put_four.Goals as goal

module _ (o : List ℕ) (at keys w partners n : ℕ) (below : 64 + (16 * keys + ((keys + 1) * w + (partners + 8 * n))) ≤ at) (room : at + 112 ≤ length o) (most : at ≤ 2147483648) where
  abbrev size : ℕ
  size = (keys + 1) * w

  abbrev second : ℕ
  second = 64 + 16 * keys

  abbrev third : ℕ
  third = second + size

  abbrev fourth : ℕ
  fourth = third + partners

  abbrev whole : List ℕ
  whole = entries_in o 64 (four keys w partners n)

  abbrev e₄ : List ℕ
  e₄ = entry_in o kind.logs fourth (8 * n) ++ []

  abbrev e₃ : List ℕ
  e₃ = entry_in o kind.partners third partners ++ e₄

  abbrev e₂ : List ℕ
  e₂ = entry_in o kind.offsets second size ++ e₃

  module _ {o₁ : List ℕ} {a₁ : ℕ} (p₁ : Put o o₁ at a₁ (entry_in o kind.keys 64 (16 * keys))) where
    l₁ : Left o₁ a₁ e₂ o at whole
    l₁ = P.put (P.is (four_entries o keys w partners n) (P.start o at whole)) p₁

    at₁ : a₁ ≡ at + 28
    at₁ = p₁.place ∙ ap (λ (t : ℕ). at + t) (length_entry_in o kind.keys 64 (16 * keys))

    room₁ : (second + size ≤ length o₁) × (a₁ + 28 ≤ length o₁) × (a₁ ≤ 4294967296)
    room₁ = let s = l₁.same in let q = at₁ in (omega arith, omega arith, omega arith)

    module _ {o₂ : List ℕ} {a₂ : ℕ} (p₂ : Put o₁ o₂ a₁ a₂ (entry_in o₁ kind.offsets second size)) where
      l₂ : Left o₂ a₂ e₃ o at whole
      l₂ = let q = at₁ in entry_put kind.offsets second size l₁ (omega arith) (omega arith) p₂

      at₂ : a₂ ≡ at + 56
      at₂ = let q = at₁ in p₂.place ∙ ap (λ (t : ℕ). a₁ + t) (length_entry_in o₁ kind.offsets second size) ∙ omega arith

      room₂ : (third + partners ≤ length o₂) × (a₂ + 28 ≤ length o₂) × (a₂ ≤ 4294967296)
      room₂ = let s = l₂.same in let q = at₂ in (omega arith, omega arith, omega arith)

      module _ {o₃ : List ℕ} {a₃ : ℕ} (p₃ : Put o₂ o₃ a₂ a₃ (entry_in o₂ kind.partners third partners)) where
        l₃ : Left o₃ a₃ e₄ o at whole
        l₃ = let q = at₂ in entry_put kind.partners third partners l₂ (omega arith) (omega arith) p₃

        at₃ : a₃ ≡ at + 84
        at₃ = let q = at₂ in p₃.place ∙ ap (λ (t : ℕ). a₂ + t) (length_entry_in o₂ kind.partners third partners) ∙ omega arith

        room₃ : (fourth + 8 * n ≤ length o₃) × (a₃ + 28 ≤ length o₃) × (a₃ ≤ 4294967296)
        room₃ = let s = l₃.same in let q = at₃ in (omega arith, omega arith, omega arith)

        done : {o₄ : List ℕ} {a₄ : ℕ} → Put o₃ o₄ a₃ a₄ (entry_in o₃ kind.logs fourth (8 * n)) → Put o o₄ at a₄ whole
        done p₄ = let q = at₃ in P.end refl (entry_put kind.logs fourth (8 * n) l₃ (omega arith) (omega arith) p₄)

pub put_entry-p-requires : goal.put_entry-p-requires
put_entry-p-requires c = let a = c.args in asked kind.keys 64 (16 * a.plan.keys) c.entry.ensures (omega arith, omega arith, omega arith)

pub put_entry-q-requires : goal.put_entry-q-requires
put_entry-q-requires c = let a = c.args in asked kind.offsets (64 + 16 * a.plan.keys) ((a.plan.keys + 1) * a.plan.width) c.entry-2.ensures (room₁ a.out.now a.at a.plan.keys a.plan.width a.plan.partners a.plan.edges c.requires.0 c.requires.1 c.requires.2 (named kind.keys 64 (16 * a.plan.keys) c.entry.ensures c.put_entry-p.ensures))

pub put_entry-r-requires : goal.put_entry-r-requires
put_entry-r-requires c = let a = c.args in asked kind.partners (64 + 16 * a.plan.keys + (a.plan.keys + 1) * a.plan.width) a.plan.partners c.entry-3.ensures (room₂ a.out.now a.at a.plan.keys a.plan.width a.plan.partners a.plan.edges c.requires.0 c.requires.1 c.requires.2 (named kind.keys 64 (16 * a.plan.keys) c.entry.ensures c.put_entry-p.ensures) (named kind.offsets (64 + 16 * a.plan.keys) ((a.plan.keys + 1) * a.plan.width) c.entry-2.ensures c.put_entry-q.ensures))

pub put_entry-requires : goal.put_entry-requires
put_entry-requires c = let a = c.args in asked kind.logs (64 + 16 * a.plan.keys + (a.plan.keys + 1) * a.plan.width + a.plan.partners) (8 * a.plan.edges) c.entry-4.ensures (room₃ a.out.now a.at a.plan.keys a.plan.width a.plan.partners a.plan.edges c.requires.0 c.requires.1 c.requires.2 (named kind.keys 64 (16 * a.plan.keys) c.entry.ensures c.put_entry-p.ensures) (named kind.offsets (64 + 16 * a.plan.keys) ((a.plan.keys + 1) * a.plan.width) c.entry-2.ensures c.put_entry-q.ensures) (named kind.partners (64 + 16 * a.plan.keys + (a.plan.keys + 1) * a.plan.width) a.plan.partners c.entry-3.ensures c.put_entry-r.ensures))

pub returns : goal.returns
returns c = let a = c.args in done a.out.now a.at a.plan.keys a.plan.width a.plan.partners a.plan.edges c.requires.0 c.requires.1 c.requires.2 (named kind.keys 64 (16 * a.plan.keys) c.entry.ensures c.put_entry-p.ensures) (named kind.offsets (64 + 16 * a.plan.keys) ((a.plan.keys + 1) * a.plan.width) c.entry-2.ensures c.put_entry-q.ensures) (named kind.partners (64 + 16 * a.plan.keys + (a.plan.keys + 1) * a.plan.width) a.plan.partners c.entry-3.ensures c.put_entry-r.ensures) (named kind.logs (64 + 16 * a.plan.keys + (a.plan.keys + 1) * a.plan.width + a.plan.partners) (8 * a.plan.edges) c.entry-4.ensures c.put_entry.ensures)
