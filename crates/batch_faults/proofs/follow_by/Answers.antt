use mathlib.Core.Path.{◌≡◌, sym, ap₂, ◌∙◌}
use Prim.Native.Nat.{ℕ, ◌+◌}
use mathlib.Core.List.{List}
use Rattle.codes.specs.declared.ids.Id.{Id}
use Rattle.std.specs.declared.cmp.Ordering.{Ordering}
use Rattle.codes.specs.Ids.{id_number, order, halves_at}
use Rattle.batch.specs.Batch.{edge_at}
use Rattle.batch_faults.specs.Tally.Laws.{key_less, key_greater, partner_less, partner_equal, partner_greater}
use Rattle.batch_faults.proofs.follow_by.Goals as goal

-- the ids that are compared are those of the two edges
module _ (s : List ℕ) (i j : ℕ) (x y : Id) (o : Ordering) (t : order (id_number x) (id_number y) ≡ o) where
  keys : x ≡ halves_at s (i + 1) → y ≡ halves_at s (j + 1) → order (id_number (edge_at s i).key) (id_number (edge_at s j).key) ≡ o
  unfolding edge_at
  keys p q = sym (ap₂ (λ (a b : Id). order (id_number a) (id_number b)) p q) ∙ t

  partners : x ≡ halves_at s (i + 17) → y ≡ halves_at s (j + 17) → order (id_number (edge_at s i).partner) (id_number (edge_at s j).partner) ≡ o
  unfolding edge_at
  partners p q = sym (ap₂ (λ (a b : Id). order (id_number a) (id_number b)) p q) ∙ t

pub returns-in-Less : goal.returns-in-Less
returns-in-Less c = let a = c.args in key_less (edge_at a.s.now a.i) (edge_at a.s.now a.j) (keys a.s.now a.i a.j _ _ _ (sym c.compare.ensures ∙ c.in-Less.is) c.id_at.ensures c.id_at-2.ensures)

pub returns-in-Greater : goal.returns-in-Greater
returns-in-Greater c = let a = c.args in key_greater (edge_at a.s.now a.i) (edge_at a.s.now a.j) (keys a.s.now a.i a.j _ _ _ (sym c.compare.ensures ∙ c.in-Greater.is) c.id_at.ensures c.id_at-2.ensures)

pub returns-in-Less-compare : goal.returns-in-Less-compare
returns-in-Less-compare c =
    let a = c.args in
    partner_less (edge_at a.s.now a.i) (edge_at a.s.now a.j)
    (keys a.s.now a.i a.j _ _ _ (sym c.compare.ensures ∙ c.in-Equal.is) c.id_at.ensures c.id_at-2.ensures)
    (partners a.s.now a.i a.j _ _ _ (sym c.compare-in-Equal.ensures ∙ c.in-Less-compare.is) c.id_at-in-Equal.ensures c.id_at-in-Equal-2.ensures)

pub returns-in-Equal-compare : goal.returns-in-Equal-compare
returns-in-Equal-compare c =
    let a = c.args in
    partner_equal (edge_at a.s.now a.i) (edge_at a.s.now a.j)
    (keys a.s.now a.i a.j _ _ _ (sym c.compare.ensures ∙ c.in-Equal.is) c.id_at.ensures c.id_at-2.ensures)
    (partners a.s.now a.i a.j _ _ _ (sym c.compare-in-Equal.ensures ∙ c.in-Equal-compare.is) c.id_at-in-Equal.ensures c.id_at-in-Equal-2.ensures)

pub returns-in-Greater-compare : goal.returns-in-Greater-compare
returns-in-Greater-compare c =
    let a = c.args in
    partner_greater (edge_at a.s.now a.i) (edge_at a.s.now a.j)
    (keys a.s.now a.i a.j _ _ _ (sym c.compare.ensures ∙ c.in-Equal.is) c.id_at.ensures c.id_at-2.ensures)
    (partners a.s.now a.i a.j _ _ _ (sym c.compare-in-Equal.ensures ∙ c.in-Greater-compare.is) c.id_at-in-Equal.ensures c.id_at-in-Equal-2.ensures)
