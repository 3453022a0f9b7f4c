use mathlib.Core.Path.{◌≡◌, sym, ap, ◌∙◌}
use Prim.Native.Nat.{ℕ, ◌+◌, ◌-◌, ◌*◌, ◌≤◌, ◌<◌}
use native.Mathlib.Nat.{sub-zero}
use native.Mathlib.Omega.{arith}
use mathlib.Core.List.{List, ◌++◌}
use lib.ListN.{length, get_or}
use Rattle.base.specs.Put as P
use Rattle.base.specs.Put.{Put, Left}
use Rattle.codes.specs.declared.ids.Id.{Id}
use Rattle.codes.specs.Ids.{halves_at}
use Rattle.frame.specs.Kind as kind
use Rattle.batch_groups.specs.Groups.{none}
use Rattle.write_image.specs.Image.{fence_bytes, fence_keys_from}
use Rattle.write_image.specs.Image.Laws.{length_fence, fences_step, fences_end}
use Rattle.write_sections.specs.Ids.{ids_at, ids_at_lem, id_below}
use Rattle.write_sections.proofs.fences.put_rows.Given as goal

module _ (o : List ℕ) (first keys at m : ℕ) where
  abbrev pub ids : List Id
  ids = ids_at keys o first

  pub record Head (out : List ℕ) (i to : ℕ) : Type 0 where
    pub upto : i ≤ m
    pub above : at ≤ to
    pub left : Left out to (fence_keys_from (m - i) ids i) o at (fence_keys_from m ids 0)

  module _ (out : List ℕ) (i to : ℕ) (h : Head out i to) (lt : i < m) (c : m ≡ kind.fence_count keys) where
    pub inside : i * 256 < keys
    inside = omega arith

    module _ (below : first + 16 * keys ≤ at) (key : Id) (e : key ≡ halves_at out (first + 16 * (i * 256))) where
      pub is : key ≡ get_or ids (i * 256) none.key
      is =
          e
          ∙ id_below h.left (first + 16 * (i * 256)) (omega (arith, inside)) h.above
          ∙ sym (ids_at_lem keys o first (i * 256) none.key inside)

      pub todo : Left out to (fence_bytes key i ++ fence_keys_from (m - (i + 1)) ids (i + 1)) o at (fence_keys_from m ids 0)
      todo = P.is (fences_step ids m i lt ∙ ap (λ (t : Id). fence_bytes t i ++ fence_keys_from (m - (i + 1)) ids (i + 1)) (sym is)) h.left

      pub room : at + length (fence_keys_from m ids 0) ≤ length o → to + 24 ≤ length out
      room g = omega (arith, P.room (fence_bytes key i) (fence_keys_from (m - (i + 1)) ids (i + 1)) todo g, length_fence key i)

      pub again : {o₁ : List ℕ} {r : ℕ} → Put out o₁ to r (fence_bytes key i) → Head o₁ (i + 1) r
      again p = let u = h.above in let q = p.place in record { upto = omega arith; above = omega arith; left = P.put todo p }

  pub begin : Head o 0 at
  begin =
      record {
        upto = omega arith;
        above = omega arith;
        left = P.is (ap (λ (t : ℕ). fence_keys_from t ids 0) (sym (sub-zero m))) (P.start o at (fence_keys_from m ids 0));
      }

  pub done : (out : List ℕ) (i to : ℕ) → Head out i to → i ≡ m → Put o out at to (fence_keys_from m ids 0)
  done out i to h z = P.end (fences_end ids m i (omega arith)) h.left

abbrev pub invariant-loop-i : goal.invariant-loop-i
invariant-loop-i l = Head l.initial.out l.first l.keys l.at l.count l.out l.i l.to
