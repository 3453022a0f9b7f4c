use mathlib.Core.Path.{◌≡◌, refl, sym, ap, ◌∙◌}
use Prim.Native.Nat.{ℕ, ◌+◌, ◌*◌, ◌≤◌}
use native.Mathlib.Omega.{arith}
use mathlib.Core.List.{List, [], ◌++◌, append-nil}
use lib.ListN.{length, length-append}
use lib.Seq.{sets}
use Rattle.base.specs.Put as P
use Rattle.base.specs.Put.{Put, Left}
use Rattle.codes.specs.declared.ids.Id.{Id}
use Rattle.codes.specs.Little.{le_bytes}
use Rattle.codes.specs.Little.Laws.{length_le_bytes}
use Rattle.frame.specs.Kind as kind
use Rattle.write_image.specs.Image.{fence_keys_from, fences_of}
use Rattle.write_image.specs.Image.Laws.{fences_are}
use Rattle.write_sections.specs.Ids.{ids_at, length_ids, ids_below}
use Rattle.write_sections.proofs.fences.put_fences.Goals as goal

module _ (o : List ℕ) (first keys at m : ℕ) (em : m ≡ kind.fence_count keys) (below : first + 16 * keys ≤ at) where
  abbrev ids : List Id
  ids = ids_at keys o first

  abbrev rows : List Id → List ℕ
  rows ks = fence_keys_from m ks 0

  abbrev count : List ℕ
  count = le_bytes 4 m

  todo : Left o at (le_bytes 4 256 ++ (count ++ rows ids)) o at (fences_of ids)
  todo =
      P.is
      (fences_are ids
      ∙ ap (λ (n : ℕ). le_bytes 4 256 ++ (le_bytes 4 n ++ fence_keys_from n ids 0)) (ap kind.fence_count (length_ids keys o first) ∙ sym em))
      (P.start o at (fences_of ids))

  module _ (room : at + length (fences_of ids) ≤ length o) where
    room_head : at + 8 ≤ length o
    room_head =
        omega
        (arith, P.room (le_bytes 4 256) (count ++ rows ids) todo room, length-append count (rows ids), length_le_bytes 4 256, length_le_bytes 4 m)

    module _ {o₁ o₂ : List ℕ} (e : o₁ ≡ sets o at (le_bytes 4 256)) (f : o₂ ≡ sets o₁ (at + 4) count) where
      two : Left o₂ (at + 8) (rows ids) o at (fences_of ids)
      two =
          let a = length_le_bytes 4 256 in
          let b = length_le_bytes 4 m in
          let p : Put o o₁ at (at + 4) (le_bytes 4 256) = record { place = omega arith; bytes = e } in
          let q : Put o₁ o₂ (at + 4) (at + 8) count = record { place = omega arith; bytes = f } in
          P.put (P.put todo p) q

      kept : ids_at keys o₂ first ≡ ids
      kept = ids_below two keys first below (omega arith)

      left : Left o₂ (at + 8) (rows (ids_at keys o₂ first) ++ []) o at (fences_of ids)
      left = P.is (ap rows (sym kept) ∙ sym (append-nil (rows (ids_at keys o₂ first)))) two

      room_rows : at + 8 + length (rows (ids_at keys o₂ first)) ≤ length o₂
      room_rows = omega (arith, P.room (rows (ids_at keys o₂ first)) [] left room)

      done : {o₃ : List ℕ} {r : ℕ} → Put o₂ o₃ (at + 8) r (rows (ids_at keys o₂ first)) → Put o o₃ at r (fences_of ids)
      done p = P.end refl (P.put left p)

pub put_le-requires : goal.put_le-requires
put_le-requires c = let a = c.args in let r = room_head a.out.now a.first a.keys a.at _ c.count-count.ensures c.requires.1 c.requires.2 in omega arith

pub put_le-requires-2 : goal.put_le-requires-2
put_le-requires-2 c = let a = c.args in let r = room_head a.out.now a.first a.keys a.at _ c.count-count.ensures c.requires.1 c.requires.2 in omega arith

pub put_rows-requires : goal.put_rows-requires
put_rows-requires c = let a = c.args in (c.count-count.ensures, c.requires.0, omega (arith, c.requires.1), room_rows a.out.now a.first a.keys a.at _ c.count-count.ensures c.requires.1 c.requires.2 c.put_le.ensures c.put_le-2.ensures)

pub returns : goal.returns
returns c = let a = c.args in done a.out.now a.first a.keys a.at _ c.count-count.ensures c.requires.1 c.requires.2 c.put_le.ensures c.put_le-2.ensures c.put_rows.ensures
