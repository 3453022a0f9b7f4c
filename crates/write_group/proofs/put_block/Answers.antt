use mathlib.Core.Path.{◌≡◌, refl, sym, ap, ◌∙◌}
use Prim.Native.Nat.{ℕ, ◌+◌, ◌-◌, ◌≤◌}
use native.Mathlib.Omega.{arith}
use mathlib.Core.List.{List, [], ◌∷◌, ◌++◌, append-nil}
use mathlib.Core.Bool.{Bool}
use lib.ListN.{length, length-append}
use lib.Seq.{append_snoc}
use Rattle.batch.specs.Batch.{partners_in, edges_of}
use Rattle.base.specs.Over.{part}
use Rattle.base.specs.Put as P
use Rattle.base.specs.Put.{Put, Left}
use Rattle.codes.specs.declared.ids.Id.{Id}
use Rattle.codes.specs.Varint.{var_bytes}
use Rattle.batch.specs.declared.Edge.{Edge}
use Rattle.group.specs.Group.Laws.{tag_of}
use Rattle.group.specs.Written.{payload_of, written_as}
use Rattle.group.proofs.Laws.Written.{written_is}
use Rattle.write_image.specs.Image.Laws.{length_partners_in}
use Rattle.write_group.proofs.put_block.Goals as goal

module _ (es : List Edge) (i j : ℕ) (dense : Bool) (m : j ≤ length es) where
  abbrev ps : List Id
  ps = partners_in (part es i j)

  written : {b : Bool} → dense ≡ b → written_as dense ps ≡ (var_bytes (j - i) ++ (tag_of b ∷ [])) ++ payload_of b 0 ps
  written {b} e =
      ap (λ (t : Bool). written_as t ps) e
      ∙ written_is b ps
      ∙ ap (λ (t : ℕ). var_bytes t ++ (tag_of b ∷ payload_of b 0 ps)) (length_partners_in es i j m)
      ∙ sym (append_snoc (var_bytes (j - i)) (tag_of b) (payload_of b 0 ps))

  module _ {b : Bool} (e : dense ≡ b) (o : List ℕ) (at : ℕ) (room : at + length (written_as dense ps) ≤ length o) where
    abbrev head : List ℕ
    head = var_bytes (j - i) ++ (tag_of b ∷ [])

    todo : Left o at (head ++ payload_of b 0 ps) o at (written_as dense ps)
    todo = P.is (written e) (P.start o at (written_as dense ps))

    room_head : at + length (var_bytes (j - i)) + 1 ≤ length o
    room_head = omega (arith, P.room head (payload_of b 0 ps) todo room, length-append (var_bytes (j - i)) (tag_of b ∷ []))

    module _ {o₁ : List ℕ} {mid : ℕ} (p : Put o o₁ at mid head) where
      same : length o₁ ≡ length o
      same = (P.put todo p).same

      room_rest : mid + length (payload_of b 0 ps) ≤ length o₁
      room_rest = omega (arith, P.room head (payload_of b 0 ps) todo room, p.place, same)

      done : {o₂ : List ℕ} {r : ℕ} → Put o₁ o₂ mid r (payload_of b 0 ps) → Put o o₂ at r (written_as dense ps)
      done q = P.end refl (P.put (P.is (sym (append-nil (payload_of b 0 ps))) (P.put todo p)) q)

pub put_head-mid-requires : goal.put_head-mid-requires
put_head-mid-requires c = let a = c.args in room_head (edges_of a.batch.now) a.i a.j a.dense c.requires.1 c.if-dense.true a.out.now a.at c.requires.3

pub put_dense-requires : goal.put_dense-requires
put_dense-requires c = let a = c.args in (c.requires.0, c.requires.1, room_rest (edges_of a.batch.now) a.i a.j a.dense c.requires.1 c.if-dense.true a.out.now a.at c.requires.3 c.put_head-mid.ensures)

pub returns-then-dense : goal.returns-then-dense
returns-then-dense c = let a = c.args in done (edges_of a.batch.now) a.i a.j a.dense c.requires.1 c.if-dense.true a.out.now a.at c.requires.3 c.put_head-mid.ensures c.put_dense.ensures

pub put_head-mid-requires-2 : goal.put_head-mid-requires-2
put_head-mid-requires-2 c = let a = c.args in room_head (edges_of a.batch.now) a.i a.j a.dense c.requires.1 c.if-dense.false a.out.now a.at c.requires.3

pub put_split-requires : goal.put_split-requires
put_split-requires c = let a = c.args in (c.requires.0, c.requires.1, c.requires.2, room_rest (edges_of a.batch.now) a.i a.j a.dense c.requires.1 c.if-dense.false a.out.now a.at c.requires.3 c.put_head-mid-2.ensures)

pub returns : goal.returns
returns c = let a = c.args in done (edges_of a.batch.now) a.i a.j a.dense c.requires.1 c.if-dense.false a.out.now a.at c.requires.3 c.put_head-mid-2.ensures c.put_split.ensures
