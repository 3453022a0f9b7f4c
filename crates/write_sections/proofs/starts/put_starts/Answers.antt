use mathlib.Core.Path.{◌≡◌, refl, sym, ap, ◌∙◌}
use Prim.Native.Nat.{ℕ, ◌+◌, ◌≤◌}
use native.Mathlib.Omega.{arith}
use mathlib.Core.List.{List, [], ◌++◌, append-nil}
use lib.ListN.{length, drop}
use lib.Seq.{sets, length-sets}
use Rattle.base.specs.Put as P
use Rattle.base.specs.Put.{Put, Left}
use Rattle.codes.specs.Little.{le_bytes}
use Rattle.codes.specs.Little.Laws.{length_le_bytes}
use Rattle.batch.specs.declared.Edge.{Edge}
use Rattle.batch_groups.specs.Groups.{groups_of, GroupEnd}
use Rattle.write_image.specs.Image.{numbers, firsts_from, start_bytes}
use Rattle.write_image.specs.Image.Laws.{firsts_step, firsts_end}
use Rattle.batch.specs.Batch.{edges_of}
use Rattle.write_sections.proofs.starts.put_starts.Goals as goal
use Rattle.write_sections.proofs.starts.put_starts.Invariants.{Head}

-- x is written in 8 bytes
eight : {o o₁ : List ℕ} {to : ℕ} (x : ℕ) → o₁ ≡ sets o to (le_bytes 8 x) → Put o o₁ to (to + 8) (le_bytes 8 x)
eight {to = to} x f = record { place = ap (λ (t : ℕ). to + t) (sym (length_le_bytes 8 x)); bytes = f }

module _ (es : List Edge) (o : List ℕ) (at : ℕ) (out : List ℕ) (i to : ℕ) (h : Head es o at out i to) where
  abbrev whole : List ℕ
  whole = start_bytes (groups_of es)

  -- a group is left, up to edge j
  module _ (j : ℕ) (e : GroupEnd es i j) where
    todo : Left out to (le_bytes 8 i ++ numbers 8 (firsts_from j (groups_of (drop j es)))) o at whole
    todo = P.is (firsts_step es i j e) h.left

    room : at + length whole ≤ length o → to + 8 ≤ length out
    room g = omega (arith, P.room (le_bytes 8 i) (numbers 8 (firsts_from j (groups_of (drop j es)))) todo g, length_le_bytes 8 i)

    again : {o₁ : List ℕ} → o₁ ≡ sets out to (le_bytes 8 i) → Head es o at o₁ j (to + 8)
    again f = record { upto = e.within; left = P.put todo (eight i f) }

  -- no group is left: the edge count
  module _ (n : ℕ) (z : i ≡ length es) (y : n ≡ length es) where
    last : Left out to (le_bytes 8 n ++ []) o at whole
    last =
        P.is (firsts_end es i z ∙ ap (le_bytes 8) (z ∙ sym y) ∙ sym (append-nil (le_bytes 8 n))) h.left

    room_last : at + length whole ≤ length o → to + 8 ≤ length out
    room_last g = omega (arith, P.room (le_bytes 8 n) [] last g, length_le_bytes 8 n)

    module _ {o₁ : List ℕ} (f : o₁ ≡ sets out to (le_bytes 8 n)) where
      done : Put o o₁ at (to + 8) whole
      done = P.end refl (P.put last (eight n f))

      same : length o₁ ≡ length o
      same = ap length f ∙ length-sets out to (le_bytes 8 n) ∙ h.left.same

pub loop-i-init : goal.loop-i-init
loop-i-init c =
    let a = c.args in record { upto = omega arith; left = P.start a.out.now a.at _ }

pub group_end-j-requires : goal.group_end-j-requires
group_end-j-requires c = (c.requires.0, omega arith)

pub put_le-requires : goal.put_le-requires
put_le-requires c =
    let a = c.args in
    let l = c.loop-i in
    let es = edges_of a.batch.now in
    room es a.out.now a.at l.out l.i l.to l.invariant _ c.group_end-j.ensures c.requires.1

pub overflow_add-to : goal.overflow_add-to
overflow_add-to c =
    let a = c.args in
    let l = c.loop-i in
    let es = edges_of a.batch.now in
    let r = room es a.out.now a.at l.out l.i l.to l.invariant _ c.group_end-j.ensures c.requires.1 in omega arith

pub loop-i-smaller : goal.loop-i-smaller
loop-i-smaller c = let g = c.group_end-j.ensures in omega (arith, g.above, g.within)

pub loop-i-preserved : goal.loop-i-preserved
loop-i-preserved c =
    let a = c.args in
    let l = c.loop-i in
    let es = edges_of a.batch.now in
    again es a.out.now a.at l.out l.i l.to l.invariant _ c.group_end-j.ensures c.put_le.ensures

pub put_le-requires-2 : goal.put_le-requires-2
put_le-requires-2 c =
    let a = c.args in
    let l = c.loop-i in
    let es = edges_of a.batch.now in
    room_last es a.out.now a.at l.out l.i l.to l.invariant a.n (omega (arith, l.invariant.upto, c.requires.0)) c.requires.0 c.requires.1

pub overflow_add-result : goal.overflow_add-result
overflow_add-result c =
    let a = c.args in
    let l = c.loop-i in
    let es = edges_of a.batch.now in
    let r = room_last es a.out.now a.at l.out l.i l.to l.invariant a.n (omega (arith, l.invariant.upto, c.requires.0)) c.requires.0 c.requires.1 in omega arith

pub shape_of-out : goal.shape_of-out
shape_of-out c =
    let a = c.args in
    let l = c.loop-i in
    let es = edges_of a.batch.now in
    same es a.out.now a.at l.out l.i l.to l.invariant a.n (omega (arith, l.invariant.upto, c.requires.0)) c.requires.0 c.put_le-2.ensures

pub returns : goal.returns
returns c =
    let a = c.args in
    let l = c.loop-i in
    let es = edges_of a.batch.now in
    done es a.out.now a.at l.out l.i l.to l.invariant a.n (omega (arith, l.invariant.upto, c.requires.0)) c.requires.0 c.put_le-2.ensures
