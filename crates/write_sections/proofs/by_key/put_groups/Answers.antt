use mathlib.Core.Path.{◌≡◌, refl, sym, ap, ◌∙◌}
use Prim.Native.Nat.{ℕ, ◌+◌, ◌-◌, ◌*◌}
use native.Mathlib.Omega.{arith}
use mathlib.Core.List.{List, ◌++◌}
use lib.ListN.{length, length-append}
use Rattle.batch.specs.declared.Edge.{Edge}
use Rattle.batch_groups.specs.Groups.{groups_of, Grouped}
use Rattle.write_image.specs.Image.{key_bytes, offset_bytes, partner_bytes}
use Rattle.write_image.specs.Image.Laws.{rises, length_keys, length_offsets}
use Rattle.batch.specs.Batch.{edges_of}
use Rattle.write_sections.specs.Three as T
use Rattle.write_sections.specs.Three.{Three}
use Rattle.write_sections.proofs.by_key.put_groups.Goals as goal
use Rattle.write_sections.proofs.by_key.put_groups.Invariants.{all, Head, room, again, room_last, done}

module _ (es : List Edge) (n keys w : ℕ) (start : List ℕ) (at o base : ℕ) (k : keys ≡ length (groups_of es)) where
  lengths : (length (key_bytes (groups_of es)) ≡ 16 * keys) × (length (offset_bytes w keys 0 (groups_of es)) ≡ (keys + 1) * w)
  lengths = (
    length_keys (groups_of es) ∙ ap (λ (t : ℕ). 16 * t) (sym k),
    length_offsets w keys 0 (groups_of es) ∙ ap (λ (t : ℕ). (t + 1) * w) (sym k),
  )

  fits : at + length (all es n keys w start at base) ≡ at + 16 * keys + (keys + 1) * w + length (partner_bytes keys (groups_of es))
  fits =
      let l = length-append (key_bytes (groups_of es)) (offset_bytes w keys 0 (groups_of es) ++ partner_bytes keys (groups_of es)) in
      let m = length-append (offset_bytes w keys 0 (groups_of es)) (partner_bytes keys (groups_of es)) in
      omega (arith, lengths.0, lengths.1)

  begins : o ≡ at + 16 * keys → base ≡ o + (keys + 1) * w → Grouped 0 (groups_of es) → Head es n keys w start at base start 0 at o base
  begins p q g =
      let z : base - base ≡ 0 = omega arith in
      let t : Three start at (key_bytes (groups_of es)) o (offset_bytes w keys 0 (groups_of es)) base (partner_bytes keys (groups_of es)) start at (all es n keys w start at base) =
      T.begin start at (key_bytes (groups_of es)) (offset_bytes w keys 0 (groups_of es)) (partner_bytes keys (groups_of es)) o base
      (p ∙ ap (λ (x : ℕ). at + x) (sym lengths.0)) (q ∙ ap (λ (x : ℕ). o + x) (sym lengths.1)) in
      record { upto = omega arith; above = omega arith; rest = g; three = T.are refl (ap (λ (x : ℕ). offset_bytes w keys x (groups_of es)) (sym z)) refl t }

pub overflow_add-o : goal.overflow_add-o
overflow_add-o c = let a = c.args in let es = edges_of a.batch.now in let f = fits es a.n a.keys a.w a.out.now a.at 0 0 c.requires.2 in omega (arith, c.requires.5)

pub overflow_add-base : goal.overflow_add-base
overflow_add-base c = let a = c.args in let es = edges_of a.batch.now in let f = fits es a.n a.keys a.w a.out.now a.at 0 0 c.requires.2 in omega (arith, c.requires.5)

pub overflow_mul-base : goal.overflow_mul-base
overflow_mul-base c = let a = c.args in let es = edges_of a.batch.now in let f = fits es a.n a.keys a.w a.out.now a.at 0 0 c.requires.2 in omega (arith, c.requires.5)

pub overflow_add-base-2 : goal.overflow_add-base-2
overflow_add-base-2 c = let a = c.args in let es = edges_of a.batch.now in let f = fits es a.n a.keys a.w a.out.now a.at 0 0 c.requires.2 in omega (arith, c.requires.5)

pub loop-i-init : goal.loop-i-init
loop-i-init c = let a = c.args in let es = edges_of a.batch.now in begins es a.n a.keys a.w a.out.now a.at _ _ c.requires.2 refl refl c.requires.4

pub span_at-g-requires : goal.span_at-g-requires
span_at-g-requires c = (c.requires.0, c.requires.1, omega arith, c.loop-i.invariant.rest)

pub overflow_sub-start : goal.overflow_sub-start
overflow_sub-start c = let u = c.loop-i.invariant.above in omega arith

pub put_group-p-requires : goal.put_group-p-requires
put_group-p-requires c =
    let a = c.args in
    let l = c.loop-i in
    let es = edges_of a.batch.now in
    let g = c.span_at-g.ensures.ends in
    let r = room es a.n a.keys a.w a.out.now a.at _ l.out l.i l.k l.o l.p l.invariant _ g c.requires.5 in
    (c.span_at-g.ensures, omega (arith, g.within), c.requires.3, rises es l.i _ g l.invariant.rest, r.0, r.1, r.2, c.requires.6)

pub overflow_add-k : goal.overflow_add-k
overflow_add-k c =
    let a = c.args in
    let l = c.loop-i in
    let es = edges_of a.batch.now in
    let g = c.span_at-g.ensures.ends in let r = room es a.n a.keys a.w a.out.now a.at _ l.out l.i l.k l.o l.p l.invariant _ g c.requires.5 in omega (arith, r.0)

pub overflow_add-o-in-loop-i : goal.overflow_add-o-in-loop-i
overflow_add-o-in-loop-i c =
    let a = c.args in
    let l = c.loop-i in
    let es = edges_of a.batch.now in
    let g = c.span_at-g.ensures.ends in let r = room es a.n a.keys a.w a.out.now a.at _ l.out l.i l.k l.o l.p l.invariant _ g c.requires.5 in omega (arith, r.1)

pub loop-i-smaller : goal.loop-i-smaller
loop-i-smaller c = let g = c.span_at-g.ensures.ends in omega (arith, g.above, g.within)

pub loop-i-preserved : goal.loop-i-preserved
loop-i-preserved c =
    let a = c.args in
    let l = c.loop-i in
    let es = edges_of a.batch.now in
    let g = c.span_at-g.ensures.ends in let q = c.put_group-p.ensures in again es a.n a.keys a.w a.out.now a.at _ l.out l.i l.k l.o l.p l.invariant _ g _ _ (omega (arith, g.within)) q.0 q.1

pub overflow_sub-start-2 : goal.overflow_sub-start-2
overflow_sub-start-2 c = let u = c.loop-i.invariant.above in omega arith

pub put_offset-requires : goal.put_offset-requires
put_offset-requires c =
    let a = c.args in
    let l = c.loop-i in
    let es = edges_of a.batch.now in
    let u = l.invariant.upto in (room_last es a.n a.keys a.w a.out.now a.at _ l.out l.i l.k l.o l.p l.invariant (omega arith) c.requires.5, c.requires.6)

pub returns : goal.returns
returns c =
    let a = c.args in
    let l = c.loop-i in
    let es = edges_of a.batch.now in
    let u = l.invariant.upto in done es a.n a.keys a.w a.out.now a.at _ l.out l.i l.k l.o l.p l.invariant (omega arith) c.put_offset.ensures
