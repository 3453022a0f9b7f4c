use mathlib.Core.Path.{◌≡◌, refl, sym, ap, ◌∙◌}
use Prim.Native.Nat.{ℕ, ◌+◌, ◌-◌, ◌*◌, ◌≤◌}
use native.Mathlib.Nat.{zero-add}
use native.Mathlib.Omega.{arith}
use mathlib.Core.List.{List}
use mathlib.Core.Bool.{Bool, true, false, ◌||◌}
use lib.ListN.{length, drop, length-append}
use Rattle.batch.specs.Batch.{partners_in, edges_of}
use Rattle.base.specs.Over.{part}
use Rattle.batch.specs.declared.Edge.{Edge}
use Rattle.batch_groups.specs.Groups.{Group, groups_of, GroupEnd}
use Rattle.batch_groups.proofs.Laws.Groups.{grouped_step}
use Rattle.write_image.specs.Image.{is_dense, group_bytes, any_dense, partner_bytes}
use Rattle.write_image.specs.Image.Laws.{partners_step, partners_end, any_step, any_end}
use Rattle.write_group.specs.Span.{span_few, span_dense, span_size}
use Rattle.write_sections.proofs.by_key.partners_size.Goals as goal
use Rattle.write_sections.proofs.by_key.partners_size.Invariants.{Head}

or_assoc : (x y z : Bool) → ((x || y) || z) ≡ (x || (y || z))
or_assoc true y z = refl
or_assoc false y z = refl

or_none : (x : Bool) → (x || false) ≡ x
or_none true = refl
or_none false = refl

module _ (es : List Edge) (n keys i bytes : ℕ) (dense : Bool) (h : Head es n keys i bytes dense) where
  module _ (j : ℕ) (e : GroupEnd es i j) (q : j ≤ n) where
    again : (size : ℕ) (d more : Bool) → d ≡ is_dense keys (partners_in (part es i j)) → size ≡ length (group_bytes keys (partners_in (part es i j)))
        → size ≤ 11 + 18 * (j - i) → more ≡ (dense || d) → Head es n keys j (bytes + size) more
    again size d more x y z m =
        let here : List ℕ = group_bytes keys (partners_in (part es i j)) in
        let left : List Group = groups_of (drop j es) in
        let a = e.above in
        let s = h.sum in
        let t = h.most in
        let l : length (partner_bytes keys (groups_of (drop i es))) ≡ length here + length (partner_bytes keys left) =
        ap length (partners_step es i j e keys) ∙ length-append here (partner_bytes keys left) in
        record {
          upto = q;
          rest = (grouped_step es i j e h.rest).1;
          sum = omega arith;
          some =
              ap (λ (u : Bool). u || any_dense keys left) (m ∙ ap (λ (u : Bool). dense || u) x)
              ∙ or_assoc dense (is_dense keys (partners_in (part es i j))) (any_dense keys left)
              ∙ ap (λ (u : Bool). dense || u) (sym (any_step es i j e keys))
              ∙ h.some;
          most = omega arith;
        }

  ended : i ≡ length es → i ≤ n → (bytes ≡ length (partner_bytes keys (groups_of es))) × (dense ≡ any_dense keys (groups_of es)) × (bytes ≤ 29 * n)
  ended z u =
      let s = h.sum in
      let t = h.most in
      let none_left : length (partner_bytes keys (groups_of (drop i es))) ≡ 0 = ap length (partners_end es i z keys) in
      (omega arith, sym (or_none dense) ∙ ap (λ (b : Bool). dense || b) (sym (any_end es i z keys)) ∙ h.some, omega arith)

pub loop-i-init : goal.loop-i-init
loop-i-init c = record { upto = omega arith; rest = c.requires.3; sum = zero-add _; some = refl; most = omega arith }

pub span_at-g-requires : goal.span_at-g-requires
span_at-g-requires c = (c.requires.0, c.requires.1, omega arith, c.loop-i.invariant.rest)

pub overflow_sub-j : goal.overflow_sub-j
overflow_sub-j c = let g = c.span_at-g.ensures.ends in omega (arith, g.above)

pub block_size-z-requires : goal.block_size-z-requires
block_size-z-requires c =
    let a = c.args in
    let l = c.loop-i in
    let es = edges_of a.batch.now in
    let g = c.span_at-g.ensures in (omega (arith, g.ends.within), span_few es l.i _ g a.keys, c.requires.2)

pub overflow_add-bytes : goal.overflow_add-bytes
overflow_add-bytes c = let z = c.block_size-z.ensures in let m = c.loop-i.invariant.most in let g = c.span_at-g.ensures.ends in omega (arith, z.2, m, g.within)

pub loop-i-smaller : goal.loop-i-smaller
loop-i-smaller c = let g = c.span_at-g.ensures.ends in omega (arith, g.above, g.within)

pub loop-i-preserved : goal.loop-i-preserved
loop-i-preserved c =
    let a = c.args in
    let l = c.loop-i in
    let es = edges_of a.batch.now in
    let s = c.span_at-g.ensures in
    let g = s.ends in
    let z = c.block_size-z.ensures in
    again es a.n a.keys l.i l.bytes l.dense l.invariant _ g (omega (arith, g.within)) _ _ _
    (z.0 ∙ span_dense es l.i _ s a.keys) (z.1 ∙ span_size es l.i _ s a.keys) z.2 refl

pub returns : goal.returns
returns c =
    let a = c.args in
    let l = c.loop-i in
    let es = edges_of a.batch.now in
    let u = l.invariant.upto in ended es a.n a.keys l.i l.bytes l.dense l.invariant (omega arith) u
