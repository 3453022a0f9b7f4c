use mathlib.Core.Path.{◌≡◌, sym, ap, ◌∙◌}
use Prim.Native.Nat.{ℕ, ◌+◌}
use native.Mathlib.Omega.{arith}
use mathlib.Core.List.{List}
use mathlib.Core.Bool.{Bool}
use lib.ListN.{length}
use lib.Seq.{sets}
use Rattle.batch.specs.Batch.{partners_in, edges_of}
use Rattle.base.specs.Over.{part}
use Rattle.base.specs.Put.{Put}
use Rattle.codes.specs.declared.ids.Id.{Id}
use Rattle.codes.specs.Little.{le_bytes}
use Rattle.codes.specs.Ids.{id_bytes}
use Rattle.batch.specs.declared.Edge.{Edge}
use Rattle.group.specs.Written.{written_as}
use Rattle.write_image.specs.Image.{is_dense, group_bytes}
use Rattle.write_image.specs.Image.Laws.{group_is}
use Rattle.write_group.specs.Span.{span_dense}
use Rattle.write_sections.proofs.by_key.put_group.Goals as goal

module _ (keys : ℕ) (ps : List Id) (dense : Bool) (e : dense ≡ is_dense keys ps) where
  written : written_as dense ps ≡ group_bytes keys ps
  written = ap (λ (t : Bool). written_as t ps) e ∙ sym (group_is keys ps)

  done : {o o₁ : List ℕ} {p r : ℕ} → Put o o₁ p r (written_as dense ps) → (r ≡ p + length (group_bytes keys ps)) × (o₁ ≡ sets o p (group_bytes keys ps))
  done {o} {p = p} q = (q.place ∙ ap (λ (t : List ℕ). p + length t) written, q.bytes ∙ ap (sets o p) written)

pub put_block-requires : goal.put_block-requires
put_block-requires c =
    let a = c.args in
    let q = c.requires in
    let es = edges_of a.batch.now in
    let ps = partners_in (part es a.i a.g.end) in
    let g = q.0.ends in
    let w = ap length (written a.keys ps _ (c.dense_by-dense.ensures ∙ span_dense es a.i a.g q.0 a.keys)) in
    (omega (arith, g.above), g.within, q.3, omega (arith, w, q.6))

pub returns : goal.returns
returns c = let a = c.args in let es = edges_of a.batch.now in
    let ps = partners_in (part es a.i a.g.end) in
    let d = c.dense_by-dense.ensures ∙ span_dense es a.i a.g c.requires.0 a.keys in
    let q = done a.keys ps _ d c.put_block.ensures in
    let key = ap (λ (t : Edge). id_bytes t.key) c.edge_of-e.ensures in
    let stored = c.put_offset.ensures ∙ ap (λ (t : List ℕ). sets t a.o (le_bytes a.w a.start)) (c.put_id.ensures ∙ ap (sets a.out.now a.k) key) in
    (q.0, q.1 ∙ ap (λ (t : List ℕ). sets t a.p (group_bytes a.keys ps)) stored)
