use mathlib.Core.Path.{◌≡◌, sym, ap, ◌∙◌}
use Prim.Native.Nat.{ℕ, ◌+◌, ◌≤◌, ◌<◌}
use native.Mathlib.Omega.{arith}
use mathlib.Core.List.{List, ◌++◌}
use lib.ListN.{length, get_or}
use lib.Seq.{sets}
use Rattle.batch.specs.Batch.{partners_in, edges_of}
use Rattle.base.specs.Over.{part}
use Rattle.base.specs.Put as P
use Rattle.base.specs.Put.{Put, Left}
use Rattle.codes.specs.Ids.{id_bytes}
use Rattle.codes.specs.Ids.Laws.{length_id_bytes}
use Rattle.batch.specs.declared.Edge.{Edge}
use Rattle.group.specs.Group.{bytes_of}
use Rattle.batch_groups.specs.Groups.{none}
use Rattle.write_image.specs.Image.Laws.{partner_first, partners_out, dense_none, dense_on}
use Rattle.write_group.proofs.put_dense.Goals as goal
use Rattle.write_group.proofs.put_dense.Invariants.{Head}

module _ (es : List Edge) (i j : ℕ) (o : List ℕ) (at : ℕ) (out : List ℕ) (k to : ℕ) (h : Head es i j o at out k to) (m : j ≤ length es) where
  module _ (lt : k < j) (x : Edge) (e : x ≡ get_or es k none) where
    abbrev v : List ℕ
    v = id_bytes x.partner

    abbrev rest : List ℕ
    rest = bytes_of (partners_in (part es (k + 1) j))

    todo : Left out to (v ++ rest) o at (bytes_of (partners_in (part es i j)))
    todo = P.is (ap bytes_of (partner_first es k j lt (omega arith) x e) ∙ dense_on x.partner (partners_in (part es (k + 1) j))) h.left

    room : at + length (bytes_of (partners_in (part es i j))) ≤ length o → to + 16 ≤ length out
    room g = omega (arith, P.room v rest todo g, length_id_bytes x.partner)

    again : {o₁ : List ℕ} → o₁ ≡ sets out to v → Head es i j o at o₁ (k + 1) (to + 16)
    again {o₁} e₁ =
        let f = h.from in
        let q : Put out o₁ to (to + 16) v = record { place = ap (λ (t : ℕ). to + t) (sym (length_id_bytes x.partner)); bytes = e₁ } in
        record {
          from = omega arith;
          upto = omega arith;
          left = P.put todo q;
        }

  done : k ≡ j → Put o out at to (bytes_of (partners_in (part es i j)))
  done z = P.end (ap bytes_of (partners_out es k j (omega arith)) ∙ dense_none) h.left

pub loop-k-init : goal.loop-k-init
loop-k-init c = record { from = omega arith; upto = c.requires.0; left = P.start c.args.out.now c.args.at _ }

pub put_id-requires : goal.put_id-requires
put_id-requires c =
    let a = c.args in
    let l = c.loop-k in
    let es = edges_of a.batch.now in
    room es a.i a.j a.out.now a.at l.out l.k l.to l.invariant c.requires.1 (omega arith) _ c.edge_of-e.ensures c.requires.2

pub overflow_add-to : goal.overflow_add-to
overflow_add-to c =
    let a = c.args in
    let l = c.loop-k in
    let es = edges_of a.batch.now in
    let r = room es a.i a.j a.out.now a.at l.out l.k l.to l.invariant c.requires.1 (omega arith) _ c.edge_of-e.ensures c.requires.2 in omega arith

pub loop-k-preserved : goal.loop-k-preserved
loop-k-preserved c =
    let a = c.args in
    let l = c.loop-k in
    let es = edges_of a.batch.now in
    again es a.i a.j a.out.now a.at l.out l.k l.to l.invariant c.requires.1 (omega arith) _ c.edge_of-e.ensures c.put_id.ensures

pub shape_of-out : goal.shape_of-out
shape_of-out c = c.loop-k.invariant.left.same

pub returns : goal.returns
returns c =
    let a = c.args in
    let l = c.loop-k in
    let es = edges_of a.batch.now in
    let u = l.invariant.upto in done es a.i a.j a.out.now a.at l.out l.k l.to l.invariant c.requires.1 (omega arith)
