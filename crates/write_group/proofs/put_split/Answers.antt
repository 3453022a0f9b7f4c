use mathlib.Core.Path.{◌≡◌, sym, ap, ◌∙◌}
use Prim.Native.Nat.{ℕ, ◌+◌, ◌-◌, ◌≤◌, ◌<◌}
use native.Mathlib.Omega.{arith}
use mathlib.Core.List.{List, ◌++◌, append_assoc}
use lib.ListN.{length, get_or, length-append}
use Rattle.batch.specs.Batch.{partners_in, edges_of}
use Rattle.base.specs.Over.{part}
use Rattle.base.specs.Put as P
use Rattle.base.specs.Put.{Put, Left}
use Rattle.codes.specs.Little.{le_bytes}
use Rattle.codes.specs.Little.Laws.{length_le_bytes}
use Rattle.codes.specs.Varint.{var_bytes}
use Rattle.batch.specs.declared.Edge.{Edge}
use Rattle.group.specs.Written.{split_from}
use Rattle.batch_groups.specs.Groups.{none}
use Rattle.write_image.specs.Image.Laws.{Rise, partner_first, rise_first, partners_out, split_none, split_on}
use Rattle.write_group.proofs.put_split.Goals as goal
use Rattle.write_group.proofs.put_split.Invariants.{Head}

module _ (es : List Edge) (i j : ℕ) (o : List ℕ) (at : ℕ) (out : List ℕ) (k to hi : ℕ) (h : Head es i j o at out k to hi) (m : j ≤ length es) where
  module _ (lt : k < j) (x : Edge) (e : x ≡ get_or es k none) where
    up : (hi ≤ x.partner.hi) × Rise x.partner.hi (partners_in (part es (k + 1) j))
    up = rise_first es k j lt (omega arith) x e hi h.rise

    abbrev v : List ℕ
    v = var_bytes (x.partner.hi - hi)

    abbrev w : List ℕ
    w = le_bytes 8 x.partner.lo

    abbrev rest : List ℕ
    rest = split_from x.partner.hi (partners_in (part es (k + 1) j))

    todo : Left out to ((v ++ w) ++ rest) o at (split_from 0 (partners_in (part es i j)))
    todo =
        P.is
        (ap (split_from hi) (partner_first es k j lt (omega arith) x e)
        ∙ split_on hi x.partner (partners_in (part es (k + 1) j))
        ∙ sym (append_assoc v w rest))
        h.left

    room : at + length (split_from 0 (partners_in (part es i j))) ≤ length o → to + length v + 8 ≤ length out
    room g = omega (arith, P.room (v ++ w) rest todo g, length-append v w, length_le_bytes 8 x.partner.lo)

    again : {o₁ : List ℕ} {r : ℕ} → Put out o₁ to r (v ++ w) → Head es i j o at o₁ (k + 1) r x.partner.hi
    again p = let f = h.from in record { from = omega arith; upto = omega arith; rise = up.1; left = P.put todo p }

  done : k ≡ j → Put o out at to (split_from 0 (partners_in (part es i j)))
  done z = P.end (ap (split_from hi) (partners_out es k j (omega arith)) ∙ split_none hi) h.left

pub loop-k-init : goal.loop-k-init
loop-k-init c = record { from = omega arith; upto = c.requires.0; rise = c.requires.2; left = P.start c.args.out.now c.args.at _ }

pub overflow_sub-upper : goal.overflow_sub-upper
overflow_sub-upper c =
    let a = c.args in
    let l = c.loop-k in
    let es = edges_of a.batch.now in
    (up es a.i a.j a.out.now a.at l.out l.k l.to l.hi l.invariant c.requires.1 (omega arith) _ c.edge_of-e.ensures).0

pub put_partner-to-requires : goal.put_partner-to-requires
put_partner-to-requires c =
    let a = c.args in
    let l = c.loop-k in
    let es = edges_of a.batch.now in
    room es a.i a.j a.out.now a.at l.out l.k l.to l.hi l.invariant c.requires.1 (omega arith) _ c.edge_of-e.ensures c.requires.3

pub loop-k-preserved : goal.loop-k-preserved
loop-k-preserved c =
    let a = c.args in
    let l = c.loop-k in
    let es = edges_of a.batch.now in
    again es a.i a.j a.out.now a.at l.out l.k l.to l.hi l.invariant c.requires.1 (omega arith) _ c.edge_of-e.ensures c.put_partner-to.ensures

pub shape_of-out : goal.shape_of-out
shape_of-out c = c.loop-k.invariant.left.same

pub returns : goal.returns
returns c =
    let a = c.args in
    let l = c.loop-k in
    let es = edges_of a.batch.now in
    let u = l.invariant.upto in done es a.i a.j a.out.now a.at l.out l.k l.to l.hi l.invariant c.requires.1 (omega arith)
