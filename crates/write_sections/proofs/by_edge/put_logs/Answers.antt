use mathlib.Core.Path.{◌≡◌, sym, ap, ◌∙◌}
use Prim.Native.Nat.{ℕ, ◌+◌, ◌≤◌, ◌<◌}
use native.Mathlib.Omega.{arith}
use mathlib.Core.List.{List, ◌++◌}
use lib.ListN.{length, get_or}
use lib.Seq.{sets}
use Rattle.base.specs.Over.{part}
use Rattle.base.specs.Put as P
use Rattle.base.specs.Put.{Put, Left}
use Rattle.codes.specs.Little.{le_bytes}
use Rattle.codes.specs.Little.Laws.{length_le_bytes}
use Rattle.batch.specs.declared.Edge.{Edge}
use Rattle.batch_groups.specs.Groups.{none}
use Rattle.write_image.specs.Image.{log_bytes}
use Rattle.write_image.specs.Image.Laws.{logs_on, logs_out}
use Rattle.batch.specs.Batch.{edges_of}
use Rattle.write_sections.proofs.by_edge.put_logs.Goals as goal
use Rattle.write_sections.proofs.by_edge.put_logs.Invariants.{Head}

module _ (es : List Edge) (i j : ℕ) (o : List ℕ) (at : ℕ) (out : List ℕ) (k to : ℕ) (h : Head es i j o at out k to) where
  module _ (lt : k < j) (le : j ≤ length es) (x : ℕ) (e : x ≡ (get_or es k none).log) where
    todo : Left out to (le_bytes 8 x ++ log_bytes (part es (k + 1) j)) o at (log_bytes (part es i j))
    todo = P.is (logs_on es k j lt (omega arith) ∙ ap (λ (t : ℕ). le_bytes 8 t ++ log_bytes (part es (k + 1) j)) (sym e)) h.left

    room : at + length (log_bytes (part es i j)) ≤ length o → to + 8 ≤ length out
    room g = omega (arith, P.room (le_bytes 8 x) (log_bytes (part es (k + 1) j)) todo g, length_le_bytes 8 x)

    again : {o₁ : List ℕ} → o₁ ≡ sets out to (le_bytes 8 x) → Head es i j o at o₁ (k + 1) (to + 8)
    again {o₁} f =
        let q : Put out o₁ to (to + 8) (le_bytes 8 x) = record { place = ap (λ (t : ℕ). to + t) (sym (length_le_bytes 8 x)); bytes = f } in
        record { upto = omega arith; left = P.put todo q }

  done : j ≤ k → Put o out at to (log_bytes (part es i j))
  done z = P.end (logs_out es k j z) h.left

pub loop-k-init : goal.loop-k-init
loop-k-init c = let a = c.args in record { upto = c.requires.0; left = P.start a.out.now a.at _ }

pub put_le-requires : goal.put_le-requires
put_le-requires c = let a = c.args in let l = c.loop-k in let es = edges_of a.batch.now in room es a.i a.j a.out.now a.at l.out l.k l.to l.invariant (omega arith) (omega arith) _ c.log_of-log.ensures c.requires.2

pub overflow_add-to : goal.overflow_add-to
overflow_add-to c = let a = c.args in let l = c.loop-k in let es = edges_of a.batch.now in let r = room es a.i a.j a.out.now a.at l.out l.k l.to l.invariant (omega arith) (omega arith) _ c.log_of-log.ensures c.requires.2 in omega arith

pub loop-k-preserved : goal.loop-k-preserved
loop-k-preserved c = let a = c.args in let l = c.loop-k in let es = edges_of a.batch.now in again es a.i a.j a.out.now a.at l.out l.k l.to l.invariant (omega arith) (omega arith) _ c.log_of-log.ensures c.put_le.ensures

pub shape_of-out : goal.shape_of-out
shape_of-out c = c.loop-k.invariant.left.same

pub returns : goal.returns
returns c = let a = c.args in let l = c.loop-k in let es = edges_of a.batch.now in done es a.i a.j a.out.now a.at l.out l.k l.to l.invariant (omega arith)
