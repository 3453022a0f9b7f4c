use mathlib.Core.Path.{◌≡◌, sym, ap, ap₂, ◌∙◌}
use Prim.Native.Nat.{ℕ, suc, ◌+◌, ◌-◌, ◌*◌, ◌^◌, ◌≤◌, ◌<◌}
use native.Mathlib.Omega.{arith}
use mathlib.Core.List.{List}
use lib.ListN.{length, get_or, drop}
use Rattle.batch.specs.Batch.{marks_in, edges_of}
use Rattle.batch.specs.declared.Edge.{Edge}
use Rattle.batch_groups.specs.Groups.{none}
use Rattle.write_image.specs.Image.{bit, octet}
use Rattle.write_image.specs.Image.Laws.{mark_here, octet_none, octet_byte}
use Rattle.write_sections.proofs.by_edge.octet_of.Goals as goal
use Rattle.write_sections.proofs.by_edge.octet_of.Invariants.{Head}

module _ (es : List Edge) (i j k x : ℕ) (h : Head es i j k x) where
  byte : j ≤ i + 8 → x < 2 ^ 8
  byte most = let a = h.above in let m = h.marks in omega (arith, octet_byte (j - k) (marks_in (drop k es)) (omega arith))

  again : (m : ℕ) → i < k → j ≤ length es → m ≡ bit (get_or es (k - 1) none).dead → Head es i j (k - 1) (m + 2 * x)
  again m lt le q =
      let u = h.upto in
      let n : j - (k - 1) ≡ suc (j - k) = omega arith in
      let p : k - 1 + 1 ≡ k = omega arith in
      record {
        above = omega arith;
        upto = omega arith;
        marks =
            ap₂ (λ (y z : ℕ). y + 2 * z) q (h.marks ∙ ap (λ (s : ℕ). octet (j - k) (marks_in (drop s es))) (sym p))
            ∙ sym (ap (λ (s : ℕ). octet s (marks_in (drop (k - 1) es))) n ∙ mark_here es (k - 1) (j - k) (omega arith));
      }

  done : k ≤ i → x ≡ octet (j - i) (marks_in (drop i es))
  done z = let a = h.above in let e : k ≡ i = omega arith in h.marks ∙ ap (λ (s : ℕ). octet (j - s) (marks_in (drop s es))) e

begin : (es : List Edge) (i j : ℕ) → i ≤ j → Head es i j j 0
begin es i j h =
    let z : j - j ≡ 0 = omega arith in
    record {
      above = h;
      upto = omega arith;
      marks = sym (ap (λ (s : ℕ). octet s (marks_in (drop j es))) z ∙ octet_none (marks_in (drop j es)));
    }

pub loop-k-init : goal.loop-k-init
loop-k-init c = let a = c.args in let es = edges_of a.batch.now in begin es a.i a.j (omega arith)

pub mark_of-requires : goal.mark_of-requires
mark_of-requires c = let u = c.loop-k.invariant.upto in omega arith

pub overflow_mul-x : goal.overflow_mul-x
overflow_mul-x c = let a = c.args in let l = c.loop-k in let es = edges_of a.batch.now in let x = byte es a.i a.j l.k l.x l.invariant (omega arith) in omega arith

pub overflow_add-x : goal.overflow_add-x
overflow_add-x c = let a = c.args in let l = c.loop-k in let es = edges_of a.batch.now in let x = byte es a.i a.j l.k l.x l.invariant (omega arith) in let m = c.mark_of.ensures.1 in omega arith

pub loop-k-preserved : goal.loop-k-preserved
loop-k-preserved c = let a = c.args in let l = c.loop-k in let es = edges_of a.batch.now in again es a.i a.j l.k l.x l.invariant _ (omega arith) (omega arith) c.mark_of.ensures.0

pub overflow_cast-result : goal.overflow_cast-result
overflow_cast-result c = let a = c.args in let l = c.loop-k in let es = edges_of a.batch.now in let x = byte es a.i a.j l.k l.x l.invariant (omega arith) in omega arith

pub returns : goal.returns
returns c = let a = c.args in let l = c.loop-k in let es = edges_of a.batch.now in done es a.i a.j l.k l.x l.invariant (omega arith)
