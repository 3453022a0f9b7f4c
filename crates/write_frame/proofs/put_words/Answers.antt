use mathlib.Core.Path.{◌≡◌, refl, sym, ap, subst, ◌∙◌}
use Prim.Native.Nat.{ℕ, ◌+◌, ◌*◌, ◌^◌, ◌≤◌, ◌<◌}
use native.Mathlib.Nat.{add-zero}
use native.Mathlib.Omega.{arith}
use mathlib.Core.List.{List, ◌++◌}
use lib.ListN.{length, get_or, drop}
use lib.Seq.{sets, drop-length}
use Rattle.codes.specs.Stood.{le_stood}
use Rattle.base.specs.Put as P
use Rattle.base.specs.Put.{Put, Left}
use Rattle.codes.specs.Little.{le_at, le_bytes}
use Rattle.codes.specs.Little.Laws.{length_le_bytes}
use Rattle.write_frame.proofs.put_words.Goals as goal
use Rattle.write_frame.proofs.put_words.Invariants.{Head}

module _ (s o : List ℕ) (at : ℕ) (out : List ℕ) (k : ℕ) (h : Head s o at out k) where
  again : (l : ℕ) → l ≡ k + 8 → k + 8 ≤ length s → ((j : ℕ) → get_or s j 0 < 2 ^ 8) → (x : ℕ) → x ≡ le_at s k 8
      → {o₁ : List ℕ} → o₁ ≡ sets out (at + k) (le_bytes 8 x) → Head s o at o₁ l
  again l z inside b x e {o₁} f =
      let d : drop k s ≡ le_bytes 8 x ++ drop (k + 8) s = le_stood 8 s k b inside ∙ ap (λ (t : ℕ). le_bytes 8 t ++ drop (k + 8) s) (sym e) in
      let n = length_le_bytes 8 x in
      let q : Put out o₁ (at + k) (at + (k + 8)) (le_bytes 8 x) = record { place = omega arith; bytes = f } in
      subst (λ (t : ℕ). Head s o at o₁ t) (sym z) (record { upto = inside; left = P.put (P.is d h.left) q })

  done : k ≡ length s → out ≡ sets o at s
  done z = (P.end (ap (λ (t : ℕ). drop t s) z ∙ drop-length s) h.left).bytes

begin : (s o : List ℕ) (at : ℕ) → Head s o at o 0
begin s o at =
    record { upto = omega arith; left = subst (λ (t : ℕ). Left o t s o at s) (sym (add-zero at)) (P.start o at s) }

pub loop-w-init : goal.loop-w-init
loop-w-init c = let a = c.args in begin a.s.now a.out.now a.at

pub put_le-requires : goal.put_le-requires
put_le-requires c = let s = c.loop-w.invariant.left.same in omega arith

pub loop-w-preserved : goal.loop-w-preserved
loop-w-preserved c =
    let a = c.args in
    let l = c.loop-w in
    again a.s.now a.out.now a.at l.out (8 * l.w) l.invariant (8 * (l.w + 1)) (omega arith) (omega arith) (λ j. omega (arith, c.type_inv.s j)) _
    c.le-word.ensures.value c.put_le.ensures

pub returns : goal.returns
returns c =
    let a = c.args in
    let l = c.loop-w in
    let u = l.invariant.upto in
    done a.s.now a.out.now a.at l.out (8 * l.w) l.invariant (omega arith)
