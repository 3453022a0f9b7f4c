-- `group::dense::fill_dense` meets its contract. Invariant: what is still to be copied, copied over what is there, is the whole.
use mathlib.Core.Path.{◌≡◌, ◌∙◌, ap, ap₂, sym}
use Prim.Native.Nat.{ℕ, suc, ◌+◌, ◌≤◌, ◌<◌}
use native.Mathlib.Nat.{add-zero}
use native.Mathlib.Numerals.{add-one}
use native.Mathlib.Omega.{arith}
use mathlib.Core.List.{List, []}
use lib.ListN.{length, drop, get_or, set, length-drop, drop_of_length-le}
use lib.Seq.{sets, drop-cons}
use Rattle.base.specs.Over.{sets_over}
use Rattle.group.proofs.dense.fill_dense.Goals as goal

-- one byte more
more : (g out : List ℕ) (at k : ℕ) → at + k < length g → sets out k (drop (at + k) g) ≡ sets (set out k (get_or g (at + k) 0)) (k + 1) (drop (at + (k + 1)) g)
more g out at k h =
    let x : ℕ = get_or g (at + k) 0 in
    let next : suc (at + k) ≡ at + (k + 1) = omega arith in
    ap (sets out k) (drop-cons g (at + k) 0 h) ∙ ap₂ (λ (i j : ℕ). sets (set out k x) i (drop j g)) (sym (add-one k)) next

pub loop-k-init : goal.loop-k-init
loop-k-init c = rw add-zero

pub loop-k-preserved : goal.loop-k-preserved
loop-k-preserved c =
    let a = c.args in
    let l = c.loop-k in
    sym (more a.g.now l.out a.at l.k (omega arith)) ∙ l.invariant

pub returns : goal.returns
returns c =
    let a = c.args in
    let l = c.loop-k in
    let none : drop (a.at + l.k) a.g.now ≡ [] = drop_of_length-le a.g.now {i = a.at + l.k} (omega arith) in
    let fits : length (drop a.at a.g.now) ≤ length a.out.now = rw length-drop (omega arith) in
    (rw none at l.invariant) ∙ sets_over (drop a.at a.g.now) a.out.now fits
