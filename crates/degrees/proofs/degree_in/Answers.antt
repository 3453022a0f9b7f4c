-- `degrees::degree_in` meets its contract.
use mathlib.Core.Path.{◌≡◌, refl, sym, ap, ◌∙◌}
use Prim.Native.Nat.{ℕ, ◌<◌}
use mathlib.Core.List.{List}
use lib.ListN.{length}
use Rattle.std.proofs.Math.Decide.{dec_le}
use Rattle.std.specs.Prelude.{Result, Ok, Err, Some, None}
use Rattle.std.specs.Result.{result_ok}
use Rattle.std.proofs.Common.{inl, inr}
use Rattle.base.specs.Over.{part}
use Rattle.degrees.specs.Degrees.{degree_in}
use Rattle.codes.specs.Varint.{varint_at}
use Rattle.degrees.specs.Degrees.Laws.{in_falls, in_past, in_zero, in_is, in_unread}
use native.Mathlib.Omega.{arith}
use borrow.Author.Rules.{rules}
use Rattle.degrees.proofs.degree_in.Goals as goal

-- what `ok` leaves of a result
ok_some : {X E : Type 0} (r : Result X E) (x : X) → Some x ≡ result_ok r → r ≡ Ok x
ok_some (Ok y) x e = let z : y ≡ x = cc in ap Ok z
ok_some (Err d) x e = let z : ◌≡◌ {A = ℕ} 0 1 = cc in absurd (omega arith)

ok_none : {X E : Type 0} (r : Result X E) → None ≡ result_ok r → (d : E) × (r ≡ Err d)
ok_none (Ok y) e = let z : ◌≡◌ {A = ℕ} 0 1 = cc in absurd (omega arith)
ok_none (Err d) e = (d, refl)

-- past the end, whether it falls or not
past : (p : List ℕ) (a e : ℕ) → length p < e → None ≡ degree_in p a e
past p a e h =
    elim (dec_le a e) [
      | yes k ↦ sym (in_past p a e k h)
      | no k ↦ sym (in_falls p a e (omega arith))
    ]

pub returns-in_err-group : goal.returns-in_err-group
returns-in_err-group c = let a = c.args in
    c.from_residual.ensures
    ∙ elim c.in_err-group.ensures.lookup.0 [ inl h ↦ sym (in_falls a.partners.now a.a a.e h) | inr h ↦ past a.partners.now a.a a.e h ]

pub returns-in_err-degree : goal.returns-in_err-degree
returns-in_err-degree c = let a = c.args in
    let h = c.in_ok-group.ensures.lookup.0 in
    let read : c.varint_at.result ≡ varint_at (part a.partners.now a.a a.e) 0 = c.varint_at.ensures ∙ ap (λ (s : List ℕ). varint_at s 0) (search (rules, h.2)) in
    let (why, e) = ok_none _ c.in_err-degree.ensures.value in
    c.from_residual-in_err-degree.ensures
    ∙ sym (in_unread a.partners.now a.a a.e h.0 h.1 why (sym read ∙ e))

pub returns-then-degree-eq0 : goal.returns-then-degree-eq0
returns-then-degree-eq0 c = let a = c.args in
    let h = c.in_ok-group.ensures.lookup.0 in
    let read : c.varint_at.result ≡ varint_at (part a.partners.now a.a a.e) 0 = c.varint_at.ensures ∙ ap (λ (s : List ℕ). varint_at s 0) (search (rules, h.2)) in
    let e = ok_some _ _ c.in_ok-degree.ensures.value in
    sym (in_zero a.partners.now a.a a.e h.0 h.1 _ _ (sym read ∙ e) c.if-degree-eq0.true)

pub returns : goal.returns
returns c = let a = c.args in
    let h = c.in_ok-group.ensures.lookup.0 in
    let read : c.varint_at.result ≡ varint_at (part a.partners.now a.a a.e) 0 = c.varint_at.ensures ∙ ap (λ (s : List ℕ). varint_at s 0) (search (rules, h.2)) in
    let e = ok_some _ _ c.in_ok-degree.ensures.value in
    sym (in_is a.partners.now a.a a.e h.0 h.1 _ _ (sym read ∙ e) c.if-degree-eq0.false)
