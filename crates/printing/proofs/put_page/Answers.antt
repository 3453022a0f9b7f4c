-- `printing::put_page` meets its contract. Invariant: the lines before `next` are put, and none takes more than its room.
use mathlib.Core.Path.{◌≡◌, refl, sym, ap, subst, ◌∙◌}
use Prim.Native.Nat.{ℕ, suc, ◌+◌, ◌-◌, ◌≤◌, ◌<◌}
use native.Mathlib.Omega.{arith}
use mathlib.Core.List.{List, ◌++◌}
use lib.ListN.{length}
use Rattle.base.specs.Put.{Put}
use Rattle.text.specs.Text.Laws.{is, both, put_length, put_none}
use Rattle.printing.specs.Printed.{line_at, lines_from, line_room, line_count, PagePut}
use Rattle.printing.proofs.Laws.Printed.{line_room_lem, lines_none, lines_more}
use Rattle.printing.proofs.put_page.Goals as goal
use Rattle.printing.proofs.put_page.Invariants.{Head}

module _ (minor keys : ℕ) (s o : List ℕ) (from : ℕ) where
  begin : from < line_count s → Head minor keys s o from o from 0
  begin h =
      let none : from - from ≡ 0 = omega arith in
      record {
        begun = omega arith;
        upto = omega arith;
        same = refl;
        within = omega arith;
        few = omega arith;
        lines = is (sym (ap (λ (n : ℕ). lines_from minor keys s n from) none ∙ lines_none minor keys s from)) (put_none o 0);
      }

  again : {out out' : List ℕ} {next at r : ℕ} → Head minor keys s o from out next at → next < line_count s → at + line_room ≤ length o
      → Put out out' at r (line_at minor keys s next) → Head minor keys s o from out' (next + 1) r
  again {next = next} h below room p =
      let b = h.begun in
      let f = h.few in
      let place = p.place in
      let line = line_room_lem minor keys s next in
      let here : from + (next - from) ≡ next = omega arith in
      let more : suc (next - from) ≡ next + 1 - from = omega arith in
      let text : lines_from minor keys s (next - from) from ++ line_at minor keys s next ≡ lines_from minor keys s (next + 1 - from) from
      = ap (λ (k : ℕ). lines_from minor keys s (next - from) from ++ line_at minor keys s k) (sym here)
      ∙ lines_more minor keys s (next - from) from
      ∙ ap (λ (n : ℕ). lines_from minor keys s n from) more in
      record {
        begun = omega arith;
        upto = omega arith;
        same = put_length p ∙ h.same;
        within = omega arith;
        few = omega arith;
        lines = is text (both h.lines p);
      }

  -- the page up to line n
  done : {out : List ℕ} {next at n : ℕ} → Head minor keys s o from out next at → next ≡ n → from < n → PagePut minor keys s o out from n at
  done {out} {at = at} h e = subst (λ (n : ℕ). from < n → PagePut minor keys s o out from n at) e (λ m. record { more = m; upto = h.upto; within = rw h.same h.within; lines = h.lines })

pub overflow_add-lines : goal.overflow_add-lines
overflow_add-lines c = let e = c.edge_count-lines.ensures in omega arith

pub loop-next-init : goal.loop-next-init
loop-next-init c =
    let a = c.args in
    let e = c.edge_count-lines.ensures in
    begin a.minor a.keys a.batch.now a.out.now a.from c.requires.2

pub overflow_sub-out : goal.overflow_sub-out
overflow_sub-out c = let h = c.loop-next.invariant in let w = h.within in let s = h.same in omega arith

pub shape_of-out-then-out-at-lt-LINE : goal.shape_of-out-then-out-at-lt-LINE
shape_of-out-then-out-at-lt-LINE c = c.loop-next.invariant.same

pub returns-then-out-at-lt-LINE : goal.returns-then-out-at-lt-LINE
returns-then-out-at-lt-LINE c =
    let h = c.loop-next.invariant in
    let s = h.same in
    let few = h.few in
    let u = h.upto in
    record { more = omega arith; upto = h.upto; within = rw h.same h.within; lines = h.lines }

pub put_line-at-requires : goal.put_line-at-requires
put_line-at-requires c = let h = c.loop-next.invariant in let s = h.same in (c.requires.0, omega arith)

pub loop-next-preserved : goal.loop-next-preserved
loop-next-preserved c =
    let a = c.args in
    let l = c.loop-next in
    let e = c.edge_count-lines.ensures in
    let s = l.invariant.same in
    again a.minor a.keys a.batch.now a.out.now a.from l.invariant (omega arith) (omega arith) c.put_line-at.ensures

pub shape_of-out : goal.shape_of-out
shape_of-out c = c.loop-next.invariant.same

pub returns : goal.returns
returns c =
    let a = c.args in
    let h = c.loop-next.invariant in
    let u = h.upto in
    let e = c.edge_count-lines.ensures in
    done a.minor a.keys a.batch.now a.out.now a.from h (omega arith) (omega arith)
