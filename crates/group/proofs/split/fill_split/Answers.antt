-- `group::split::fill_split` meets its contract. Invariant: the rest is good, and written over what is there it is the whole.
use mathlib.Core.Path.{◌≡◌, sym, ◌∙◌}
use Prim.Native.Nat.{ℕ, suc, ◌+◌, ◌-◌, ◌*◌}
use native.Mathlib.Nat.{sub-zero}
use native.Mathlib.Omega.{arith}
use borrow.Author.Rules.{rules}
use mathlib.Core.List.{List}
use mathlib.Core.Bool.{false}
use lib.Seq.{sets}
use Rattle.base.specs.Over.{sets_over}
use Rattle.base.specs.Put.{Put, start, is, put, end}
use Rattle.codes.specs.declared.ids.Id.{Id}
use Rattle.codes.specs.Ids.{be_bytes, id_bytes, id_number}
use Rattle.codes.specs.Ids.Laws.{put_halves, length_id_bytes}
use Rattle.group.specs.Group.{walk_from, partners_of, bytes_of}
use Rattle.group.proofs.Laws.Group.{fill_turn, fill_read, fill_end}
use Rattle.group.proofs.split.fill_split.Goals as goal

-- the two halves are written one after the other
put_partner : (out : List ℕ) {out' out'' : List ℕ} (k : ℕ) (p : Id) {h l : ℕ} → out' ≡ sets out (16 * k) (be_bytes 8 h) → out'' ≡ sets out' (16 * k + 8) (be_bytes 8 l)
    → p.hi ≡ h → p.lo ≡ l → Put out out'' (16 * k) (16 * (k + 1)) (id_bytes p)
put_partner out k p a b up low =
    let long = length_id_bytes p in record { place = omega arith; bytes = cc (put_halves out (16 * k) p) }

pub loop-k-init : goal.loop-k-init
loop-k-init c =
    let a = c.args in
    (0, rw sub-zero c.requires.0, rw sub-zero (start a.out.now 0 (bytes_of (partners_of (walk_from false a.degree a.g.now a.at 0 0)))))

pub overflow_add-hi : goal.overflow_add-hi
overflow_add-hi c =
    let a = c.args in
    let l = c.loop-k in
    let e : a.degree - l.k ≡ suc (a.degree - (l.k + 1)) = omega arith in
    let t = fill_turn a.g.now l.i l.hi l.invariant.0 (a.degree - (l.k + 1)) (rw e at l.invariant.1) _ _ (sym c.short_at.ensures ∙ c.in-Ok.is) in
    omega (arith, t.fits)

pub le-requires : goal.le-requires
le-requires c =
    let a = c.args in
    let l = c.loop-k in
    let e : a.degree - l.k ≡ suc (a.degree - (l.k + 1)) = omega arith in
    let t = fill_turn a.g.now l.i l.hi l.invariant.0 (a.degree - (l.k + 1)) (rw e at l.invariant.1) _ _ (sym c.short_at.ensures ∙ c.in-Ok.is) in
    (search rules, t.room)

pub overflow_add-i : goal.overflow_add-i
overflow_add-i c =
    let a = c.args in
    let l = c.loop-k in
    let e : a.degree - l.k ≡ suc (a.degree - (l.k + 1)) = omega arith in
    let t = fill_turn a.g.now l.i l.hi l.invariant.0 (a.degree - (l.k + 1)) (rw e at l.invariant.1) _ _ (sym c.short_at.ensures ∙ c.in-Ok.is) in
    omega (arith, t.room)

pub loop-k-preserved : goal.loop-k-preserved
loop-k-preserved c =
    let a = c.args in
    let l = c.loop-k in
    let e : a.degree - l.k ≡ suc (a.degree - (l.k + 1)) = omega arith in
    let t = fill_turn a.g.now l.i l.hi l.invariant.0 (a.degree - (l.k + 1)) (rw e at l.invariant.1) _ _ (sym c.short_at.ensures ∙ c.in-Ok.is) in
    let w = put_partner l.out l.k t.partner c.put_be64.ensures c.put_be64-in-loop-k.ensures t.upper (t.lower ∙ sym c.le.ensures.value) in
    let left = rw e at l.invariant.2 in
    (suc (id_number t.partner), t.rest, put (is t.bytes left) w)

pub returns-in_default : goal.returns-in_default
returns-in_default c =
    let a = c.args in
    let l = c.loop-k in
    let e : a.degree - l.k ≡ suc (a.degree - (l.k + 1)) = omega arith in
    absurd (fill_read a.g.now l.i l.hi l.invariant.0 (a.degree - (l.k + 1)) (rw e at l.invariant.1) _ (sym c.short_at.ensures ∙ c.in_default.is))

pub returns : goal.returns
returns c =
    let a = c.args in
    let l = c.loop-k in
    let z : a.degree - l.k ≡ 0 = omega arith in
    let left = rw z at l.invariant.2 in
    let done = end (fill_end a.g.now l.i l.hi l.invariant.0) left in
    done.bytes ∙ sets_over (bytes_of (partners_of (walk_from false a.degree a.g.now a.at 0 0))) a.out.now (omega (arith, done.place))
