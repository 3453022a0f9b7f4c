-- `codes::varint::more_at` meets its contract. Invariant: the rest, read from byte k on over x with the weight m, is the whole.
use mathlib.Core.Path.{◌≡◌, ◌∙◌, sym, refl}
use Prim.Native.Nat.{ℕ, suc, ◌+◌, ◌-◌, ◌*◌, ◌%◌, ◌^◌, ◌≤◌, ◌<◌}
use native.Mathlib.Nat.{pow-suc}
use native.Mathlib.Numerals.{add-one}
use native.Mathlib.Omega.{arith}
use mathlib.Core.List.{List}
use lib.ListN.{length, get_or}
use Rattle.codes.specs.Varint.{var_from}
use Rattle.codes.specs.Varint.Laws.{from_none, from_cut, from_more, from_last, digit_lt, weight_le}
use Rattle.codes.proofs.varint.more_at.Goals as goal
use Rattle.codes.proofs.varint.more_at.Invariants.{Head}

module _ (s : List ℕ) (at low x m k : ℕ) (h : Head s at low x m k) (lt : k < 10) where
  -- at k the fuel is one more than at k + 1
  whole : var_from (suc (9 - k)) s (at + k) x m ≡ var_from 9 s (at + 1) low 128
  whole = let e : 10 - k ≡ suc (9 - k) = omega arith in (rw e at h.4)

  small : k ≤ 8 → m ≤ 2 ^ 56
  small g = weight_le m k h.3 g

  -- the next digit keeps x below the next weight
  digit : (d : ℕ) → d < 128 → x + d * m < m * 128
  digit d g = digit_lt d x m g h.2

  next : (b : ℕ) → b % 128 < 128 → at + k < length s → b ≡ get_or s (at + k) 0 → 128 ≤ b → Head s at low (x + b % 128 * m) (m * 128) (k + 1)
  next b l g e big = (
    omega arith,
    omega arith,
    digit (b % 128) l,
    rw add-one (rw pow-suc (rw (← h.3))),
    let f : 10 - (k + 1) ≡ 9 - k = omega arith in
        let p : at + (k + 1) ≡ at + k + 1 = omega arith in
        rw (f, p, e) (sym (from_more s (at + k) x m (9 - k) g (rw e at big)) ∙ whole),
  )

pub loop-k-init : goal.loop-k-init
loop-k-init c = (omega arith, omega arith, c.requires.1, refl, refl)

pub returns-then-left-k : goal.returns-then-left-k
returns-then-left-k c =
    let a = c.args in
    let l = c.loop-k in
    sym (from_cut a.s.now (a.at + l.k) l.x l.m (9 - l.k) (omega arith)) ∙ whole a.s.now a.at a.low l.x l.m l.k l.invariant (omega arith)

pub overflow_cast-b : goal.overflow_cast-b
overflow_cast-b c = omega (arith, c.type_inv.s (c.args.at + c.loop-k.k))

pub last_byte-requires : goal.last_byte-requires
last_byte-requires c =
    let l = c.loop-k in
    (omega arith, omega arith, l.invariant.2, l.invariant.3, omega arith)

pub returns-then-b-lt128 : goal.returns-then-b-lt128
returns-then-b-lt128 c =
    let a = c.args in
    let l = c.loop-k in
    let w = whole a.s.now a.at a.low l.x l.m l.k l.invariant (omega arith) in
    rw c.last_byte.ensures (sym (from_last a.s.now (a.at + l.k) l.x l.m (9 - l.k) (omega arith) (omega arith)) ∙ w)

pub returns-then-k-eq9 : goal.returns-then-k-eq9
returns-then-k-eq9 c =
    let a = c.args in
    let l = c.loop-k in
    let w = whole a.s.now a.at a.low l.x l.m l.k l.invariant (omega arith) in
    let byte = c.type_inv.s (a.at + l.k) in
    let z : 9 - l.k ≡ 0 = omega arith in
    sym (from_more a.s.now (a.at + l.k) l.x l.m (9 - l.k) (omega arith) (omega arith) ∙ rw z (from_none _ _ _ _)) ∙ w

pub overflow_mul-x : goal.overflow_mul-x
overflow_mul-x c =
    let a = c.args in
    let l = c.loop-k in
    let byte = c.type_inv.s (a.at + l.k) in
    omega (arith, digit a.s.now a.at a.low l.x l.m l.k l.invariant (omega arith) (get_or a.s.now (a.at + l.k) 0 % 128) (omega arith), small a.s.now a.at a.low l.x l.m l.k l.invariant (omega arith) (omega arith))

pub overflow_add-x : goal.overflow_add-x
overflow_add-x c =
    let a = c.args in
    let l = c.loop-k in
    let byte = c.type_inv.s (a.at + l.k) in
    omega (arith, digit a.s.now a.at a.low l.x l.m l.k l.invariant (omega arith) (get_or a.s.now (a.at + l.k) 0 % 128) (omega arith), small a.s.now a.at a.low l.x l.m l.k l.invariant (omega arith) (omega arith))

pub overflow_mul-m : goal.overflow_mul-m
overflow_mul-m c =
    let a = c.args in
    let l = c.loop-k in
    let byte = c.type_inv.s (a.at + l.k) in
    omega (arith, digit a.s.now a.at a.low l.x l.m l.k l.invariant (omega arith) (get_or a.s.now (a.at + l.k) 0 % 128) (omega arith), small a.s.now a.at a.low l.x l.m l.k l.invariant (omega arith) (omega arith))

pub loop-k-preserved : goal.loop-k-preserved
loop-k-preserved c =
    let a = c.args in
    let l = c.loop-k in
    let byte = c.type_inv.s (a.at + l.k) in
    next a.s.now a.at a.low l.x l.m l.k l.invariant (omega arith) (get_or a.s.now (a.at + l.k) 0) (omega arith) (omega arith) refl (omega arith)

pub returns : goal.returns
returns c =
    let a = c.args in
    let l = c.loop-k in
    let z : 10 - l.k ≡ 0 = omega arith in
    sym (from_none a.s.now (a.at + l.k) l.x l.m) ∙ (rw z at l.invariant.4)
