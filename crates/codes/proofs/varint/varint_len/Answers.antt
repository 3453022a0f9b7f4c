-- `codes::varint::varint_len` meets its contract: j / 7 + 1 bytes, where 2 ^ j is the highest power of two in x.
use mathlib.Core.Path.{◌≡◌, ◌∙◌, ap}
use native.Mathlib.Nat.{pow-suc}
use native.Mathlib.Decide.{dec_le}
use Prim.Native.Nat.{ℕ, zero, suc, ◌+◌, ◌-◌, ◌*◌, ◌/◌, ◌^◌, ◌≤◌, ◌<◌}
use native.Mathlib.Omega.{arith}
use lib.ListN.{length}
use lib.Pow.{pow_mono, pow-add}
use lib.Count.{count_leading_zeros, leading_le, leading_top}
use Rattle.codes.specs.Varint.{bytes_from, var_bytes}
use Rattle.codes.specs.Varint.Laws.{bytes_from_lem, length_more, length_last}
use Rattle.codes.proofs.varint.varint_len.Goals as goal

bits : (f x j : ℕ) → 2 ^ j ≤ x → x < 2 ^ suc j → j < 7 * suc f → length (bytes_from f x) ≡ j / 7 + 1
bits zero x j lo hi b =
    let m : 2 ^ suc j ≤ 2 ^ 7 = pow_mono {i = suc j} {j = 7} (omega arith) in
    omega (arith, length_last 0 x (omega arith))
bits (suc f) x j lo hi b =
    elim (dec_le 128 x) [
      | yes q ↦
          elim (dec_le 7 j) [
            | yes r ↦
                let k : ℕ = j - 7 in
                let e : 2 ^ j ≡ 2 ^ k * 2 ^ 7 = ap (λ (t : ℕ). 2 ^ t) (omega arith) ∙ pow-add 2 k 7 in
                let g : 2 ^ suc j ≡ 2 ^ suc k * 2 ^ 7 = ap (λ (t : ℕ). 2 ^ t) (omega arith) ∙ pow-add 2 (suc k) 7 in
                let ih = bits f (x / 128) k (omega arith) (omega arith) (omega arith) in
                omega (arith, length_more f x q, ih)
            | no r ↦
                let m : 2 ^ suc j ≤ 2 ^ 7 = pow_mono {i = suc j} {j = 7} (omega arith) in
                omega arith
          ]
      | no q ↦
          elim (dec_le 7 j) [
            | yes r ↦
                let m : 2 ^ 7 ≤ 2 ^ j = pow_mono {i = 7} {j = j} r in
                omega arith
            | no r ↦ omega (arith, length_last (suc f) x (omega arith))
          ]
    ]

-- x with its lowest bit set: its highest bit is where that of x is, and 0 becomes 1
abbrev odd : ℕ → ℕ
odd x = x / 2 * 2 + 1

from_top : (x j : ℕ) → 2 ^ j ≤ odd x → odd x < 2 ^ suc j → j < 64 → length (var_bytes x) ≡ j / 7 + 1
from_top x zero lo hi b = omega (arith, ap length (bytes_from_lem x), length_last 9 x (omega arith))
from_top x (suc j) lo hi b =
    let e : 2 ^ suc j ≡ 2 ^ j * 2 = pow-suc 2 j in
    ap length (bytes_from_lem x) ∙ bits 9 x (suc j) (omega arith) (omega arith) (omega arith)

top : (x : ℕ) → x < 2 ^ 64 → (j : ℕ) × (count_leading_zeros 64 (odd x) + suc j ≡ 64) × (2 ^ j ≤ odd x) × (odd x < 2 ^ suc j)
top x h = leading_top 64 (odd x) (omega arith) (omega arith)

counted : (x : ℕ) → x < 2 ^ 64 → (9 * (63 - count_leading_zeros 64 (odd x)) + 73) / 64 ≡ length (var_bytes x)
counted x h = let (j, e, lo, hi) = top x h in omega (arith, from_top x j lo hi (omega arith))

pub overflow_cast-top : goal.overflow_cast-top
overflow_cast-top c = omega (arith, leading_le 64 (odd c.args.x))

pub overflow_sub-top : goal.overflow_sub-top
overflow_sub-top c = let (j, e, lo, hi) = top c.args.x c.ranges.x.fits in omega arith

pub returns : goal.returns
returns c = counted c.args.x c.ranges.x.fits
