use Rattle.std.proofs.Common.{ℕ, ◌*◌, ◌/◌, ◌%◌, ◌^◌, ◌<◌, mod-lt, pow_pos, shr_lt, arith}
use Rattle.std.proofs.lemmas.Nat.{mul-lt}
use lib.Bits.{bit_xor, xor_lt}
use Rattle.xxh3_spec.specs.Xxh3.{lane}
use Rattle.xxh3_above240.proofs.large.lane.Goals as goal

-- the halves of a number of 64 bits, multiplied, fit 64 bits
halves_fit : (x y : ℕ) → x < 2 ^ 64 → y < 2 ^ 64 → bit_xor x y % 2 ^ 32 * (bit_xor x y / 2 ^ 32) < 2 ^ 64
halves_fit x y h l =
    let z : ℕ = bit_xor x y in
    omega (arith, mul-lt (z % 2 ^ 32) (z / 2 ^ 32) (2 ^ 32) (2 ^ 32) (mod-lt z (pow_pos 32)) (shr_lt 32 32 (xor_lt 64 x y h l)))

pub overflow_mul-result : goal.overflow_mul-result
overflow_mul-result c = grind (arith, halves_fit)

pub returns : goal.returns
unfolding lane
returns c = grind arith
