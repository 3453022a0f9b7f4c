-- XXH3 of 64 bits with seed 0 and the default secret, as the public xxHash specification has it, on lists of bytes.
use Rattle.std.specs.Prelude.{ℕ, zero, suc, ◌+◌, ◌-◌, ◌*◌, ◌/◌, ◌%◌, ◌^◌, List, [], ◌∷◌, cond, ltb, leb, length, get_or}
use Rattle.std.specs.Int.Bits.{bit_xor, bit_or}
use Rattle.codes.specs.Little.{le_at}
pub mod Laws

-- ---- the specification's constants: PRIME32_1 to 3, PRIME64_1 to 5, PRIME_MX1 and 2

abbrev pub prime32_1 : ℕ
prime32_1 = 0x9e37_79b1

abbrev pub prime32_2 : ℕ
prime32_2 = 0x85eb_ca77

abbrev pub prime32_3 : ℕ
prime32_3 = 0xc2b2_ae3d

abbrev pub prime64_1 : ℕ
prime64_1 = 0x9e37_79b1_85eb_ca87

abbrev pub prime64_2 : ℕ
prime64_2 = 0xc2b2_ae3d_27d4_eb4f

abbrev pub prime64_3 : ℕ
prime64_3 = 0x1656_67b1_9e37_79f9

abbrev pub prime64_4 : ℕ
prime64_4 = 0x85eb_ca77_c2b2_ae63

abbrev pub prime64_5 : ℕ
prime64_5 = 0x27d4_eb2f_1656_67c5

abbrev pub mx1 : ℕ
mx1 = 0x1656_6791_9e37_79f9

abbrev pub mx2 : ℕ
mx2 = 0x9fb2_1c65_1e98_df25

-- ---- sums, products and turns of 64 bits

abbrev pub add : ℕ → ℕ → ℕ
add a b = (a + b) % 2 ^ 64

unfoldable pub mul : ℕ → ℕ → ℕ
mul a b = a * b % 2 ^ 64

-- the two halves of a product of 128 bits, folded into one
unfoldable pub fold : ℕ → ℕ → ℕ
fold a b = bit_xor (a * b % 2 ^ 64) (a * b / 2 ^ 64)

unfoldable pub xorshift : ℕ → ℕ → ℕ
xorshift k x = bit_xor x (x / 2 ^ k)

-- x turned left by k bits, for k from 1 to 63
unfoldable pub rotl : ℕ → ℕ → ℕ
rotl k x = bit_or (x * 2 ^ k % 2 ^ 64) (x / 2 ^ (64 - k))

-- the eight bytes of x in the other order
unfoldable pub swap : ℕ → ℕ
swap x =
    x % 2 ^ 8 * 2 ^ 56
    + x / 2 ^ 8 % 2 ^ 8 * 2 ^ 48
    + x / 2 ^ 16 % 2 ^ 8 * 2 ^ 40
    + x / 2 ^ 24 % 2 ^ 8 * 2 ^ 32
    + x / 2 ^ 32 % 2 ^ 8 * 2 ^ 24
    + x / 2 ^ 40 % 2 ^ 8 * 2 ^ 16
    + x / 2 ^ 48 % 2 ^ 8 * 2 ^ 8
    + x / 2 ^ 56

-- the final mix of XXH3, and that of XXH64
abbrev pub avalanche : ℕ → ℕ
avalanche x = xorshift 32 (mul (xorshift 37 x) mx1)

abbrev pub avalanche64 : ℕ → ℕ
avalanche64 x = xorshift 32 (mul (xorshift 29 (mul (xorshift 33 x) prime64_2)) prime64_3)

-- the mix for 4 to 8 bytes, n of them
unfoldable pub rrmxmx : ℕ → ℕ → ℕ
rrmxmx x n =
    let y : ℕ = mul (bit_xor (bit_xor x (rotl 49 x)) (rotl 24 x)) mx2 in
    xorshift 28 (mul (bit_xor y (y / 2 ^ 35 + n)) mx2)

-- ---- the secret

unfoldable pub secret : List ℕ
secret =
    0xb8 ∷ 0xfe ∷ 0x6c ∷ 0x39 ∷ 0x23 ∷ 0xa4 ∷ 0x4b ∷ 0xbe ∷ 0x7c ∷ 0x01 ∷ 0x81 ∷ 0x2c ∷ 0xf7 ∷ 0x21 ∷ 0xad ∷ 0x1c ∷
    0xde ∷ 0xd4 ∷ 0x6d ∷ 0xe9 ∷ 0x83 ∷ 0x90 ∷ 0x97 ∷ 0xdb ∷ 0x72 ∷ 0x40 ∷ 0xa4 ∷ 0xa4 ∷ 0xb7 ∷ 0xb3 ∷ 0x67 ∷ 0x1f ∷
    0xcb ∷ 0x79 ∷ 0xe6 ∷ 0x4e ∷ 0xcc ∷ 0xc0 ∷ 0xe5 ∷ 0x78 ∷ 0x82 ∷ 0x5a ∷ 0xd0 ∷ 0x7d ∷ 0xcc ∷ 0xff ∷ 0x72 ∷ 0x21 ∷
    0xb8 ∷ 0x08 ∷ 0x46 ∷ 0x74 ∷ 0xf7 ∷ 0x43 ∷ 0x24 ∷ 0x8e ∷ 0xe0 ∷ 0x35 ∷ 0x90 ∷ 0xe6 ∷ 0x81 ∷ 0x3a ∷ 0x26 ∷ 0x4c ∷
    0x3c ∷ 0x28 ∷ 0x52 ∷ 0xbb ∷ 0x91 ∷ 0xc3 ∷ 0x00 ∷ 0xcb ∷ 0x88 ∷ 0xd0 ∷ 0x65 ∷ 0x8b ∷ 0x1b ∷ 0x53 ∷ 0x2e ∷ 0xa3 ∷
    0x71 ∷ 0x64 ∷ 0x48 ∷ 0x97 ∷ 0xa2 ∷ 0x0d ∷ 0xf9 ∷ 0x4e ∷ 0x38 ∷ 0x19 ∷ 0xef ∷ 0x46 ∷ 0xa9 ∷ 0xde ∷ 0xac ∷ 0xd8 ∷
    0xa8 ∷ 0xfa ∷ 0x76 ∷ 0x3f ∷ 0xe3 ∷ 0x9c ∷ 0x34 ∷ 0x3f ∷ 0xf9 ∷ 0xdc ∷ 0xbb ∷ 0xc7 ∷ 0xc7 ∷ 0x0b ∷ 0x4f ∷ 0x1d ∷
    0x8a ∷ 0x51 ∷ 0xe0 ∷ 0x4b ∷ 0xcd ∷ 0xb4 ∷ 0x59 ∷ 0x31 ∷ 0xc8 ∷ 0x9f ∷ 0x7e ∷ 0xc9 ∷ 0xd9 ∷ 0x78 ∷ 0x73 ∷ 0x64 ∷
    0xea ∷ 0xc5 ∷ 0xac ∷ 0x83 ∷ 0x34 ∷ 0xd3 ∷ 0xeb ∷ 0xc3 ∷ 0xc5 ∷ 0x81 ∷ 0xa0 ∷ 0xff ∷ 0xfa ∷ 0x13 ∷ 0x63 ∷ 0xeb ∷
    0x17 ∷ 0x0d ∷ 0xdd ∷ 0x51 ∷ 0xb7 ∷ 0xf0 ∷ 0xda ∷ 0x49 ∷ 0xd3 ∷ 0x16 ∷ 0x55 ∷ 0x26 ∷ 0x29 ∷ 0xd4 ∷ 0x68 ∷ 0x9e ∷
    0x2b ∷ 0x16 ∷ 0xbe ∷ 0x58 ∷ 0x7d ∷ 0x47 ∷ 0xa1 ∷ 0xfc ∷ 0x8f ∷ 0xf8 ∷ 0xb8 ∷ 0xd1 ∷ 0x7a ∷ 0xd0 ∷ 0x31 ∷ 0xce ∷
    0x45 ∷ 0xcb ∷ 0x3a ∷ 0x8f ∷ 0x95 ∷ 0x16 ∷ 0x04 ∷ 0x28 ∷ 0xaf ∷ 0xd7 ∷ 0xfb ∷ 0xca ∷ 0xbb ∷ 0x4b ∷ 0x40 ∷ 0x7e ∷ []

-- ---- 0 to 16 bytes

abbrev pub nothing : ℕ
nothing = avalanche64 (bit_xor (le_at secret 56 8) (le_at secret 64 8))

-- 1 to 3 bytes: the last, the length, the first and the middle one
unfoldable pub of1to3 : List ℕ → ℕ
of1to3 s =
    avalanche64
    (bit_xor (get_or s (length s - 1) 0 + length s * 2 ^ 8 + get_or s 0 0 * 2 ^ 16 + get_or s (length s / 2) 0 * 2 ^ 24)
    (bit_xor (le_at secret 0 4) (le_at secret 4 4)))

-- 4 to 8 bytes: the last four and the first four
unfoldable pub of4to8 : List ℕ → ℕ
of4to8 s =
    rrmxmx (bit_xor (le_at s (length s - 4) 4 + le_at s 0 4 * 2 ^ 32) (bit_xor (le_at secret 8 8) (le_at secret 16 8))) (length s)

-- 9 to 16 bytes: the first eight and the last eight
unfoldable pub of9to16 : List ℕ → ℕ
of9to16 s =
    let a : ℕ = bit_xor (le_at s 0 8) (bit_xor (le_at secret 24 8) (le_at secret 32 8)) in
    let b : ℕ = bit_xor (le_at s (length s - 8) 8) (bit_xor (le_at secret 40 8) (le_at secret 48 8)) in
    avalanche (add (add (add (length s) (swap a)) b) (fold a b))

unfoldable pub small : List ℕ → ℕ
small s =
    cond (ltb 8 (length s)) (of9to16 s)
    (cond (ltb 3 (length s)) (of4to8 s)
    (cond (ltb 0 (length s)) (of1to3 s)
    nothing))

-- ---- 17 to 240 bytes, with the secret q

-- sixteen bytes of s from i on, with two words of the secret
unfoldable pub pair : List ℕ → ℕ → ℕ → ℕ → ℕ
pair s i x y = fold (bit_xor (le_at s i 8) x) (bit_xor (le_at s (i + 8) 8) y)

-- with the secret from k on
unfoldable pub mix_step : List ℕ → List ℕ → ℕ → ℕ → ℕ
mix_step q s i k = pair s i (le_at q k 8) (le_at q (k + 8) 8)

-- n rounds, each of 16 bytes as far from the start as from the end, the innermost first
unfoldable pub inward : List ℕ → List ℕ → ℕ → ℕ → ℕ
inward q s zero h = h
inward q s (suc i) h = inward q s i (add (add h (mix_step q s (16 * i) (32 * i))) (mix_step q s (length s - 16 * i - 16) (32 * i + 16)))

unfoldable pub of17to128 : List ℕ → List ℕ → ℕ
of17to128 q s = avalanche (inward q s ((length s - 1) / 32 + 1) (mul (length s) prime64_1))

-- n rounds of 16 bytes, from i on, with the secret from k on
unfoldable pub onward : List ℕ → List ℕ → ℕ → ℕ → ℕ → ℕ → ℕ
onward q s i k zero h = h
onward q s i k (suc n) h = add (onward q s i k n h) (mix_step q s (i + 16 * n) (k + 16 * n))

unfoldable pub of129to240 : List ℕ → List ℕ → ℕ
of129to240 q s =
    avalanche
    (add (onward q s 128 3 (length s / 16 - 8) (avalanche (onward q s 0 0 8 (mul (length s) prime64_1))))
    (mix_step q s (length s - 16) 119))

-- ---- more than 240 bytes, with the secret q: a state of eight numbers

-- the number a of lane j, after the 64 bytes of s from i on with the secret from k on; o is the lane beside j
unfoldable pub lane : List ℕ → ℕ → List ℕ → ℕ → ℕ → ℕ → ℕ → ℕ
lane q a s i k j o =
    let x : ℕ = bit_xor (le_at s (i + 8 * j) 8) (le_at q (k + 8 * j) 8) in
    add (add a (le_at s (i + 8 * o) 8)) (x % 2 ^ 32 * (x / 2 ^ 32))

unfoldable pub accumulate : List ℕ → List ℕ → List ℕ → ℕ → ℕ → List ℕ
accumulate q a s i k =
    lane q (get_or a 0 0) s i k 0 1 ∷ lane q (get_or a 1 0) s i k 1 0 ∷
    lane q (get_or a 2 0) s i k 2 3 ∷ lane q (get_or a 3 0) s i k 3 2 ∷
    lane q (get_or a 4 0) s i k 4 5 ∷ lane q (get_or a 5 0) s i k 5 4 ∷
    lane q (get_or a 6 0) s i k 6 7 ∷ lane q (get_or a 7 0) s i k 7 6 ∷ []

unfoldable pub stir : List ℕ → ℕ → ℕ → ℕ
stir q a j = mul (bit_xor (xorshift 47 a) (le_at q (128 + 8 * j) 8)) prime32_1

unfoldable pub scramble : List ℕ → List ℕ → List ℕ
scramble q a =
    stir q (get_or a 0 0) 0 ∷ stir q (get_or a 1 0) 1 ∷ stir q (get_or a 2 0) 2 ∷ stir q (get_or a 3 0) 3 ∷
    stir q (get_or a 4 0) 4 ∷ stir q (get_or a 5 0) 5 ∷ stir q (get_or a 6 0) 6 ∷ stir q (get_or a 7 0) 7 ∷ []

-- the state a after stripe n of all, the 64 bytes of s from i on. A block is 16 stripes: in it the secret moves by 8 bytes with each stripe, and
-- after it the state is scrambled
unfoldable pub turn : List ℕ → List ℕ → List ℕ → ℕ → ℕ → List ℕ
turn q a s i n =
    let x : List ℕ = accumulate q a s i (8 * (n % 16)) in
    cond (ltb (n % 16) 15) x (scramble q x)

-- the state a after n stripes of s, the first of them stripe k of all
unfoldable pub run_on : List ℕ → List ℕ → List ℕ → ℕ → ℕ → List ℕ
run_on q a s k zero = a
run_on q a s k (suc n) = turn q (run_on q a s k n) s (64 * n) (k + n)

-- the state a after the first n stripes of s
abbrev pub run : List ℕ → List ℕ → List ℕ → ℕ → List ℕ
run q a s n = run_on q a s 0 n

unfoldable pub start_lanes : List ℕ
start_lanes =
    prime32_3 ∷ prime64_1 ∷ prime64_2 ∷ prime64_3 ∷
    prime64_4 ∷ prime32_2 ∷ prime64_5 ∷ prime32_1 ∷ []

-- two lanes folded, with the secret from k on
unfoldable pub twice : List ℕ → ℕ → ℕ → ℕ → ℕ
twice q x y k = fold (bit_xor x (le_at q k 8)) (bit_xor y (le_at q (k + 8) 8))

unfoldable pub merge : List ℕ → List ℕ → ℕ → ℕ
merge q a n =
    avalanche
    (add (add (add (add (mul n prime64_1)
    (twice q (get_or a 0 0) (get_or a 1 0) 11))
    (twice q (get_or a 2 0) (get_or a 3 0) 27))
    (twice q (get_or a 4 0) (get_or a 5 0) 43))
    (twice q (get_or a 6 0) (get_or a 7 0) 59))

-- the sum of n bytes: a is the state after all stripes before the last byte, and the last 64 bytes are those of s from i on
unfoldable pub finish : List ℕ → List ℕ → List ℕ → ℕ → ℕ → ℕ
finish q a s i n = merge q (accumulate q a s i 121) n

unfoldable pub large : List ℕ → List ℕ → ℕ
large q s = finish q (run q start_lanes s ((length s - 1) / 64)) s (length s - 64) (length s)

-- ---- the checksum

unfoldable pub xxh3 : List ℕ → ℕ
xxh3 s =
    cond (leb (length s) 16) (small s)
    (cond (leb (length s) 128) (of17to128 secret s)
    (cond (leb (length s) 240) (of129to240 secret s)
    (large secret s)))
