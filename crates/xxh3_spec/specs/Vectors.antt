-- The definition computed, one vector for each class of lengths. The inputs are n bytes of 7; the sums are those of
-- the reference program `xxhsum -H3`.
use Rattle.std.specs.Prelude.{◌≡◌, refl, [], replicate}
use Rattle.codes.specs.Little.{le_at}
use Rattle.xxh3_spec.specs.Xxh3.{mul, fold, xorshift, rotl, swap, rrmxmx, secret, of1to3, of4to8, of9to16, small, pair, mix_step, inward, of17to128, onward, of129to240, lane, accumulate, stir, scramble, turn, run_on, start_lanes, twice, merge, finish, large, xxh3}

-- no bytes; 1 to 3; 4 to 8; 9 to 16; 17 to 128; 129 to 240; more, within a block; more than a block
pub vectors :
    (xxh3 [] ≡ 0x2d06_8005_38d3_94c2)
    × (xxh3 (replicate 3 7) ≡ 0xe746_0f4c_d026_57c1)
    × (xxh3 (replicate 8 7) ≡ 0x6473_761b_0013_dd58)
    × (xxh3 (replicate 16 7) ≡ 0xfe8a_7fec_7d80_ca73)
    × (xxh3 (replicate 128 7) ≡ 0xc6ca_7d1f_36f3_9470)
    × (xxh3 (replicate 240 7) ≡ 0x6195_14f6_35b8_e4e9)
    × (xxh3 (replicate 300 7) ≡ 0x8aec_4a54_14da_d453)
    × (xxh3 (replicate 1100 7) ≡ 0xfc2f_94fa_cd0a_0cfb)
unfolding le_at mul fold xorshift rotl swap rrmxmx secret of1to3 of4to8 of9to16 small pair mix_step inward of17to128 onward of129to240 lane accumulate stir scramble turn run_on start_lanes twice merge finish large xxh3
vectors = (refl, refl, refl, refl, refl, refl, refl, refl)
