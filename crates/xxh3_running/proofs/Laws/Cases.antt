-- The definitions computed at the edges of their rules. The inputs are n bytes of 7; the sums are those of the reference program
-- `xxhsum -H3`, as in `xxh3_spec/specs/Vectors`.
use Rattle.std.specs.Prelude.{◌≡◌, refl, ℕ, ◌+◌, ◌-◌, ◌^◌, List, [], ◌∷◌, replicate, Err, Ok}
use Rattle.codes.specs.Little.{le_at}
use Rattle.refusal.specs.declared.Refusal.{Refusal}
use Rattle.xxh3_spec.specs.Xxh3.{mul, fold, xorshift, rotl, swap, rrmxmx, secret, of1to3, of4to8, of9to16, small, pair, mix_step, inward, of17to128, onward, of129to240, lane, accumulate, stir, scramble, turn, run_on, start_lanes, twice, merge, finish, large, xxh3}
use Rattle.xxh3_running.specs.Running.{state_of, new_state, emptied, byte_more, bytes_more, feed_of, last_bytes, long_sum, sum_of}
use Rattle.xxh3_running.specs.Chunks.{feed_all}

abbrev sevens : ℕ → List ℕ
sevens n = replicate n 7

-- a new state counts no bytes and holds zeros, which no sum sees
pub new_state_lem : (new_state.total ≡ 0) × (new_state.buffer ≡ replicate 256 0)
unfolding new_state
new_state_lem = (refl, refl)

-- no chunk; an empty one; 240 bytes; a full buffer, and one byte more; 300 bytes, cut in the buffer, at its end and behind it; 1100 bytes, over a
-- scramble
pub sums :
    (sum_of (feed_all new_state []) ≡ 0x2d06_8005_38d3_94c2)
    × (sum_of (feed_all new_state ([] ∷ [])) ≡ 0x2d06_8005_38d3_94c2)
    × (sum_of (feed_all new_state (sevens 1 ∷ sevens 239 ∷ [])) ≡ 0x6195_14f6_35b8_e4e9)
    × (sum_of (feed_all new_state (sevens 256 ∷ [])) ≡ 0xead3_3d6a_07ad_9544)
    × (sum_of (feed_all new_state (sevens 256 ∷ sevens 1 ∷ [])) ≡ 0x8968_282c_642e_1037)
    × (sum_of (feed_all new_state (sevens 100 ∷ [] ∷ sevens 200 ∷ [])) ≡ 0x8aec_4a54_14da_d453)
    × (sum_of (feed_all new_state (sevens 256 ∷ sevens 44 ∷ [])) ≡ 0x8aec_4a54_14da_d453)
    × (sum_of (feed_all new_state (sevens 257 ∷ sevens 43 ∷ [])) ≡ 0x8aec_4a54_14da_d453)
    × (sum_of (feed_all new_state (sevens 300 ∷ sevens 724 ∷ sevens 76 ∷ [])) ≡ 0xfc2f_94fa_cd0a_0cfb)
unfolding le_at mul fold xorshift rotl swap rrmxmx secret of1to3 of4to8 of9to16 small pair mix_step inward of17to128 onward of129to240 lane accumulate stir scramble turn run_on start_lanes twice merge finish large xxh3 new_state emptied byte_more bytes_more feed_of last_bytes long_sum sum_of feed_all
sums = (refl, refl, refl, refl, refl, refl, refl, refl, refl)

-- 2^30 bytes may be reached and not passed; there the empty chunk is taken, and behind it not even that
pub bound :
    ((feed_of (state_of (2 ^ 30 - 1) [] []) (7 ∷ [])).told ≡ (Ok tt))
    × ((feed_of (state_of (2 ^ 30 - 1) [] []) (7 ∷ 7 ∷ [])).told ≡ Err Refusal.Chunk)
    × ((feed_of (state_of (2 ^ 30) [] []) []).told ≡ (Ok tt))
    × ((feed_of (state_of (2 ^ 30) [] []) (7 ∷ [])).told ≡ Err Refusal.Chunk)
    × ((feed_of (state_of (2 ^ 30 + 1) [] []) []).told ≡ Err Refusal.Chunk)
unfolding feed_of
bound = (refl, refl, refl, refl, refl)
