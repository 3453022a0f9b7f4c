-- The running sum: XXH3-64 of bytes that come in chunks. The buffer is a ring: byte i of all that were fed lies at i % 256.
-- So the total alone says what lies in it, and every value of the fields is a state.
use Rattle.std.specs.Prelude.{◌≡◌, ℕ, ◌+◌, ◌-◌, ◌*◌, ◌/◌, ◌%◌, ◌^◌, Bool, ◌&&◌, List, [], ◌∷◌, ◌++◌, ltb, leb, eqb, length, take, drop, set, replicate, Ok, Err}
use Rattle.base.specs.Pick.{pick}
use Rattle.refusal.specs.declared.Refusal.{Refusal}
use Rattle.xxh3_spec.specs.Xxh3.{run_on, start_lanes, finish, secret, xxh3}
use Rattle.xxh3_running.specs.declared.State.{State}
use Rattle.xxh3_running.specs.declared.Fed.{Fed}
pub mod Laws
pub mod Sums

-- totals go up to here
abbrev pub most_fed : ℕ
most_fed = 2 ^ 30

-- the state whose parts are lent one by one
abbrev pub state_of : ℕ → List ℕ → List ℕ → State
state_of total lanes buffer = record { total = total; lanes = lanes; buffer = buffer }

-- before any chunk
unfoldable pub new_state : State
new_state = state_of 0 start_lanes (replicate 256 0)

-- after t bytes the buffer is full. It is emptied when the next byte comes and not before: of the last stripe the sum wants the bytes
abbrev pub is_full : ℕ → Bool
is_full t = ltb 0 t && eqb (t % 256) 0

-- the lanes with the four stripes of a full buffer, which holds the last 256 of t bytes
unfoldable pub emptied : ℕ → List ℕ → List ℕ → List ℕ
emptied t lanes buffer = run_on secret lanes buffer (t / 64 - 4) 4

-- one byte more
unfoldable pub byte_more : State → ℕ → State
byte_more st c =
    let t : ℕ = st.total in
    state_of (t + 1) (pick (is_full t) (emptied t st.lanes st.buffer) st.lanes) (set st.buffer (t % 256) c)

-- all bytes of a chunk
unfoldable pub bytes_more : State → List ℕ → State
bytes_more st [] = st
bytes_more st (c ∷ cs) = bytes_more (byte_more st c) cs

-- what a chunk makes of a state: it is taken whole, or refused with 27 and the state stays
unfoldable pub feed_of : State → List ℕ → Fed
feed_of st chunk =
    pick (leb (st.total + length chunk) most_fed)
    (record { told = (Ok tt); state = bytes_more st chunk })
    (record { told = Err Refusal.Chunk; state = st })

-- lent parts hold the state that a chunk made
abbrev pub Leaves : Fed → ℕ → List ℕ → List ℕ → Type 0
Leaves f total lanes buffer = (total ≡ f.state.total) × (lanes ≡ f.state.lanes) × (buffer ≡ f.state.buffer)

-- the buffer after t bytes, the oldest byte first
abbrev pub in_order : ℕ → List ℕ → List ℕ
in_order t buffer = drop (t % 256) buffer ++ take (t % 256) buffer

-- the last 64 of t bytes
unfoldable pub last_bytes : ℕ → List ℕ → List ℕ
last_bytes t buffer = drop 192 (in_order t buffer)

-- the sum of more than 256 bytes: the buffer's stripes before the last byte join the lanes, and then come the last 64 bytes
unfoldable pub long_sum : State → ℕ
long_sum st =
    let before : ℕ = st.total - 1 in
    finish secret (run_on secret st.lanes st.buffer (4 * (before / 256)) (before % 256 / 64))
    (last_bytes st.total st.buffer) 0 st.total

-- the sum of all bytes that were fed
unfoldable pub sum_of : State → ℕ
sum_of st = pick (leb st.total 256) (xxh3 (take st.total st.buffer)) (long_sum st)
