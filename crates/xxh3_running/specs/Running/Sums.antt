-- What is summed is what was fed: the sum of a state is the XXH3-64 of all its bytes in a row.
use Rattle.std.specs.Prelude.{◌≡◌, length, get_or}
use Prim.Native.Nat.{ℕ, ◌+◌, ◌-◌, ◌*◌, ◌/◌, ◌%◌, ◌≤◌, ◌<◌}
use mathlib.Core.List.{List}
use Rattle.xxh3_spec.specs.Xxh3.{run, start_lanes, secret}
use Rattle.xxh3_running.specs.declared.State.{State}

-- the state is that of the bytes s: it counts them, its lanes have all buffers before the last byte, and the last 256 lie in the ring
pub record Holds (st : State) (s : List ℕ) : Type 0 where
  pub counts : st.total ≡ length s
  pub joined : st.lanes ≡ run secret start_lanes s (4 * ((length s - 1) / 256))
  pub size : length st.buffer ≡ 256
  pub lies : (i : ℕ) → i < length s → length s ≤ i + 256 → get_or st.buffer (i % 256) 0 ≡ get_or s i 0
