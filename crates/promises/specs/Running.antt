-- What the users of the running sum may rely on, in one statement. Chunks are lists of bytes, and `in_row` is their bytes in a row.
use Rattle.std.specs.Prelude.{◌≡◌, ◌↔◌, List, [], ℕ, ◌+◌, ◌≤◌, ◌<◌, length, Ok, Err}
use Rattle.refusal.specs.declared.Refusal.{Refusal}
use Rattle.xxh3_spec.specs.Xxh3.{xxh3}
use Rattle.xxh3_running.specs.declared.State.{State}
use Rattle.xxh3_running.specs.Running.{most_fed, new_state, feed_of, sum_of}
use Rattle.xxh3_running.specs.Chunks.{in_row, feed_all, Step, answers, sums_before}

pub record RunningSum : Type 0 where
  -- of any cuts, empty chunks and none, up to 2^30 bytes: the sum at the end is that of the bytes in a row
  pub same_sum : (cs : List (List ℕ)) → length (in_row cs) ≤ most_fed → sum_of (feed_all new_state cs) ≡ xxh3 (in_row cs)
  -- two ways to cut the same bytes give the same state
  pub same_cuts : (cs ds : List (List ℕ)) (st : State) → in_row cs ≡ in_row ds → st.total + length (in_row cs) ≤ most_fed → feed_all st cs ≡ feed_all st ds
  -- whatever is fed and asked: each answer is the sum of all bytes that were taken before it
  pub answered : (ss : List Step) → answers new_state ss ≡ sums_before [] ss
  -- 27 exactly if the total would pass 2^30
  pub refused : (st : State) (c : List ℕ) → ((feed_of st c).told ≡ Err Refusal.Chunk) ↔ (most_fed < st.total + length c)
  -- no other refusal is given, and the state stays
  pub stays : (st : State) (c : List ℕ) (r : Refusal) → (feed_of st c).told ≡ Err r → (r ≡ Refusal.Chunk) × ((feed_of st c).state ≡ st)
  -- then it goes on as if that chunk had not come
  pub on : (st : State) (c d : List ℕ) → most_fed < st.total + length c → feed_of (feed_of st c).state d ≡ feed_of st d
  -- at 2^30 bytes the empty chunk is taken; behind them every chunk is refused
  pub empty : (st : State) → st.total ≤ most_fed → feed_of st [] ≡ record { told = (Ok tt); state = st }
  pub behind : (st : State) (c : List ℕ) → most_fed < st.total → feed_of st c ≡ record { told = Err Refusal.Chunk; state = st }
