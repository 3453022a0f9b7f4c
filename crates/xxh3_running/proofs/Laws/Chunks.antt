-- What users may rely on: chunks, however they are cut, have the sum of their bytes in a row; asking for it midway changes nothing; 27 is
-- given exactly past 2^30 bytes, and then the state stays.
use Rattle.std.specs.Prelude.{◌≡◌, refl, ◌↔◌, ℕ, ◌+◌, ◌≤◌, ◌<◌, List, [], ◌∷◌, ◌++◌, map, length, Ok, Err}
use Rattle.std.proofs.Common.{sym, ap, ap₂, ◌∙◌, subst, add-zero, zero-add, arith, length-append, le-leb}
use Rattle.std.proofs.Math.Decide.{dec_lt}
use Rattle.std.proofs.lemmas.Bool.{lt-leb}
use Rattle.refusal.specs.declared.Refusal.{Refusal}
use Rattle.xxh3_spec.specs.Xxh3.{xxh3}
use Rattle.xxh3_running.specs.declared.State.{State}
use Rattle.xxh3_running.specs.declared.Fed.{Fed}
use Rattle.xxh3_running.specs.Running.{most_fed, new_state, bytes_more, feed_of, sum_of}
use Rattle.xxh3_running.proofs.Laws.Running.{bytes_none, bytes_append, bytes_total, feed_taken, feed_refused}
use Rattle.xxh3_running.specs.Running.Sums.{Holds}
use Rattle.xxh3_running.proofs.Laws.RunningSums.{new_holds, bytes_hold, sum_is}
use Rattle.xxh3_running.specs.Chunks.{in_row, feed_all, told_all, Step, Feed, Ask, answers, taking, sums_before}
use Rattle.refusal.specs.Check.{Check}

-- ---- one chunk

-- 27 exactly if the total would pass 2^30
pub refused_exactly : (st : State) (c : List ℕ) → ((feed_of st c).told ≡ Err Refusal.Chunk) ↔ (most_fed < st.total + length c)
refused_exactly st c = (
  λ e. elim (dec_lt most_fed (st.total + length c)) [
    | yes h ↦ h
    | no h ↦
        let fine = ap (λ (f : Fed). f.told) (feed_taken st c (omega arith)) in
        let z : ◌≡◌ {A = ℕ} 0 1 = cc in
        absurd (omega arith)
  ],
  λ h. ap (λ (f : Fed). f.told) (feed_refused st c h),
)

-- no other refusal is given, and each leaves the state
pub refused_leaves : (st : State) (c : List ℕ) (r : Refusal) → (feed_of st c).told ≡ Err r → (r ≡ Refusal.Chunk) × ((feed_of st c).state ≡ st)
refused_leaves st c r e = elim (dec_lt most_fed (st.total + length c)) [
  | yes h ↦
      let fed = feed_refused st c h in
      let told = ap (λ (f : Fed). f.told) fed in
      (cc, ap (λ (f : Fed). f.state) fed)
  | no h ↦
      let fine = ap (λ (f : Fed). f.told) (feed_taken st c (omega arith)) in
      let z : ◌≡◌ {A = ℕ} 0 1 = cc in
      absurd (omega arith)
]

-- after more than 2^30 bytes, which only a state that nobody fed can say, every chunk is refused, the empty one too
pub past_most : (st : State) (c : List ℕ) → most_fed < st.total → feed_of st c ≡ record { told = Err Refusal.Chunk; state = st }
past_most st c h = feed_refused st c (omega arith)

-- up to 2^30 bytes, that total too, the empty chunk is taken and changes nothing
pub empty_taken : (st : State) → st.total ≤ most_fed → feed_of st [] ≡ record { told = (Ok tt); state = st }
empty_taken st h = feed_taken st [] (rw add-zero h) ∙ ap (λ (x : State). record { told = (Ok tt); state = x }) (bytes_none st)

-- after a refusal the sum goes on as if that chunk had not come
pub goes_on : (st : State) (c d : List ℕ) → most_fed < st.total + length c → feed_of (feed_of st c).state d ≡ feed_of st d
goes_on st c d h = ap (λ (f : Fed). feed_of f.state d) (feed_refused st c h)

-- up to 2^30 bytes each is taken, and the state is that of their bytes one by one
pub all_taken : (cs : List (List ℕ)) (st : State) → st.total + length (in_row cs) ≤ most_fed
    → (feed_all st cs ≡ bytes_more st (in_row cs)) × (told_all st cs ≡ map (λ (c : List ℕ). (Ok tt)) cs)
unfolding in_row feed_all told_all
all_taken [] st h = (sym (bytes_none st), refl)
all_taken (c ∷ cs) st h =
    let n : length (c ++ in_row cs) ≡ length c + length (in_row cs) = length-append c (in_row cs) in
    let fed = feed_taken st c (omega arith) in
    let t : (bytes_more st c).total ≡ st.total + length c = bytes_total c st in
    let rest = all_taken cs (bytes_more st c) (rw t (omega arith)) in (
      ap (λ (f : Fed). feed_all f.state cs) fed ∙ rest.0 ∙ sym (bytes_append st c (in_row cs)),
      ap (λ (f : Fed). f.told ∷ told_all f.state cs) fed ∙ ap (λ (l : List Check). (Ok tt) ∷ l) rest.1,
    )

-- for every list of chunks, of any cuts, empty ones and none, of at most 2^30 bytes: the sum at the end is that of their bytes in a row
pub any_cuts : (cs : List (List ℕ)) → length (in_row cs) ≤ most_fed → sum_of (feed_all new_state cs) ≡ xxh3 (in_row cs)
unfolding new_state
any_cuts cs h =
    ap sum_of (all_taken cs new_state (rw zero-add h)).0 ∙ sum_is (bytes_more new_state (in_row cs)) (in_row cs) (bytes_hold (in_row cs) new_state [] new_holds)

-- two ways to cut the same bytes give the same state
pub same_state : (cs ds : List (List ℕ)) (st : State) → in_row cs ≡ in_row ds → st.total + length (in_row cs) ≤ most_fed → feed_all st cs ≡ feed_all st ds
same_state cs ds st e h =
    (all_taken cs st h).0 ∙ ap (bytes_more st) e ∙ sym (all_taken ds st (subst (λ (x : List ℕ). st.total + length x ≤ most_fed) e h)).0

pub taking_holds : (st : State) (s c : List ℕ) → Holds st s → Holds (feed_of st c).state (taking s c)
taking_holds st s c h = let e = h.counts in elim (dec_lt most_fed (st.total + length c)) [
  | yes b ↦ rw (feed_refused st c b, lt-leb (length s + length c) most_fed (omega arith)) h
  | no b ↦ rw (feed_taken st c (omega arith), le-leb (length s + length c) most_fed (omega arith)) (bytes_hold c st s h)
]

answers_hold : (ss : List Step) (st : State) (s : List ℕ) → Holds st s → answers st ss ≡ sums_before s ss
unfolding answers sums_before
answers_hold [] st s h = refl
answers_hold (Feed c ∷ ss) st s h = answers_hold ss (feed_of st c).state (taking s c) (taking_holds st s c h)
answers_hold (Ask ∷ ss) st s h = ap₂ (λ (x : ℕ) (l : List ℕ). x ∷ l) (sum_is st s h) (answers_hold ss st s h)

-- whatever is fed and asked, in any order: each answer is the sum of all bytes that were taken before it, and no refused chunk shows in a
-- later one. That a question leaves the state is its call's type: the state is passed by value, or its parts are lent shared
pub each_answer : (ss : List Step) → answers new_state ss ≡ sums_before [] ss
each_answer ss = answers_hold ss new_state [] new_holds
