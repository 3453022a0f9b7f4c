-- Over the contracts of the running sum's calls: what they tell and leave, in the users' words.
use mathlib.Core.Path.{◌≡◌, refl, sym, ap, ◌∙◌}
use Prim.Native.Nat.{ℕ, ◌+◌, ◌≤◌, ◌<◌}
use mathlib.Core.List.{List, []}
use lib.ListN.{length}
use Rattle.base.proofs.Every.{Every}
use Rattle.refusal.specs.declared.Refusal.{Refusal}
use Rattle.xxh3_running.specs.declared.State.{State}
use Rattle.xxh3_running.specs.declared.Fed.{Fed}
use Rattle.xxh3_spec.specs.Xxh3.{xxh3}
use Rattle.xxh3_running.specs.Running.{most_fed, state_of, bytes_more, feed_of}
use Rattle.xxh3_running.proofs.Laws.Running.{feed_taken, feed_refused}
use Rattle.xxh3_running.specs.Running.Sums.{Holds}
use Rattle.xxh3_running.proofs.Laws.RunningSums.{new_holds, sum_is}
use Rattle.xxh3_running.specs.Chunks.{taking}
use Rattle.xxh3_running.proofs.Laws.Chunks.{taking_holds}
use Rattle.xxh3.specs.Told.{told_fine, told_bad_lem}
use Rattle.xxh3.specs.contracts.saffron_xxh3_new as new
use Rattle.xxh3.proofs.saffron_xxh3_new.Reads as new_reads
use Rattle.xxh3.specs.contracts.saffron_xxh3_feed as feed
use Rattle.xxh3.proofs.saffron_xxh3_feed.Reads as feed_reads
use Rattle.xxh3.specs.contracts.saffron_xxh3_asked as asked
use Rattle.xxh3.proofs.saffron_xxh3_asked.Reads as asked_reads

-- up to 2^30 bytes in all: 0, and the parts hold the state with all bytes of the chunk
pub feed_takes : Every feed.ended feed_reads.Post
    (λ κs a r e. a.0.now + length a.1.1.1.0.now ≤ most_fed
    → (r ≡ 0) × (state_of e.0.now e.1.0.now e.1.1.0.now ≡ bytes_more (state_of a.0.now a.1.0.now a.1.1.0.now) a.1.1.1.0.now))
feed_takes κs a r e p h =
    let fed = feed_taken (state_of a.0.now a.1.0.now a.1.1.0.now) a.1.1.1.0.now h in (
      p.0 ∙ sym (told_fine _ (ap (λ (f : Fed). f.told) fed)),
      (λ i. state_of (p.1.0 i) (p.1.1 i) (p.1.2 i)) ∙ ap (λ (f : Fed). f.state) fed,
    )

-- past them: 27, and the parts stay
pub feed_refuses : Every feed.ended feed_reads.Post
    (λ κs a r e. most_fed < a.0.now + length a.1.1.1.0.now
    → (r ≡ 27) × (e.0.now ≡ a.0.now) × (e.1.0.now ≡ a.1.0.now) × (e.1.1.0.now ≡ a.1.1.0.now))
feed_refuses κs a r e p h =
    let fed = feed_refused (state_of a.0.now a.1.0.now a.1.1.0.now) a.1.1.1.0.now h in
    let state = ap (λ (f : Fed). f.state) fed in (
      p.0 ∙ sym (told_bad_lem _ Refusal.Chunk (ap (λ (f : Fed). f.told) fed) refl),
      p.1.0 ∙ ap (λ (st : State). st.total) state,
      p.1.1 ∙ ap (λ (st : State). st.lanes) state,
      p.1.2 ∙ ap (λ (st : State). st.buffer) state,
    )

-- ---- in chunks as in one: s is what was taken so far

pub new_begins : Every new.ended new_reads.Post (λ κs a r e. Holds r [])
new_begins κs a r e p = rw p new_holds

pub feed_holds : Every feed.ended feed_reads.Post (λ κs a r e. (s : List ℕ) → Holds (state_of a.0.now a.1.0.now a.1.1.0.now) s → Holds (state_of e.0.now e.1.0.now e.1.1.0.now) (taking s a.1.1.1.0.now))
feed_holds κs a r e p s h =
    let made : state_of e.0.now e.1.0.now e.1.1.0.now ≡ (feed_of (state_of a.0.now a.1.0.now a.1.1.0.now) a.1.1.1.0.now).state = λ i. state_of (p.1.0 i) (p.1.1 i) (p.1.2 i) in
    rw made (taking_holds (state_of a.0.now a.1.0.now a.1.1.0.now) s a.1.1.1.0.now h)

pub asked_sums : Every asked.ended asked_reads.Post (λ κs a r e. (s : List ℕ) → Holds (state_of a.0 a.1.0.now a.1.1.0.now) s → r ≡ xxh3 s)
asked_sums κs a r e p s h = p ∙ sum_is (state_of a.0 a.1.0.now a.1.1.0.now) s h
