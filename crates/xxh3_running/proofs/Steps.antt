-- The steps of the loops, and what the calls of a function give together.
use mathlib.Core.Path.{◌≡◌, sym, ap, ap₂, ◌∙◌}
use Prim.Native.Nat.{ℕ, zero, suc, ◌+◌, ◌-◌, ◌*◌, ◌/◌, ◌%◌, ◌≤◌, ◌<◌}
use native.Mathlib.Numerals.{add-one}
use native.Mathlib.Omega.{arith}
use mathlib.Core.List.{List, [], ◌∷◌, ◌++◌}
use lib.ListN.{length, take, drop, set, get_or, length-drop}
use lib.Seq.{sets, take-suc, take-suc-set, take_all, length-take-le}
use borrow.Author.Tests.{le-leb, lt-leb}
use Rattle.base.specs.Over.{part, length_part, sets_append}
use Rattle.refusal.specs.declared.Refusal.{Refusal}
use Rattle.xxh3_spec.specs.Xxh3.{run_on, finish, secret, xxh3}
use Rattle.xxh3_spec.specs.Xxh3.Laws.{run_none}
use Rattle.xxh3_running.specs.declared.State.{State}
use Rattle.xxh3_running.specs.declared.Fed.{Fed}
use Rattle.xxh3_running.specs.Running.{most_fed, state_of, bytes_more, feed_of, Leaves, last_bytes, long_sum, sum_of, emptied}
use Rattle.xxh3_running.specs.Running.Laws.{UntilFull, buffers_in, buffer_after}
use Rattle.xxh3_running.proofs.Laws.Running.{sets_whole, bytes_total, fed_inside, fed_past, feed_taken, feed_refused}
use Rattle.std.specs.Prelude.{Ok, Err}
use Rattle.refusal.specs.Check.{Check}

-- one byte more of s is written
pub put_step : (s b : List ℕ) (at i : ℕ) → i < length s → set (sets b at (take i s)) (at + i) (get_or s i 0) ≡ sets b at (take (i + 1) s)
put_step s b at i h =
    let n : length (take i s) ≡ i = length-take-le i s (omega arith) in
    sym
    (ap (λ (k : ℕ). sets b at (take k s)) (add-one i)
    ∙ ap (sets b at) (take-suc s i 0 h)
    ∙ sets_append (take i s) (get_or s i 0 ∷ []) b at
    ∙ ap (λ (k : ℕ). set (sets b at (take i s)) (at + k) (get_or s i 0)) n)

-- one element more is as it should be
pub same_step : (l m : List ℕ) (i x : ℕ) → i < length l → i < length m → take i l ≡ take i m → x ≡ get_or m i 0 → take (i + 1) (set l i x) ≡ take (i + 1) m
same_step l m i x h h' e q =
    ap (λ (k : ℕ). take k (set l i x)) (add-one i)
    ∙ take-suc-set l i x h
    ∙ ap₂ (λ (y : List ℕ) (z : ℕ). y ++ (z ∷ [])) e q
    ∙ sym (take-suc m i 0 h')
    ∙ ap (λ (k : ℕ). take k m) (sym (add-one i))

-- all are
pub same_all : (n : ℕ) (l m : List ℕ) → length l ≤ n → length m ≤ n → take n l ≡ take n m → l ≡ m
same_all n l m h h' e = sym (take_all n l h) ∙ e ∙ take_all n m h'

-- ---- the sum

pub long_of : (t : ℕ) (l b : List ℕ) {a last : List ℕ} {r : ℕ} → a ≡ run_on secret l b (4 * ((t - 1) / 256)) ((t - 1) % 256 / 64) → last ≡ last_bytes t b
    → r ≡ finish secret a last 0 t → r ≡ long_sum (state_of t l b)
unfolding long_sum
long_of t l b e d q = q ∙ ap₂ (λ (x y : List ℕ). finish secret x y 0 t) e d

pub sum_short : (t : ℕ) (l b : List ℕ) {r : ℕ} → t ≤ 256 → r ≡ xxh3 (take t b) → r ≡ sum_of (state_of t l b)
unfolding sum_of
sum_short t l b h e = rw (le-leb t 256 h) e

pub sum_long : (t : ℕ) (l b : List ℕ) {r : ℕ} → 256 < t → r ≡ long_sum (state_of t l b) → r ≡ sum_of (state_of t l b)
unfolding sum_of
sum_long t l b h e = rw (lt-leb t 256 h) e

-- ---- a chunk

pub fed_whole : (f : Fed) {told : Check} {t : ℕ} {l b : List ℕ} → told ≡ f.told → Leaves f t l b → record { told = told; state = state_of t l b } ≡ f
fed_whole f p q = λ i. record { told = p i; state = state_of (q.0 i) (q.1 i) (q.2 i) }

abbrev pub Parts : Fed → Check → ℕ → List ℕ → List ℕ → Type 0
Parts f told t l b = (told ≡ f.told) × Leaves f t l b

parts : {f : Fed} {told : Check} {t : ℕ} {l b : List ℕ} → f ≡ record { told = told; state = state_of t l b } → Parts f told t l b
parts e = (sym (ap (λ (x : Fed). x.told) e), (sym (ap (λ (x : Fed). x.state.total) e), sym (ap (λ (x : Fed). x.state.lanes) e), sym (ap (λ (x : Fed). x.state.buffer) e)))

-- what is lent of s up to r and from r on
part_front : (s : List ℕ) (r : ℕ) → part s 0 r ≡ take r s
part_front s r = let n : r - 0 ≡ r = omega arith in ap (λ (k : ℕ). take k s) n

part_back : (s : List ℕ) (r : ℕ) → part s r (length s) ≡ drop r s
part_back s r = let n = length-drop r s in take_all (length s - r) (drop r s) (omega arith)

-- no whole buffer before the last byte
pub flow_few : (a b s out : List ℕ) (k : ℕ) → buffers_in s ≡ 0 → out ≡ sets b 0 s
    → (a ≡ run_on secret a s k (4 * buffers_in s)) × (out ≡ buffer_after b s (buffers_in s))
flow_few a b s out k e p = (rw e (sym (run_none secret a s k)), rw e p)

-- the last block is written whole, and then the bytes after it
pub flow_many : (b s out out' : List ℕ) (k : ℕ) → length b ≡ 256 → 0 < k → 256 * k ≤ length s
    → out ≡ sets b 0 (part s (256 * k - 256) (256 * k)) → out' ≡ sets out 0 (part s (256 * k) (length s)) → out' ≡ buffer_after b s k
flow_many b s out out' zero z p h e e' = absurd (omega arith)
flow_many b s out out' (suc k) z p h e e' =
    let from : 256 * suc k - 256 ≡ 256 * k = omega arith in
    let to : 256 * suc k ≡ 256 * k + 256 = omega arith in
    let block : List ℕ = part s (256 * suc k - 256) (256 * suc k) in
    let n : length block ≡ 256 * suc k - (256 * suc k - 256) = length_part s (256 * suc k - 256) (256 * suc k) h in
    e'
    ∙ ap₂ (λ (x y : List ℕ). sets x 0 y)
    (e ∙ sets_whole block b (omega arith) ∙ ap₂ (part s) from to)
    (part_back s (256 * suc k))

-- the buffer is filled and emptied, and the rest of the chunk flows on
pub pour_all : (t r : ℕ) (l b s : List ℕ) → UntilFull t r → length b ≡ 256 → r < length s
    → (filled a l' b' : List ℕ) → filled ≡ sets b (256 - r) (part s 0 r) → a ≡ run_on secret l filled ((t + r) / 64 - 4) 4
    → l' ≡ run_on secret a (part s r (length s)) ((t + r) / 64) (4 * buffers_in (part s r (length s)))
    → b' ≡ buffer_after filled (part s r (length s)) (buffers_in (part s r (length s)))
    → (l' ≡ (bytes_more (state_of t l b) s).lanes) × (b' ≡ (bytes_more (state_of t l b) s).buffer)
unfolding emptied
pour_all t r l b s u z h filled a l' b' p q w v =
    let f : filled ≡ sets b (256 - r) (take r s) = p ∙ ap (sets b (256 - r)) (part_front s r) in
    let all = fed_past t r l b s u z h in (
      w
          ∙ ap₂ (λ (x y : List ℕ). run_on secret x y ((t + r) / 64) (4 * buffers_in y)) (q ∙ ap (λ (x : List ℕ). run_on secret l x ((t + r) / 64 - 4) 4) f) (part_back s r)
          ∙ sym (ap (λ (st : State). st.lanes) all),
      v ∙ ap₂ (λ (x y : List ℕ). buffer_after x y (buffers_in y)) f (part_back s r) ∙ sym (ap (λ (st : State). st.buffer) all),
    )

-- ---- what becomes of what was lent

-- a chunk that is refused
pub stays : (t : ℕ) (l b s : List ℕ) → most_fed < t + length s → Parts (feed_of (state_of t l b) s) (Err Refusal.Chunk) t l b
stays t l b s h = parts (feed_refused (state_of t l b) s h)

-- one that stays inside the buffer
pub takes_few : (t r : ℕ) (l b s b' : List ℕ) → t + length s ≤ most_fed → UntilFull t r → length s ≤ r → b' ≡ sets b (256 - r) s
    → Parts (feed_of (state_of t l b) s) (Ok tt) (t + length s) l b'
takes_few t r l b s b' h u n e =
    let done = parts (feed_taken (state_of t l b) s h ∙ ap (λ (st : State). record { told = (Ok tt); state = st }) (fed_inside t r l b s u n)) in
    (done.0, (done.1.0, done.1.1, e ∙ done.1.2))

-- and one that goes past its end
pub takes_more : (t : ℕ) (l b s l' b' : List ℕ) → t + length s ≤ most_fed → l' ≡ (bytes_more (state_of t l b) s).lanes → b' ≡ (bytes_more (state_of t l b) s).buffer
    → Parts (feed_of (state_of t l b) s) (Ok tt) (t + length s) l' b'
takes_more t l b s l' b' h p q =
    let done = parts (feed_taken (state_of t l b) s h) in
    (done.0, (sym (bytes_total s (state_of t l b)) ∙ done.1.0, p ∙ done.1.1, q ∙ done.1.2))
