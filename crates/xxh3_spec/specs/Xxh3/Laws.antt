-- The state of more than 240 bytes: stripes in two goes are stripes in one, and only the bytes of the stripes decide.
use Rattle.std.specs.Prelude.{◌≡◌, refl, ℕ, zero, suc, ◌+◌, ◌*◌, ◌%◌, ◌<◌, cond, List, ltb, get_or}
use Rattle.std.proofs.Common.{sym, ap, ◌∙◌, add-zero, zero-add, add-suc, add_assoc, arith}
use Rattle.codes.specs.Little.{le_at}
use Rattle.codes.specs.Little.Laws.{le_at_same}
use Rattle.xxh3_spec.specs.Xxh3.{lane, accumulate, scramble, turn, run_on, merge, finish}

-- the n bytes of s from i on are those of t from j on
abbrev pub Alike : List ℕ → ℕ → List ℕ → ℕ → ℕ → Type 0
Alike s i t j n = (k : ℕ) → k < n → get_or s (i + k) 0 ≡ get_or t (j + k) 0

word_same : (s t : List ℕ) (i j m : ℕ) → Alike s i t j 64 → m < 8 → le_at s (i + 8 * m) 8 ≡ le_at t (j + 8 * m) 8
word_same s t i j m h l =
    le_at_same s t (i + 8 * m) (j + 8 * m) 8
    (λ k b. rw (add_assoc i (8 * m) k, add_assoc j (8 * m) k) (h (8 * m + k) (omega arith)))

lane_same : (q : List ℕ) (a : ℕ) (s t : List ℕ) (i j k m o : ℕ) → Alike s i t j 64 → m < 8 → o < 8 → lane q a s i k m o ≡ lane q a t j k m o
unfolding lane
lane_same q a s t i j k m o h l l' = rw (word_same s t i j m h l, word_same s t i j o h l')

pub accumulate_same : (q a s t : List ℕ) (i j k : ℕ) → Alike s i t j 64 → accumulate q a s i k ≡ accumulate q a t j k
unfolding accumulate
accumulate_same q a s t i j k h =
    let same : (m o x : ℕ) → m < 8 → o < 8 → lane q x s i k m o ≡ lane q x t j k m o = λ m o x l l'. lane_same q x s t i j k m o h l l' in
    rw (
      same 0 1 (get_or a 0 0) (omega arith) (omega arith),
      same 1 0 (get_or a 1 0) (omega arith) (omega arith),
      same 2 3 (get_or a 2 0) (omega arith) (omega arith),
      same 3 2 (get_or a 3 0) (omega arith) (omega arith),
      same 4 5 (get_or a 4 0) (omega arith) (omega arith),
      same 5 4 (get_or a 5 0) (omega arith) (omega arith),
      same 6 7 (get_or a 6 0) (omega arith) (omega arith),
      same 7 6 (get_or a 7 0) (omega arith) (omega arith),
    )

turn_same : (q a s t : List ℕ) (i j n : ℕ) → Alike s i t j 64 → turn q a s i n ≡ turn q a t j n
unfolding turn
turn_same q a s t i j n h = ap (λ (x : List ℕ). cond (ltb (n % 16) 15) x (scramble q x)) (accumulate_same q a s t i j (8 * (n % 16)) h)

pub finish_same : (q a s t : List ℕ) (i j n : ℕ) → Alike s i t j 64 → finish q a s i n ≡ finish q a t j n
unfolding finish
finish_same q a s t i j n h = ap (λ (x : List ℕ). merge q x n) (accumulate_same q a s t i j 121 h)

pub run_none : (q a s : List ℕ) (k : ℕ) → run_on q a s k 0 ≡ a
unfolding run_on
run_none q a s k = refl

pub run_more : (q a s : List ℕ) (k n : ℕ) → run_on q a s k (suc n) ≡ turn q (run_on q a s k n) s (64 * n) (k + n)
unfolding run_on
run_more q a s k n = refl

-- n stripes of s, and then m of t, which go on where those of s ended: the same as n + m stripes of s, where t holds the bytes of s from there on
pub run_add : (q a s t : List ℕ) (k n m : ℕ) → Alike t 0 s (64 * n) (64 * m) → run_on q (run_on q a s k n) t (k + n) m ≡ run_on q a s k (n + m)
unfolding run_on
run_add q a s t k n zero h = ap (λ (x : ℕ). run_on q a s k x) (sym (add-zero n))
run_add q a s t k n (suc m) h =
    let ih = run_add q a s t k n m (λ j l. h j (omega arith)) in
    let there : (j : ℕ) → 64 * n + (64 * m + j) ≡ 64 * (n + m) + j = λ j. omega arith in
    ap (λ (x : List ℕ). turn q x t (64 * m) (k + n + m)) ih
    ∙ turn_same q (run_on q a s k (n + m)) t s (64 * m) (64 * (n + m)) (k + n + m)
    (λ j l. ap (λ (x : ℕ). get_or t x 0) (sym (zero-add (64 * m + j))) ∙ h (64 * m + j) (omega arith) ∙ ap (λ (x : ℕ). get_or s x 0) (there j))
    ∙ ap (λ (x : ℕ). turn q (run_on q a s k (n + m)) s (64 * (n + m)) x) (add_assoc k n m)
    ∙ ap (λ (x : ℕ). run_on q a s k x) (sym (add-suc n m))

-- only the bytes of the stripes decide
pub run_same : (q a s t : List ℕ) (k n : ℕ) → Alike s 0 t 0 (64 * n) → run_on q a s k n ≡ run_on q a t k n
unfolding run_on
run_same q a s t k zero h = refl
run_same q a s t k (suc n) h =
    let ih = run_same q a s t k n (λ j l. h j (omega arith)) in
    ap (λ (x : List ℕ). turn q x s (64 * n) (k + n)) ih
    ∙ turn_same q (run_on q a t k n) s t (64 * n) (64 * n) (k + n) (λ j l. rw zero-add at (h (64 * n + j) (omega arith)))
