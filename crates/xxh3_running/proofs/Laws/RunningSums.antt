-- What is summed is what was fed: the sum of a state is the XXH3-64 of all its bytes in a row.
use Rattle.std.specs.Prelude.{◌≡◌, refl, false, length, take, set, get_or}
use Rattle.std.proofs.Math.Path.{sym, ap, subst}
use Rattle.std.proofs.Common.{ap₂, ◌∙◌, zero-add, length-set, length-append, get_or-set_same, get_or-set_other, get_or-take, length-take-le, ext_get_or}
use Prim.Native.Nat.{ℕ, ◌+◌, ◌-◌, ◌*◌, ◌/◌, ◌%◌, ◌≤◌, ◌<◌}
use Rattle.std.proofs.Math.Decide.{dec_lt}
use native.Mathlib.Omega.{arith}
use mathlib.Core.List.{List, [], ◌∷◌, ◌++◌, append-nil}
use Rattle.std.proofs.Math.ListN.{get_or-append}
use Rattle.std.proofs.Math.Seq.{append_snoc, get_or-append_seam}
use borrow.Author.Tests.{le-leb, lt-leb}
use Rattle.xxh3_spec.specs.Xxh3.{run_on, run, start_lanes, finish, large, secret, xxh3}
use Rattle.xxh3_spec.specs.Xxh3.Laws.{Alike, run_none, run_same, run_add, finish_same}
use Rattle.xxh3_running.specs.declared.State.{State}
use Rattle.xxh3_running.specs.Running.{state_of, new_state, is_full, emptied, byte_more, bytes_more, last_bytes, long_sum, sum_of}
use Rattle.xxh3_running.proofs.Laws.Running.{full, not_full, bytes_none, bytes_one, byte_inside, byte_over, last_at}
use Rattle.xxh3_running.specs.Running.Sums.{Holds}

pub new_holds : Holds new_state []
unfolding new_state
new_holds = record {
  counts = refl;
  joined = sym (run_none secret start_lanes [] 0);
  size = refl;
  lies = λ i h h'. absurd (omega arith);
}

-- the last 256 bytes of a full buffer lie in it from its start on
buffer_lies : (st : State) (s : List ℕ) → Holds st s → 0 < length s → length s % 256 ≡ 0 → Alike st.buffer 0 s (64 * (4 * ((length s - 1) / 256))) 256
buffer_lies st s h p e j l =
    let place : ℕ = 64 * (4 * ((length s - 1) / 256)) + j in
    let ring : place % 256 ≡ 0 + j = omega arith in
    ap (λ (i : ℕ). get_or st.buffer i 0) (sym ring) ∙ h.lies place (omega arith) (omega arith)

-- bytes before the end are the same with one more
before : (s : List ℕ) (c i n : ℕ) → i + n ≤ length s → Alike s i (s ++ (c ∷ [])) i n
before s c i n h j l = sym (get_or-append s (c ∷ []) 0 (i + j) (omega arith))

module _ (st : State) (s : List ℕ) (c : ℕ) (h : Holds st s) where
  abbrev t : ℕ
  t = length s

  abbrev s' : List ℕ
  s' = s ++ (c ∷ [])

  one_more : length s' ≡ t + 1
  one_more = length-append s (c ∷ [])

  ring : (i : ℕ) → i < length s' → length s' ≤ i + 256 → get_or (set st.buffer (t % 256) c) (i % 256) 0 ≡ get_or s' i 0
  ring i l l' = elim (dec_lt i t) [
    | yes b ↦
        get_or-set_other st.buffer (t % 256) (i % 256) c 0 (λ q. let m = one_more in omega arith)
        ∙ h.lies i b (let m = one_more in omega arith)
        ∙ sym (get_or-append s (c ∷ []) 0 i b)
    | no b ↦
        let m = one_more in
        let last : i ≡ t = omega arith in
        let room : t % 256 < length st.buffer = let z = h.size in omega arith in
        ap (λ (k : ℕ). get_or (set st.buffer (t % 256) c) (k % 256) 0) last
        ∙ get_or-set_same st.buffer (t % 256) c 0 room
        ∙ sym (get_or-append_seam s c [] 0)
        ∙ ap (λ (k : ℕ). get_or s' k 0) (sym last)
  ]

  -- the lanes that were there, over all bytes now
  same_lanes : (n : ℕ) → 64 * n ≤ t → run secret start_lanes s n ≡ run secret start_lanes s' n
  same_lanes n b = run_same secret start_lanes s s' 0 n (before s c 0 (64 * n) (omega arith))

  made : (l : List ℕ) → l ≡ run secret start_lanes s' (4 * (t / 256)) → Holds (state_of (st.total + 1) l (set st.buffer (st.total % 256) c)) s'
  made l e =
      let m = one_more in
      let n : 4 * (t / 256) ≡ 4 * ((length s' - 1) / 256) = omega arith in
      record {
        counts = ap (λ (x : ℕ). x + 1) h.counts ∙ sym one_more;
        joined = e ∙ ap (run secret start_lanes s') n;
        size = length-set st.buffer (st.total % 256) c ∙ h.size;
        lies = λ i l₁ l₂. ap (λ (x : ℕ). get_or (set st.buffer (x % 256) c) (i % 256) 0) h.counts ∙ ring i l₁ l₂;
      }

  inside : 4 * ((t - 1) / 256) ≡ 4 * (t / 256) → is_full st.total ≡ false → Holds (byte_more st c) s'
  inside n f =
      subst (λ (x : State). Holds x s') (sym (byte_inside st.total st.lanes st.buffer c f))
      (made st.lanes (h.joined ∙ ap (run secret start_lanes s) n ∙ same_lanes (4 * (t / 256)) (omega arith)))

  over : 0 < t → t % 256 ≡ 0 → Holds (byte_more st c) s'
  unfolding emptied
  over p e =
      let q = h.counts in
      let n : ℕ = 4 * ((t - 1) / 256) in
      let first : st.total / 64 - 4 ≡ 0 + n = omega arith in
      let all : n + 4 ≡ 4 * (t / 256) = omega arith in
      subst (λ (x : State). Holds x s') (sym (byte_over st.total st.lanes st.buffer c (full st.total (omega arith) (omega arith))))
      (made (emptied st.total st.lanes st.buffer)
      (ap₂ (λ (x : ℕ) (y : List ℕ). run_on secret y st.buffer x 4) first h.joined
      ∙ run_add secret start_lanes s st.buffer 0 n 4 (buffer_lies st s h p e)
      ∙ ap (run secret start_lanes s) all
      ∙ same_lanes (4 * (t / 256)) (omega arith)))

  -- one byte more
  pub byte_holds : Holds (byte_more st c) s'
  byte_holds = elim (dec_lt 0 (t % 256)) [
    | yes b ↦ inside (omega arith) (not_full st.total (λ z. let q = h.counts in omega arith))
    | no b ↦ elim (dec_lt 0 t) [
      | yes p ↦ over p (omega arith)
      | no p ↦ inside (omega arith) (ap is_full (h.counts ∙ (let z : t ≡ 0 = omega arith in z)))
    ]
  ]

-- all bytes of a chunk
pub bytes_hold : (xs : List ℕ) (st : State) (s : List ℕ) → Holds st s → Holds (bytes_more st xs) (s ++ xs)
bytes_hold [] st s h = rw (bytes_none, append-nil s) h
bytes_hold (c ∷ cs) st s h =
    rw bytes_one (subst (λ (x : List ℕ). Holds (bytes_more (byte_more st c) cs) x) (append_snoc s c cs) (bytes_hold cs (byte_more st c) (s ++ (c ∷ [])) (byte_holds st s c h)))

-- ---- the sum

module _ (st : State) (s : List ℕ) (h : Holds st s) where
  -- up to 256 bytes all lie in the buffer
  all_there : length s ≤ 256 → take st.total st.buffer ≡ s
  all_there b =
      let q = h.counts in
      let z = h.size in
      let n : length (take st.total st.buffer) ≡ st.total = length-take-le st.total st.buffer (omega arith) in
      ext_get_or 0 (take st.total st.buffer) s (n ∙ q)
      (λ i l.
      let place : i % 256 ≡ i = omega arith in
      get_or-take st.total st.buffer i 0 (omega arith)
      ∙ ap (λ (k : ℕ). get_or st.buffer k 0) (sym place)
      ∙ h.lies i (omega arith) (omega arith))

  abbrev emptyings : ℕ
  emptyings = (length s - 1) / 256

  abbrev stripes : ℕ
  stripes = (length s - 1) % 256 / 64

  -- all stripes before the last byte
  lanes_are : 0 < length s → run_on secret st.lanes st.buffer (4 * emptyings) stripes ≡ run secret start_lanes s ((length s - 1) / 64)
  lanes_are p =
      let first : 4 * emptyings ≡ 0 + 4 * emptyings = sym (zero-add (4 * emptyings)) in
      let all : 4 * emptyings + stripes ≡ (length s - 1) / 64 = omega arith in
      ap₂ (λ (x : ℕ) (y : List ℕ). run_on secret y st.buffer x stripes) first h.joined
      ∙ run_add secret start_lanes s st.buffer 0 (4 * emptyings) stripes
      (λ j l.
      let ring : (64 * (4 * emptyings) + j) % 256 ≡ 0 + j = omega arith in
      ap (λ (i : ℕ). get_or st.buffer i 0) (sym ring) ∙ h.lies (64 * (4 * emptyings) + j) (omega arith) (omega arith))
      ∙ ap (run secret start_lanes s) all

  -- the last 64 bytes
  last_are : 256 ≤ length s → Alike (last_bytes (length s) st.buffer) 0 s (length s - 64) 64
  last_are b k l =
      let place : (length s % 256 + 192 + (0 + k)) % 256 ≡ (length s - 64 + k) % 256 = omega arith in
      last_at (length s) st.buffer (0 + k) h.size (omega arith)
      ∙ ap (λ (i : ℕ). get_or st.buffer i 0) place
      ∙ h.lies (length s - 64 + k) (omega arith) (omega arith)

  long_is : 256 < length s → long_sum st ≡ large secret s
  unfolding long_sum large
  long_is b =
      ap (λ (t : ℕ). finish secret (run_on secret st.lanes st.buffer (4 * ((t - 1) / 256)) ((t - 1) % 256 / 64)) (last_bytes t st.buffer) 0 t) h.counts
      ∙ finish_same secret (run_on secret st.lanes st.buffer (4 * emptyings) stripes) (last_bytes (length s) st.buffer) s 0 (length s - 64) (length s) (last_are (omega arith))
      ∙ ap (λ (a : List ℕ). finish secret a s (length s - 64) (length s)) (lanes_are (omega arith))

  large_is : 256 < length s → xxh3 s ≡ large secret s
  unfolding xxh3
  large_is b = rw (lt-leb (length s) 16 (omega arith), lt-leb (length s) 128 (omega arith), lt-leb (length s) 240 (omega arith))

  -- the sum of a state is the sum of its bytes
  pub sum_is : sum_of st ≡ xxh3 s
  unfolding sum_of
  sum_is = elim (dec_lt 256 (length s)) [
    | yes b ↦ rw (lt-leb st.total 256 (let q = h.counts in omega arith)) (long_is b ∙ sym (large_is b))
    | no b ↦ rw (le-leb st.total 256 (let q = h.counts in omega arith)) (ap xxh3 (all_there (omega arith)))
  ]
