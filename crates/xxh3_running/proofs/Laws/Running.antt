-- The laws by which a chunk is fed in larger pieces than bytes: up to the buffer's end, over it, and buffer by buffer.
use Rattle.std.specs.Prelude.{◌≡◌, refl, ℕ, zero, suc, ◌+◌, ◌-◌, ◌*◌, ◌/◌, ◌%◌, ◌≤◌, ◌<◌, Bool, true, false, ◌&&◌, List, [], ◌∷◌, ◌++◌, ltb, length, take, drop, set, get_or, Ok, Err}
use Rattle.std.proofs.Common.{sym, ap, ap₂, ◌∙◌, add-zero, zero-add, arith, append-nil, length-append, length-drop, take-append-drop, drop_of_length-le, length-take-le, get_or-take, get_or-drop, get_or-append-add, drop-drop, lt-ltb, le-leb, eq-eqb, ne_eqb}
use Rattle.std.proofs.Math.Decide.{dec_lt}
use Rattle.std.proofs.Math.ListN.{get_or-append}
use Rattle.std.proofs.lemmas.List.Edits.{sets}
use Rattle.std.proofs.Math.Seq.{length-sets}
use Rattle.std.proofs.lemmas.Bool.{lt-leb}
use Rattle.refusal.specs.declared.Refusal.{Refusal}
use Rattle.base.specs.Over.{sets_over}
use Rattle.xxh3_spec.specs.Xxh3.{run_on, secret}
use Rattle.xxh3_spec.specs.Xxh3.Laws.{run_none, run_same, run_add}
use Rattle.xxh3_running.specs.declared.State.{State}
use Rattle.xxh3_running.specs.Running.{most_fed, state_of, is_full, emptied, byte_more, bytes_more, feed_of, last_bytes}
use Rattle.xxh3_running.specs.Running.Laws.{buffer_before, buffer_after, buffers_in, UntilFull}

-- ---- when the buffer is full

pub full : (t : ℕ) → 0 < t → t % 256 ≡ 0 → is_full t ≡ true
full t h e = rw (lt-ltb 0 t h, eq-eqb (t % 256) 0 e)

and_false : (b : Bool) → (b && false) ≡ false
and_false true = refl
and_false false = refl

pub not_full : (t : ℕ) → (t % 256 ≡ 0 → ⊥) → is_full t ≡ false
not_full t n = rw (ne_eqb (t % 256) 0 n) (and_false (ltb 0 t))

pub none_not_full : is_full 0 ≡ false
none_not_full = refl

-- ---- chunk after chunk

pub bytes_none : (st : State) → bytes_more st [] ≡ st
unfolding bytes_more
bytes_none st = refl

pub bytes_one : (st : State) (c : ℕ) (cs : List ℕ) → bytes_more st (c ∷ cs) ≡ bytes_more (byte_more st c) cs
unfolding bytes_more
bytes_one st c cs = refl

-- cuts do not show
pub bytes_append : (st : State) (xs ys : List ℕ) → bytes_more st (xs ++ ys) ≡ bytes_more (bytes_more st xs) ys
unfolding bytes_more
bytes_append st [] ys = refl
bytes_append st (x ∷ xs) ys = bytes_append (byte_more st x) xs ys

-- every byte is counted
byte_total : (st : State) (c : ℕ) → (byte_more st c).total ≡ st.total + 1
unfolding byte_more
byte_total st c = refl

pub bytes_total : (xs : List ℕ) (st : State) → (bytes_more st xs).total ≡ st.total + length xs
bytes_total [] st = ap (λ (x : State). x.total) (bytes_none st) ∙ sym (add-zero st.total)
bytes_total (x ∷ xs) st =
    let all : st.total + 1 + length xs ≡ st.total + suc (length xs) = omega arith in
    ap (λ (y : State). y.total) (bytes_one st x xs) ∙ bytes_total xs (byte_more st x) ∙ ap (λ (n : ℕ). n + length xs) (byte_total st x) ∙ all

-- ---- one byte

pub byte_inside : (t : ℕ) (l b : List ℕ) (c : ℕ) → is_full t ≡ false → byte_more (state_of t l b) c ≡ state_of (t + 1) l (set b (t % 256) c)
unfolding byte_more
byte_inside t l b c e = rw e

pub byte_over : (t : ℕ) (l b : List ℕ) (c : ℕ) → is_full t ≡ true → byte_more (state_of t l b) c ≡ state_of (t + 1) (emptied t l b) (set b (t % 256) c)
unfolding byte_more
byte_over t l b c e = rw e

-- ---- bytes that stay inside the buffer

-- they lie from place p of it on
pub within : (xs : List ℕ) (t p : ℕ) (l b : List ℕ) → p + length xs ≤ 256 → (0 < length xs → (t % 256 ≡ p) × (is_full t ≡ false))
    → bytes_more (state_of t l b) xs ≡ state_of (t + length xs) l (sets b p xs)
within [] t p l b h f = bytes_none (state_of t l b) ∙ ap (λ (n : ℕ). state_of n l b) (sym (add-zero t))
within (x ∷ xs) t p l b h f =
    let here = f (omega arith) in
    let place = here.0 in
    let next : 0 < length xs → (t + 1) % 256 ≡ suc p = λ n. omega arith in
    let inside : 0 < length xs → is_full (t + 1) ≡ false = λ n. not_full (t + 1) (λ z. let q = next n in omega arith) in
    let all : t + 1 + length xs ≡ t + suc (length xs) = omega arith in
    bytes_one (state_of t l b) x xs
    ∙ ap (λ (st : State). bytes_more st xs) (byte_inside t l b x here.1 ∙ ap (λ (n : ℕ). state_of (t + 1) l (set b n x)) place)
    ∙ within xs (t + 1) (suc p) l (set b p x) (omega arith) (λ n. (next n, inside n))
    ∙ ap (λ (n : ℕ). state_of n l (sets (set b p x) (suc p) xs)) all

-- ---- bytes that come to a full buffer

-- no more than the buffer holds: its stripes join the lanes, and they lie from its start on
pub over_full : (xs : List ℕ) (t : ℕ) (l b : List ℕ) → 0 < t → t % 256 ≡ 0 → 0 < length xs → length xs ≤ 256
    → bytes_more (state_of t l b) xs ≡ state_of (t + length xs) (emptied t l b) (sets b 0 xs)
over_full [] t l b p e h h' = absurd (omega arith)
over_full (x ∷ xs) t l b p e h h' =
    let next : (t + 1) % 256 ≡ 1 = omega arith in
    let all : t + 1 + length xs ≡ t + suc (length xs) = omega arith in
    bytes_one (state_of t l b) x xs
    ∙ ap (λ (st : State). bytes_more st xs) (byte_over t l b x (full t p e) ∙ ap (λ (n : ℕ). state_of (t + 1) (emptied t l b) (set b n x)) e)
    ∙ within xs (t + 1) 1 (emptied t l b) (set b 0 x) (omega arith) (λ n. (next, not_full (t + 1) (λ z. omega arith)))
    ∙ ap (λ (n : ℕ). state_of n (emptied t l b) (sets (set b 0 x) 1 xs)) all

-- a whole buffer of them takes its place
pub sets_whole : (xs b : List ℕ) → length b ≡ length xs → sets b 0 xs ≡ xs
sets_whole xs b n =
    sets_over xs b (omega arith) ∙ ap (λ (r : List ℕ). xs ++ r) (drop_of_length-le b {i = length xs} (omega arith)) ∙ append-nil xs

buffer_next : (k : ℕ) (s b : List ℕ) → buffer_before (take 256 s) (drop 256 s) k ≡ buffer_before b s (suc k)
buffer_next zero s b = refl
buffer_next (suc k) s b =
    let n : 256 * k + 256 - 256 * k ≡ 256 * suc k + 256 - 256 * suc k = omega arith in
    let m : 256 + 256 * k ≡ 256 * suc k = omega arith in
    ap (take (256 * k + 256 - 256 * k)) (drop-drop (256 * k) 256 s) ∙ ap₂ (λ (u v : ℕ). take u (drop v s)) n m

lanes_next : (k t : ℕ) (a s : List ℕ) → t % 256 ≡ 0
    → run_on secret (emptied (t + 256) a (take 256 s)) (drop 256 s) ((t + 256) / 64) (4 * k) ≡ run_on secret a s (t / 64) (4 * suc k)
unfolding emptied
lanes_next k t a s e =
    let block : (t + 256) / 64 - 4 ≡ t / 64 = omega arith in
    let after : (t + 256) / 64 ≡ t / 64 + 4 = omega arith in
    let all : 4 + 4 * k ≡ 4 * suc k = omega arith in
    ap (λ (x : ℕ). run_on secret (run_on secret a (take 256 s) x 4) (drop 256 s) ((t + 256) / 64) (4 * k)) block
    ∙ ap₂ (λ (x : List ℕ) (y : ℕ). run_on secret x (drop 256 s) y (4 * k))
    (run_same secret a (take 256 s) s (t / 64) 4 (λ j h. get_or-take 256 s (0 + j) 0 (rw zero-add h))) after
    ∙ run_add secret a s (drop 256 s) (t / 64) 4 (4 * k) (λ j h. get_or-drop 256 s (0 + j) 0 ∙ ap (λ (i : ℕ). get_or s (256 + i) 0) (zero-add j))
    ∙ ap (run_on secret a s (t / 64)) all

-- any number of bytes, of which k whole buffers come before the last byte: those join the lanes too, and the buffer holds the last 256 bytes
pub poured : (k : ℕ) (s : List ℕ) (t : ℕ) (l b : List ℕ) → 0 < t → t % 256 ≡ 0 → length b ≡ 256 → 256 * k < length s → length s ≤ 256 * k + 256
    → bytes_more (state_of t l b) s ≡ state_of (t + length s) (run_on secret (emptied t l b) s (t / 64) (4 * k)) (buffer_after b s k)
poured zero s t l b p e n h h' =
    over_full s t l b p e h h'
    ∙ ap (λ (a : List ℕ). state_of (t + length s) a (sets b 0 s)) (sym (run_none secret (emptied t l b) s (t / 64)))
poured (suc k) s t l b p e n h h' =
    let block : List ℕ = take 256 s in
    let rest : List ℕ = drop 256 s in
    let a : List ℕ = emptied t l b in
    let size : length block ≡ 256 = length-take-le 256 s (omega arith) in
    let left : length rest ≡ length s - 256 = length-drop 256 s in
    let all : t + 256 + length rest ≡ t + length s = omega arith in
    let place : 256 + 256 * k ≡ 256 * suc k = omega arith in
    ap (bytes_more (state_of t l b)) (sym (take-append-drop 256 s))
    ∙ bytes_append (state_of t l b) block rest
    ∙ ap (λ (st : State). bytes_more st rest)
    (over_full block t l b p e (omega arith) (omega arith) ∙ ap₂ (λ (x : ℕ) (y : List ℕ). state_of (t + x) a y) size (sets_whole block b (n ∙ sym size)))
    ∙ poured k rest (t + 256) a block (omega arith) (omega arith) size (omega arith) (omega arith)
    ∙ ap₂ (λ (x : ℕ) (y : List ℕ). state_of x y (buffer_after block rest k)) all (lanes_next k t a s e)
    ∙ ap₂ (λ (x y : List ℕ). state_of (t + length s) (run_on secret a s (t / 64) (4 * suc k)) (sets x 0 y))
    (buffer_next k s b) (drop-drop (256 * k) 256 s ∙ ap (λ (x : ℕ). drop x s) place)

-- ---- the last bytes

-- byte i of the last 64 lies in the ring
pub last_at : (t : ℕ) (b : List ℕ) (i : ℕ) → length b ≡ 256 → i < 64 → get_or (last_bytes t b) i 0 ≡ get_or b ((t % 256 + 192 + i) % 256) 0
unfolding last_bytes
last_at t b i z h =
    let p : ℕ = t % 256 in
    let old : List ℕ = drop p b in
    let young : List ℕ = take p b in
    let n : length old ≡ 256 - p = length-drop p b ∙ ap (λ (x : ℕ). x - p) z in
    get_or-drop 192 (old ++ young) i 0
    ∙ elim (dec_lt (192 + i) (length old)) [
      | yes in-old ↦
          let place : p + (192 + i) ≡ (p + 192 + i) % 256 = omega arith in
          get_or-append old young 0 (192 + i) in-old ∙ get_or-drop p b (192 + i) 0 ∙ ap (λ (k : ℕ). get_or b k 0) place
      | no in-young ↦
          let j : ℕ = (p + 192 + i) % 256 in
          let place : 192 + i ≡ length old + j = omega arith in
          ap (λ (x : ℕ). get_or (old ++ young) x 0) place ∙ get_or-append-add old young j 0 ∙ get_or-take p b j 0 (omega arith)
    ]

pub length_last : (t : ℕ) (b : List ℕ) → length b ≡ 256 → length (last_bytes t b) ≡ 64
unfolding last_bytes
length_last t b z =
    let p : ℕ = t % 256 in
    let old : length (drop p b) ≡ length b - p = length-drop p b in
    let young : length (take p b) ≡ p = length-take-le p b (omega arith) in
    let all : length (drop p b ++ take p b) ≡ length (drop p b) + length (take p b) = length-append (drop p b) (take p b) in
    length-drop 192 (drop p b ++ take p b) ∙ omega arith

-- where the next byte lies
until_place : (t r : ℕ) → UntilFull t r → 0 < r → (t % 256 ≡ 256 - r) × (is_full t ≡ false)
until_place t r u p = elim (dec_lt 255 r) [
  | yes h ↦
      let z = u.3 h in
      let k = u.0 in
      let none : is_full t ≡ false = rw z none_not_full in
      (rw z (omega arith), none)
  | no h ↦
      let m = u.1 in
      let place : t % 256 ≡ 256 - r = omega arith in
      (place, not_full t (λ q. omega arith))
]

-- it stays inside
pub fed_inside : (t r : ℕ) (l b xs : List ℕ) → UntilFull t r → length xs ≤ r → bytes_more (state_of t l b) xs ≡ state_of (t + length xs) l (sets b (256 - r) xs)
fed_inside t r l b xs u h = let k = u.0 in within xs t (256 - r) l b (omega arith) (λ p. until_place t r u (omega arith))

module _ (t r : ℕ) (l b xs : List ℕ) (u : UntilFull t r) (z : length b ≡ 256) (h : r < length xs) where
  abbrev filled : List ℕ
  filled = sets b (256 - r) (take r xs)

  abbrev rest : List ℕ
  rest = drop r xs

  -- it goes on past the end: the buffer is filled and emptied, and so are the whole buffers of the rest before the last byte
  pub fed_past : bytes_more (state_of t l b) xs
      ≡ state_of (t + length xs) (run_on secret (emptied (t + r) l filled) rest ((t + r) / 64) (4 * buffers_in rest)) (buffer_after filled rest (buffers_in rest))
  fed_past =
      let k : ℕ = buffers_in rest in
      let m : length (take r xs) ≡ r = length-take-le r xs (omega arith) in
      let n : length rest ≡ length xs - r = length-drop r xs in
      let all : t + r + length rest ≡ t + length xs = omega arith in
      let size : length filled ≡ 256 = length-sets b (256 - r) (take r xs) ∙ z in
      ap (bytes_more (state_of t l b)) (sym (take-append-drop r xs))
      ∙ bytes_append (state_of t l b) (take r xs) rest
      ∙ ap (λ (st : State). bytes_more st rest) (fed_inside t r l b (take r xs) u (omega arith) ∙ ap (λ (x : ℕ). state_of (t + x) l filled) m)
      ∙ poured k rest (t + r) l filled u.2 u.1 size (omega arith) (omega arith)
      ∙ ap (λ (x : ℕ). state_of x (run_on secret (emptied (t + r) l filled) rest ((t + r) / 64) (4 * k)) (buffer_after filled rest k)) all

-- ---- a chunk is taken whole, or refused

pub feed_taken : (st : State) (c : List ℕ) → st.total + length c ≤ most_fed → feed_of st c ≡ record { told = (Ok tt); state = bytes_more st c }
unfolding feed_of
feed_taken st c h = rw (le-leb (st.total + length c) most_fed h)

pub feed_refused : (st : State) (c : List ℕ) → most_fed < st.total + length c → feed_of st c ≡ record { told = Err Refusal.Chunk; state = st }
unfolding feed_of
feed_refused st c h = rw (lt-leb (st.total + length c) most_fed h)
