-- Why a varint is no number, in the documents' words: cut, not the shortest, too large, each told exactly then.
use Rattle.std.specs.Prelude.{◌≡◌, refl, ◌↔◌, ◌⊎◌, List, length, Ok, Err}
use Rattle.std.proofs.Common.{sym, subst, ◌∙◌, inl, inr, le_trans, add-zero, one-mul, pow-suc, zero-lt-suc, lit<}
use Rattle.std.proofs.Math.Path.{ap}
use Rattle.std.proofs.Math.Logic.{⊎_elim}
use Prim.Native.Nat.{ℕ, zero, suc, ◌+◌, ◌-◌, ◌*◌, ◌%◌, ◌^◌, ◌≤◌, ◌<◌}
use Rattle.std.proofs.Math.Nat.{pow-le-pow_right}
use Rattle.std.proofs.Math.Decide.{dec_lt, ℕ_discrete}
use native.Mathlib.Omega.{arith}
use Rattle.std.proofs.Math.ListN.{get_or}
use Rattle.codes.specs.declared.varint.Unread.{Unread}
use Rattle.codes.specs.Varint.{var_from, varint_at}
use Rattle.codes.specs.Varint.Laws.{varint_from, from_none, from_cut, from_more, from_long, from_zero, from_value, from_large, digit_lt, weight_le}

-- k bytes from i on are there, and each says that another follows
abbrev pub GoesOn : List ℕ → ℕ → ℕ → Type 0
GoesOn s i k = (j : ℕ) → j < k → (i + j < length s) × (128 ≤ get_or s (i + j) 0)

unfoldable pub NoNumber : List ℕ → ℕ → Unread → Type 0
-- nine bytes or fewer that go on, none too, and no more
NoNumber s i Unread.Cut = (k : ℕ) × (k ≤ 9) × GoesOn s i k × (length s ≤ i + k)
-- a last byte of 0 after others
NoNumber s i Unread.Long = (k : ℕ) × (1 ≤ k) × (k ≤ 9) × GoesOn s i k × (i + k < length s) × (get_or s (i + k) 0 ≡ 0)
-- "A tenth varint byte above 1 is too large, whatever follows"
NoNumber s i Unread.Large = GoesOn s i 9 × (i + 9 < length s) × (1 < get_or s (i + 9) 0)

-- what k bytes that go on give: a number below 128^k, and the rest of the bytes to come
record SoFar (s : List ℕ) (i k : ℕ) : Type 0 where
  low : ℕ
  weight : ℕ
  below : low < weight
  worth : weight ≡ 128 ^ k
  rest : varint_at s i ≡ var_from (10 - k) s (i + k) low weight

so_far : (s : List ℕ) (i k : ℕ) → k ≤ 10 → GoesOn s i k → SoFar s i k
so_far s i zero h g = record { low = 0; weight = 1; below = lit< tt; worth = refl; rest = varint_from s i ∙ ap (λ (t : ℕ). var_from 10 s t 0 1) (sym (add-zero i)) }
so_far s i (suc k) h g =
    let t = so_far s i k (omega arith) (λ j l. g j (omega arith)) in
    let (there, more) = g k (omega arith) in
    let b : ℕ = get_or s (i + k) 0 in
    let turns : 10 - k ≡ suc (10 - suc k) = omega arith in
    let next : i + k + 1 ≡ i + suc k = omega arith in
    let rest : varint_at s i ≡ var_from (suc (10 - suc k)) s (i + k) t.low t.weight = rw turns at t.rest in
    record {
      low = t.low + b % 128 * t.weight;
      weight = t.weight * 128;
      below = digit_lt (b % 128) t.low t.weight (omega arith) t.below;
      worth = ap (λ (w : ℕ). w * 128) t.worth ∙ sym (pow-suc 128 k);
      rest = rest ∙ from_more s (i + k) t.low t.weight (10 - suc k) there more
          ∙ ap (λ (j : ℕ). var_from (10 - suc k) s j (t.low + b % 128 * t.weight) (t.weight * 128)) next;
    }

-- and one turn more of them
one_turn : (s : List ℕ) (i k : ℕ) → k ≤ 9 → (t : SoFar s i k) → varint_at s i ≡ var_from (suc (9 - k)) s (i + k) t.low t.weight
one_turn s i k h t = let turns : 10 - k ≡ suc (9 - k) = omega arith in (rw turns at t.rest)

-- the weight of a byte after the first is above 1
first_weight : (w k : ℕ) → w ≡ 128 ^ k → 1 ≤ k → 1 < w
first_weight w k e h = rw e (le_trans (lit< tt) (pow-le-pow_right (zero-lt-suc 127) h))

module _ (s : List ℕ) (i : ℕ) where
  no_told : (why : Unread) → NoNumber s i why → varint_at s i ≡ Err why
  unfolding NoNumber
  no_told Unread.Cut n =
      let t = so_far s i n.0 (le_trans n.1 (lit< tt)) n.2 in
      one_turn s i n.0 n.1 t ∙ from_cut s (i + n.0) t.low t.weight (9 - n.0) n.3
  no_told Unread.Long n =
      let t = so_far s i n.0 (le_trans n.2 (lit< tt)) n.3 in
      one_turn s i n.0 n.2 t ∙ from_long s (i + n.0) t.low t.weight (9 - n.0) n.4 n.5 (first_weight t.weight n.0 t.worth n.1)
  no_told Unread.Large n =
      let t = so_far s i 9 (lit< tt) n.0 in
      let worth : t.weight ≡ 2 ^ 63 = t.worth in
      let b : ℕ = get_or s (i + 9) 0 in
      one_turn s i 9 (lit< tt) t
      ∙ elim (dec_lt b 128) [
        | yes l ↦ from_large s (i + 9) t.low t.weight 0 n.1 l (λ z. omega arith) (over b t.low t.weight worth n.2)
        | no l ↦ from_more s (i + 9) t.low t.weight 0 n.1 (omega arith) ∙ from_none s (i + 9 + 1) _ _
      ]
    where
      over : (b x w : ℕ) → w ≡ 2 ^ 63 → 1 < b → 2 ^ 64 ≤ x + b * w
      over b x w e h = rw e (omega arith)

-- where the bytes that go on end: at the end of all bytes, at a last byte, or at the tenth
record Ends (s : List ℕ) (i : ℕ) : Type 0 where
  count : ℕ
  most : count ≤ 9
  before : GoesOn s i count
  how : (length s ≤ i + count) ⊎ ((i + count < length s) × ((get_or s (i + count) 0 < 128) ⊎ (count ≡ 9)))

one_more : (s : List ℕ) (i k : ℕ) → GoesOn s i k → i + k < length s → 128 ≤ get_or s (i + k) 0 → GoesOn s i (k + 1)
one_more s i k g h l j lt =
    elim (ℕ_discrete j k) [
      | yes e ↦ rw e (h, l)
      | no e ↦ g j (omega arith)
    ]

ends : (s : List ℕ) (i left k : ℕ) → k + left ≡ 9 → GoesOn s i k → Ends s i
ends s i zero k sum g =
    elim (dec_lt (i + k) (length s)) [
      | no h ↦ record { count = k; most = omega arith; before = g; how = inl (omega arith) }
      | yes h ↦ record { count = k; most = omega arith; before = g; how = inr (h, inr (omega arith)) }
    ]
ends s i (suc left) k sum g =
    elim (dec_lt (i + k) (length s)) [
      | no h ↦ record { count = k; most = omega arith; before = g; how = inl (omega arith) }
      | yes h ↦ elim (dec_lt (get_or s (i + k) 0) 128) [
        | yes l ↦ record { count = k; most = omega arith; before = g; how = inr (h, inl l) }
        | no l ↦ ends s i left (k + 1) (omega arith) (one_more s i k g h (omega arith))
      ]
    ]

module _ (s : List ℕ) (i : ℕ) (why : Unread) (e : varint_at s i ≡ Err why) where
  -- what is told is one thing
  told : (w : Unread) → NoNumber s i w → NoNumber s i why
  told w n =
      let both : Err w ≡ Err why = sym (no_told s i w n) ∙ e in
      let same : w ≡ why = cc in
      subst (NoNumber s i) same n

  -- and not a number
  read : (v n : ℕ) → varint_at s i ≡ Ok (v, n) → NoNumber s i why
  read v n q = let z : ◌≡◌ {A = ℕ} 0 1 = cc in absurd (omega arith)

  -- a last byte
  last : (k : ℕ) → k ≤ 9 → GoesOn s i k → i + k < length s → get_or s (i + k) 0 < 128 → NoNumber s i why
  unfolding NoNumber
  last k h g there l =
      let b : ℕ = get_or s (i + k) 0 in
      let t = so_far s i k (omega arith) g in
      let turn = one_turn s i k h t in
      elim (dec_lt 0 b) [
        | no z ↦ elim (dec_lt 0 k) [
          | yes p ↦ told Unread.Long (k, p, h, g, there, omega arith)
          | no p ↦
              let first : k ≡ 0 = omega arith in
              let worth : t.weight ≡ 1 = t.worth ∙ ap (λ (j : ℕ). 128 ^ j) first in
              read _ _ (turn ∙ from_zero s (i + k) t.low t.weight (9 - k) there (omega arith) (omega arith))
        ]
        | yes z ↦ elim (dec_lt k 9) [
          | yes p ↦ read _ _ (turn ∙ from_value s (i + k) t.low t.weight (9 - k) there l (λ q. omega arith) (small t.below t.worth l p))
          | no p ↦
              let tenth : k ≡ 9 = omega arith in
              let worth : t.weight ≡ 2 ^ 63 = t.worth ∙ ap (λ (j : ℕ). 128 ^ j) tenth in
              let below : t.low < t.weight = t.below in
              elim (dec_lt 1 b) [
                | yes q ↦ told Unread.Large (rw tenth at g, rw tenth at there, rw tenth at q)
                | no q ↦
                    let one : b ≡ 1 = omega arith in
                    read _ _ (turn ∙ from_value s (i + k) t.low t.weight (9 - k) there l (λ r. omega arith) (top b t.low t.weight one worth below))
              ]
        ]
      ]
    where
      small : {b x w j : ℕ} → x < w → w ≡ 128 ^ j → b < 128 → j < 9 → x + b * w < 2 ^ 64
      small {b} {x} {w} {j} lt worth c p =
          let room : x + b * w < w * 128 = digit_lt b x w c lt in
          let most : w ≤ 2 ^ 56 = weight_le w j worth (omega arith) in
          omega arith

      top : (b x w : ℕ) → b ≡ 1 → w ≡ 2 ^ 63 → x < w → x + b * w < 2 ^ 64
      top b x w one worth lt = let q : b * w ≡ w = rw one (one-mul w) in omega arith

  none : NoNumber s i why
  unfolding NoNumber
  none =
      let n = ends s i 9 0 (omega arith) (λ j lt. absurd (omega arith)) in
      ⊎_elim (λ cut. told Unread.Cut (n.count, n.most, n.before, cut))
      (λ b.
      elim (dec_lt (get_or s (i + n.count) 0) 128) [
        | yes l ↦ last n.count n.most n.before b.0 l
        | no l ↦
            ⊎_elim (λ l'. absurd (l l'))
            (λ tenth. told Unread.Large (rw tenth at n.before, rw tenth at b.0, rw tenth at (above (get_or s (i + n.count) 0) l))) b.1
      ])
      n.how
    where
      above : (b : ℕ) → (b < 128 → ⊥) → 1 < b
      above b l = omega arith

-- each is told exactly then
pub no_number : (s : List ℕ) (i : ℕ) (why : Unread) → (varint_at s i ≡ Err why) ↔ NoNumber s i why
no_number s i why = (none s i why, no_told s i why)
