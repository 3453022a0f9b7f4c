-- The state of eight numbers: equal lane by lane; the merge and the whole sum, from what their calls give; one turn of the run. Assumes nothing.
use Rattle.std.proofs.Common.{◌≡◌, ℕ, ◌+◌, ◌-◌, ◌*◌, ◌/◌, ◌%◌, ◌<◌, ◌≤◌, List, [], ◌∷◌, length, get_or, drop, sym, refl, ap, ◌∙◌, zero-add, arith, get_or-drop, get_or-take, le-ltb, lt-ltb}
use Rattle.base.specs.Over.{part}
use Rattle.xxh3_spec.specs.Xxh3.{add, mul, avalanche, accumulate, scramble, turn, run_on, run, twice, merge, finish, start_lanes, large}
use Rattle.xxh3_spec.specs.Xxh3.Laws.{Alike, run_none, run_more, run_add, finish_same}

pub same8 : {a b c d e f g h a' b' c' d' e' f' g' h' : ℕ} → a ≡ a' → b ≡ b' → c ≡ c' → d ≡ d' → e ≡ e' → f ≡ f' → g ≡ g' → h ≡ h'
    → a ∷ b ∷ c ∷ d ∷ e ∷ f ∷ g ∷ h ∷ [] ≡ a' ∷ b' ∷ c' ∷ d' ∷ e' ∷ f' ∷ g' ∷ h' ∷ []
same8 p₀ p₁ p₂ p₃ p₄ p₅ p₆ p₇ = cc

pub merged : (q a : List ℕ) (n : ℕ) {m t₀ h₀ t₁ h₁ t₂ h₂ t₃ h₃ r : ℕ} → m ≡ mul n 0x9e37_79b1_85eb_ca87
    → t₀ ≡ twice q (get_or a 0 0) (get_or a 1 0) 11 → h₀ ≡ add m t₀
    → t₁ ≡ twice q (get_or a 2 0) (get_or a 3 0) 27 → h₁ ≡ add h₀ t₁
    → t₂ ≡ twice q (get_or a 4 0) (get_or a 5 0) 43 → h₂ ≡ add h₁ t₂
    → t₃ ≡ twice q (get_or a 6 0) (get_or a 7 0) 59 → h₃ ≡ add h₂ t₃
    → r ≡ avalanche h₃ → r ≡ merge q a n
unfolding merge
merged q a n e₀ e₁ e₂ e₃ e₄ e₅ e₆ e₇ e₈ e₉ = cc

pub finished : (q a s : List ℕ) (i n : ℕ) {x : List ℕ} {r : ℕ} → x ≡ accumulate q a s i 121 → r ≡ merge q x n → r ≡ finish q a s i n
unfolding finish
finished q a s i n e₀ e₁ = cc

pub inside : (q a s : List ℕ) (i n : ℕ) {x : List ℕ} → x ≡ accumulate q a s i (8 * (n % 16)) → n % 16 < 15 → x ≡ turn q a s i n
unfolding turn
inside q a s i n e l = simp (lt-ltb _ _ l) e

pub at_end : (q a s : List ℕ) (i n : ℕ) {x r : List ℕ} → x ≡ accumulate q a s i (8 * (n % 16)) → 15 ≤ n % 16 → r ≡ scramble q x → r ≡ turn q a s i n
unfolding turn
at_end q a s i n e l f = simp (le-ltb _ _ l) (cc)

-- the n bytes of s from i on are the first n that `&s[i..]` lends
lent : (s : List ℕ) (i n : ℕ) → i + n ≤ length s → Alike (part s i (length s)) 0 s i n
lent s i n h k l = rw (zero-add k, get_or-take (length s - i) (drop i s) k 0 (omega arith), get_or-drop i s k 0) refl

begins : (q s : List ℕ) {x : List ℕ} → x ≡ accumulate q start_lanes s 0 0 → x ≡ run q start_lanes s 1
begins q s e = inside q start_lanes s 0 0 e (omega arith) ∙ sym (run_more q start_lanes s 0 0 ∙ ap (λ (v : List ℕ). turn q v s 0 0) (run_none q start_lanes s 0))

-- more than 64 bytes: the first stripe, all others before the last byte, and the end
pub ended : (q s : List ℕ) {x y : List ℕ} {r : ℕ} → 64 < length s → x ≡ accumulate q start_lanes s 0 0
    → y ≡ run_on q x (part s 64 (length s)) 1 ((length s - 1) / 64 - 1)
    → r ≡ finish q y (part s (length s - 64) (length s)) 0 (length s) → r ≡ large q s
unfolding large
ended q s l e f g =
    let m : ℕ = (length s - 1) / 64 - 1 in
    let h : 1 + m ≡ (length s - 1) / 64 = omega arith in
    let all = f ∙ ap (λ (v : List ℕ). run_on q v (part s 64 (length s)) 1 m) (begins q s e)
    ∙ run_add q start_lanes s (part s 64 (length s)) 0 1 m (lent s 64 (64 * m) (omega arith))
    ∙ ap (λ (v : ℕ). run q start_lanes s v) h in
    g ∙ finish_same q _ (part s (length s - 64) (length s)) s 0 (length s - 64) (length s) (lent s (length s - 64) 64 (omega arith))
    ∙ ap (λ (v : List ℕ). finish q v s (length s - 64) (length s)) all
