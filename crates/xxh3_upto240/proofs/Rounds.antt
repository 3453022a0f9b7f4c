-- One turn of each recursion of the specification, at the numbers that a loop counts with. Assumes nothing.
use Rattle.std.proofs.Common.{◌≡◌, ℕ, zero, suc, ◌+◌, ◌-◌, ◌*◌, ◌/◌, List, length, refl, ap, ◌∙◌, add-one, arith}
use Rattle.codes.specs.Little.{le_at}
use Rattle.xxh3_spec.specs.Xxh3.{add, mul, avalanche, secret, pair, mix_step, inward, onward, of17to128}

swapped : (h x a b : ℕ) → add (add (add h x) a) b ≡ add (add (add h a) b) x
swapped h x a b = omega arith

-- what joins the sum first may as well join it last
inward_last : (q s : List ℕ) (i h x : ℕ) → inward q s i (add h x) ≡ add (inward q s i h) x
unfolding inward
inward_last q s zero h x = refl
inward_last q s (suc i) h x =
    let a = mix_step q s (16 * i) (32 * i) in
    let b = mix_step q s (length s - 16 * i - 16) (32 * i + 16) in
    ap (inward q s i) (swapped h x a b) ∙ inward_last q s i (add (add h a) b) x

pub inward_step : (q s : List ℕ) (i h : ℕ) → inward q s (i + 1) h ≡ add (add (inward q s i h) (mix_step q s (16 * i) (32 * i))) (mix_step q s (length s - 16 * i - 16) (32 * i + 16))
unfolding inward
inward_step q s i h =
    let a = mix_step q s (16 * i) (32 * i) in
    let b = mix_step q s (length s - 16 * i - 16) (32 * i + 16) in
    rw (add-one i) (inward_last q s i (add h a) b ∙ ap (λ (x : ℕ). add x b) (inward_last q s i h a))

pub onward_step : (q s : List ℕ) (i k n h : ℕ) → onward q s i k (n + 1) h ≡ add (onward q s i k n h) (mix_step q s (i + 16 * n) (k + 16 * n))
unfolding onward
onward_step q s i k n h = rw (add-one n)

pub inward_zero : (q s : List ℕ) (h : ℕ) → inward q s 0 h ≡ h
unfolding inward
inward_zero q s h = refl

pub inward_suc : (q s : List ℕ) (i h : ℕ) → inward q s (suc i) h ≡ inward q s i (add (add h (mix_step q s (16 * i) (32 * i))) (mix_step q s (length s - 16 * i - 16) (32 * i + 16)))
unfolding inward
inward_suc q s i h = refl

-- of17to128, from the number of its rounds and what its calls give
pub in128 : (s : List ℕ) (m : ℕ) {h x r : ℕ} → (length s - 1) / 32 + 1 ≡ m → h ≡ mul (length s) 0x9e37_79b1_85eb_ca87 → x ≡ inward secret s m h → r ≡ avalanche x → r ≡ of17to128 secret s
unfolding of17to128
in128 s m e₀ e₁ e₂ e₃ = cc

-- one round, from what its calls give
pub stepped : (s : List ℕ) (i k n g : ℕ) {x y h p r : ℕ} → h ≡ onward secret s i k n g → x ≡ le_at secret (k + 16 * n) 8 → y ≡ le_at secret (k + 16 * n + 8) 8 → p ≡ pair s (i + 16 * n) x y → r ≡ add h p → r ≡ onward secret s i k (n + 1) g
unfolding mix_step
stepped s i k n g e₀ e₁ e₂ e₃ e₄ = cc (onward_step secret s i k n g)
