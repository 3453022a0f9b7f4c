-- Three sections that follow each other, written side by side: what a loop that writes a part of each keeps.
use Rattle.std.specs.Prelude.{◌≡◌, refl, ℕ, suc, ◌+◌, ◌≤◌, ◌<◌, List, [], ◌∷◌, ◌++◌, length, set}
use Rattle.std.proofs.Common.{sym, ap, ap₂, ◌∙◌, arith, length-append}
use Rattle.std.proofs.lemmas.List.Edits.{sets}
use Rattle.std.proofs.Math.Seq.{length-sets}
use Rattle.std.proofs.lemmas.List.{set_comm}
use Rattle.base.specs.Over.{sets_append}
use Rattle.base.specs.Put.{Put}

-- a store commutes with one above it
set_sets : (ys o : List ℕ) (i j x : ℕ) → i < j → set (sets o j ys) i x ≡ sets (set o i x) j ys
set_sets [] o i j x h = refl
set_sets (y ∷ ys) o i j x h =
    set_sets ys (set o j y) i (suc j) x (omega arith) ∙ ap (λ (t : List ℕ). sets t (suc j) ys) (set_comm o j i y x (λ e. omega arith))

pub sets_comm : (xs ys o : List ℕ) (i j : ℕ) → i + length xs ≤ j → sets (sets o j ys) i xs ≡ sets (sets o i xs) j ys
sets_comm [] ys o i j h = refl
sets_comm (x ∷ xs) ys o i j h =
    ap (λ (t : List ℕ). sets t (suc i) xs) (set_sets ys o i j x (omega arith)) ∙ sets_comm xs ys (set o i x) (suc i) j (omega arith)

-- the middle of writing zs at `at` over start: out is what there is, and as, bs and cs are to come at a, b and c
pub record Three (out : List ℕ) (a : ℕ) (as' : List ℕ) (b : ℕ) (bs : List ℕ) (c : ℕ) (cs : List ℕ) (start : List ℕ) (at : ℕ) (zs : List ℕ) : Type 0 where
  pub same : length out ≡ length start
  pub first : a + length as' ≤ b
  pub second : b + length bs ≤ c
  pub third : c + length cs ≡ at + length zs
  pub whole : sets (sets (sets out a as') b bs) c cs ≡ sets start at zs

pub begin : (o : List ℕ) (at : ℕ) (xs ys zs : List ℕ) (b c : ℕ) → b ≡ at + length xs → c ≡ b + length ys → Three o at xs b ys c zs o at (xs ++ (ys ++ zs))
begin o at xs ys zs b c p q =
    let n = length-append xs (ys ++ zs) in
    let m = length-append ys zs in
    record {
      same = refl;
      first = omega arith;
      second = omega arith;
      third = omega arith;
      whole =
          ap₂ (λ (u v : ℕ). sets (sets (sets o at xs) u ys) v zs) p (q ∙ ap (λ (t : ℕ). t + length ys) p)
          ∙ sym (sets_append xs (ys ++ zs) o at ∙ sets_append ys zs (sets o at xs) (at + length xs));
    }

module _ {out : List ℕ} {a : ℕ} {as' : List ℕ} {b : ℕ} {bs : List ℕ} {c : ℕ} {cs : List ℕ} {start : List ℕ} {at : ℕ} {zs : List ℕ} where
  -- the same rest by other names
  pub are : {xs ys ws : List ℕ} → as' ≡ xs → bs ≡ ys → cs ≡ ws → Three out a as' b bs c cs start at zs → Three out a xs b ys c ws start at zs
  are p q r t =
      record {
        same = t.same;
        first = (rw p at t.first);
        second = (rw q at t.second);
        third = (rw r at t.third);
        whole = (rw (p, q, r) at t.whole);
      }

  -- a part of each is written
  pub on : (x y z : List ℕ) {out' : List ℕ} {a' b' c' : ℕ} → Three out a (x ++ as') b (y ++ bs) c (z ++ cs) start at zs
      → a' ≡ a + length x → b' ≡ b + length y → c' ≡ c + length z → out' ≡ sets (sets (sets out a x) b y) c z → Three out' a' as' b' bs c' cs start at zs
  on x y z {out'} {a'} {b'} {c'} t p q r e =
      let l = length-append x as' in
      let m = length-append y bs in
      let n = length-append z cs in
      let first = t.first in
      let second = t.second in
      let third = t.third in
      -- x, y and z are stored; then as, which goes below y and z; then bs, which goes below z; then cs
      let one : sets (sets (sets (sets out a x) b y) c z) (a + length x) as' ≡ sets (sets (sets out a (x ++ as')) b y) c z =
      sets_comm as' z (sets (sets out a x) b y) (a + length x) c (omega arith)
      ∙ ap (λ (u : List ℕ). sets u c z)
      (sets_comm as' y (sets out a x) (a + length x) b (omega arith) ∙ ap (λ (u : List ℕ). sets u b y) (sym (sets_append x as' out a))) in
      let two : sets (sets (sets (sets out a (x ++ as')) b y) c z) (b + length y) bs ≡ sets (sets (sets out a (x ++ as')) b (y ++ bs)) c z =
      sets_comm bs z (sets (sets out a (x ++ as')) b y) (b + length y) c (omega arith)
      ∙ ap (λ (u : List ℕ). sets u c z) (sym (sets_append y bs (sets out a (x ++ as')) b)) in
      record {
        same = ap length e ∙ length-sets (sets (sets out a x) b y) c z ∙ length-sets (sets out a x) b y ∙ length-sets out a x ∙ t.same;
        first = omega arith;
        second = omega arith;
        third = omega arith;
        whole =
            ap (λ (u : List ℕ). sets (sets (sets u a' as') b' bs) c' cs) e
            ∙ ap₂ (λ (u v : ℕ). sets (sets (sets (sets (sets (sets out a x) b y) c z) u as') v bs) c' cs) p q
            ∙ ap (λ (v : ℕ). sets (sets (sets (sets (sets (sets out a x) b y) c z) (a + length x) as') (b + length y) bs) v cs) r
            ∙ ap (λ (u : List ℕ). sets (sets u (b + length y) bs) (c + length z) cs) one
            ∙ ap (λ (u : List ℕ). sets u (c + length z) cs) two
            ∙ sym (sets_append z cs (sets (sets out a (x ++ as')) b (y ++ bs)) c)
            ∙ t.whole;
      }

-- there is room for them
pub rooms : {out : List ℕ} {a b c : ℕ} {start : List ℕ} {at : ℕ} {zs : List ℕ} (x y z as' bs cs : List ℕ)
    → Three out a (x ++ as') b (y ++ bs) c (z ++ cs) start at zs → at + length zs ≤ length start
    → (a + length x ≤ length out) × (b + length y ≤ length out) × (c + length z ≤ length out)
rooms x y z as' bs cs t h =
    let l = length-append x as' in
    let m = length-append y bs in
    let n = length-append z cs in
    let same = t.same in
    let first = t.first in
    let second = t.second in
    let third = t.third in
    (omega arith, omega arith, omega arith)

-- one number is left, in the middle
pub last_of_three : {out : List ℕ} {a b : ℕ} {y : List ℕ} {c : ℕ} {start : List ℕ} {at : ℕ} {zs : List ℕ} {out' : List ℕ}
    → Three out a [] b y c [] start at zs → out' ≡ sets out b y → Put start out' at c zs
last_of_three {c = c} t e = let third = t.third in record { place = omega arith; bytes = e ∙ t.whole }
