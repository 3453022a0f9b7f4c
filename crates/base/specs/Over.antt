-- Lists laid over an output: what a call leaves in memory that it was lent. `sets o i xs` of the library stores xs
-- from place i on.
use Rattle.std.specs.Prelude.{◌≡◌, refl, ℕ, suc, ◌+◌, ◌-◌, ◌≤◌, ◌<◌, List, [], ◌∷◌, ◌++◌, length, take, drop, get_or, set}
use Rattle.std.proofs.Common.{sym, ap, ap₂, ◌∙◌, add-zero, zero-add, arith, append_assoc, length-append, length-drop, get_or-set_other, take_at, drop_at, length-take-le}
use Rattle.std.proofs.lemmas.List.Edits.{sets, sets-eq}
use Rattle.std.proofs.lemmas.List.{set_comm}
use Rattle.std.proofs.Math.Seq.{drop-append_seam, take-append_seam}

module _ {ℓ} {A : Type ℓ} where
  -- xs over the start of o: what lies past xs stays
  abbrev pub over : List A → List A → List A
  over xs o = xs ++ drop (length xs) o

  -- the elements of s from a on and before e, as `&s[a..e]` lends them
  abbrev pub part : List A → ℕ → ℕ → List A
  part s a e = take (e - a) (drop a s)

  pub length_part : (s : List A) (a e : ℕ) → e ≤ length s → length (part s a e) ≡ e - a
  length_part s a e h = length-take-le (e - a) (drop a s) (simp length-drop (omega arith))

  -- what lies between xs and zs
  pub part_mid : (xs ys zs : List A) (a e : ℕ) → a ≡ length xs → e ≡ length xs + length ys → part (xs ++ (ys ++ zs)) a e ≡ ys
  part_mid xs ys zs a e p q =
      let n : e - a ≡ length ys = omega arith in
      ap₂ (λ (u v : ℕ). take u (drop v (xs ++ (ys ++ zs)))) n p ∙ ap (take (length ys)) (drop-append_seam xs (ys ++ zs)) ∙ take-append_seam ys zs

  -- two stores in a row are one store of both
  pub sets_append : (xs ys o : List A) (i : ℕ) → sets o i (xs ++ ys) ≡ sets (sets o i xs) (i + length xs) ys
  sets_append [] ys o i = ap (λ (k : ℕ). sets o k ys) (sym (add-zero i))
  sets_append (x ∷ xs) ys o i =
      let e : suc i + length xs ≡ i + suc (length xs) = omega arith in
      sets_append xs ys (set o i x) (suc i) ∙ ap (λ (k : ℕ). sets (sets (set o i x) (suc i) xs) k ys) e

  -- the last element may be stored before the others
  pub sets_snoc : (xs o : List A) (i : ℕ) (y : A) → sets (set o (i + length xs) y) i xs ≡ sets o i (xs ++ (y ∷ []))
  sets_snoc [] o i y = ap (λ (k : ℕ). set o k y) (add-zero i)
  sets_snoc (x ∷ xs) o i y =
      let e : i + suc (length xs) ≡ suc i + length xs = omega arith in
      ap (λ (t : List A). sets t (suc i) xs)
      (set_comm o (i + suc (length xs)) i y x (λ q. omega arith) ∙ ap (λ (k : ℕ). set (set o i x) k y) e)
      ∙ sets_snoc xs (set o i x) (suc i) y

  -- a store from i on leaves what lies below i
  pub get_d_sets_below : (xs o : List A) (i j : ℕ) (d : A) → j < i → get_or (sets o i xs) j d ≡ get_or o j d
  get_d_sets_below [] o i j d h = refl
  get_d_sets_below (x ∷ xs) o i j d h =
      get_d_sets_below xs (set o i x) (suc i) j d (omega arith) ∙ get_or-set_other o i j x d (λ e. omega arith)

  -- a store from the first place on
  pub sets_over : (xs o : List A) → length xs ≤ length o → sets o 0 xs ≡ over xs o
  sets_over xs o h = sets-eq xs o 0 (rw zero-add h) ∙ ap (λ (n : ℕ). xs ++ drop n o) (zero-add (length xs))

  -- a store right after xs
  pub over_sets : (xs ys o : List A) → length xs + length ys ≤ length o → sets (over xs o) (length xs) ys ≡ over (xs ++ ys) o
  over_sets xs ys o h =
      ap (λ (t : List A). sets t (length xs) ys) (sym (sets_over xs o (omega arith)))
      ∙ ap (λ (k : ℕ). sets (sets o 0 xs) k ys) (sym (zero-add (length xs)))
      ∙ sym (sets_append xs ys o 0)
      ∙ sets_over (xs ++ ys) o (rw length-append h)

  -- what was stored can be lent again
  pub part_sets : (xs o : List A) (i : ℕ) → i + length xs ≤ length o → part (sets o i xs) i (i + length xs) ≡ xs
  part_sets xs o i h =
      let front : length (take i o) ≡ i = length-take-le i o (omega arith) in
      let rest : List A = drop (i + length xs) o in
      let behind : drop i (sets o i xs) ≡ xs ++ rest = ap (drop i) (sets-eq xs o i h ∙ append_assoc (take i o) xs rest) ∙ drop_at (take i o) (xs ++ rest) i front in
      ap (take (i + length xs - i)) behind ∙ take_at xs rest (i + length xs - i) (omega arith)
