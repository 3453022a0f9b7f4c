-- Ids that stand one after the other in bytes.
use Rattle.std.specs.Prelude.{◌≡◌, refl, ℕ, zero, suc, ◌+◌, ◌*◌, ◌≤◌, ◌<◌, List, [], ◌∷◌, ◌++◌, length, get_or}
use Rattle.std.proofs.Common.{sym, ap, ap₂, ◌∙◌, arith, add-zero, append_assoc, length-append}
use Rattle.base.specs.Over.{get_d_sets_below}
use Rattle.base.specs.Put.{Left}
use Rattle.codes.specs.declared.ids.Id.{Id}
use Rattle.codes.specs.Ids.{halves_at, id_bytes}
use Rattle.codes.specs.Ids.Laws.{halves_same, halves_back, length_id_bytes}
use Rattle.group.specs.Group.{bytes_of}
use Rattle.group.specs.Written.{Halves}

-- n ids from place i on
unfoldable pub ids_at : ℕ → List ℕ → ℕ → List Id
ids_at zero s i = []
ids_at (suc n) s i = halves_at s i ∷ ids_at n s (i + 16)

pub length_ids : (n : ℕ) (s : List ℕ) (i : ℕ) → length (ids_at n s i) ≡ n
unfolding ids_at
length_ids zero s i = refl
length_ids (suc n) s i = ap suc (length_ids n s (i + 16))

pub ids_at_lem : (n : ℕ) (s : List ℕ) (i j : ℕ) (d : Id) → j < n → get_or (ids_at n s i) j d ≡ halves_at s (i + 16 * j)
unfolding ids_at
ids_at_lem zero s i j d h = absurd (omega arith)
ids_at_lem (suc n) s i zero d h = ap (halves_at s) (sym (add-zero i))
ids_at_lem (suc n) s i (suc j) d h =
    let e : i + 16 + 16 * j ≡ i + 16 * suc j = omega arith in ids_at_lem n s (i + 16) j d (omega arith) ∙ ap (halves_at s) e

-- ids that were written read back
pub ids_back : (ks : List Id) (q r : List ℕ) → Halves ks → ids_at (length ks) (q ++ (bytes_of ks ++ r)) (length q) ≡ ks
unfolding ids_at bytes_of Halves
ids_back [] q r h = refl
ids_back (k ∷ ks) q r h =
    let s : List ℕ = q ++ ((id_bytes k ++ bytes_of ks) ++ r) in
    let flat : s ≡ q ++ (id_bytes k ++ (bytes_of ks ++ r)) = ap (λ (t : List ℕ). q ++ t) (append_assoc (id_bytes k) (bytes_of ks) r) in
    let next : s ≡ (q ++ id_bytes k) ++ (bytes_of ks ++ r) = flat ∙ sym (append_assoc q (id_bytes k) (bytes_of ks ++ r)) in
    let place : length q + 16 ≡ length (q ++ id_bytes k) = sym (length-append q (id_bytes k) ∙ ap (λ (t : ℕ). length q + t) (length_id_bytes k)) in
    ap₂ (λ (x : Id) (xs : List Id). x ∷ xs)
    (ap (λ (t : List ℕ). halves_at t (length q)) flat ∙ halves_back q (bytes_of ks ++ r) k h.0 h.1)
    (ap₂ (λ (t : List ℕ) (i : ℕ). ids_at (length ks) t i) next place ∙ ids_back ks (q ++ id_bytes k) r h.2)

-- ---- an id below what is written

pub id_below : {out : List ℕ} {to : ℕ} {xs : List ℕ} {o : List ℕ} {at : ℕ} {ys : List ℕ} → Left out to xs o at ys → (i : ℕ) → i + 16 ≤ at → at ≤ to → halves_at out i ≡ halves_at o i
id_below {out} {to} {xs} {o} {at} {ys} l i h g = halves_same out o i i (λ k lt. byte (i + k) (omega arith))
  where
    byte : (j : ℕ) → j < at → get_or out j 0 ≡ get_or o j 0
    byte j lt =
        sym (get_d_sets_below xs out to j 0 (omega arith))
        ∙ ap (λ (t : List ℕ). get_or t j 0) l.whole
        ∙ get_d_sets_below ys o at j 0 lt

pub ids_below : {out : List ℕ} {to : ℕ} {xs : List ℕ} {o : List ℕ} {at : ℕ} {ys : List ℕ} → Left out to xs o at ys → (n i : ℕ) → i + 16 * n ≤ at → at ≤ to → ids_at n out i ≡ ids_at n o i
unfolding ids_at
ids_below l zero i h g = refl
ids_below l (suc n) i h g =
    ap₂ (λ (x : Id) (xs : List Id). x ∷ xs) (id_below l i (omega arith) g) (ids_below l n (i + 16) (omega arith) g)
