-- The sections as they are written, some of them there or not, and the keys that stand in the output while the fences are.
use Rattle.std.specs.Prelude.{◌≡◌, refl, ℕ, suc, ◌+◌, ◌≤◌, List, [], ◌∷◌, ◌++◌, Bool, true, false, length, take, drop}
use Rattle.std.proofs.Common.{sym, ap, subst, ◌∙◌, arith, add-zero, append_assoc, length-append, length-take-le}
use Rattle.base.specs.Pick.{pick}
use Rattle.base.specs.Put.{Put, Left}
use Rattle.codes.specs.Ids.{id_number}
use Rattle.group.specs.Group.{bytes_of}
use Rattle.group.specs.Written.{Halves}
use Rattle.batch_groups.specs.Groups.{Group, Grouped}
use Rattle.write_image.specs.Image.{keys_in, key_bytes}
use Rattle.write_image.specs.Image.Laws.{length_keys_in}
use Rattle.write_sections.specs.Ids.{ids_at, ids_back}
use Rattle.write_frame.specs.Standing.{stands}

-- x is written at `at` where it is there
module _ (there : Bool) (x : List ℕ) (o : List ℕ) (at : ℕ) where
  pub room_if : there ≡ true → at + length (pick there x []) ≤ length o → at + length x ≤ length o
  room_if e h = let q = ap (λ (t : Bool). length (pick t x [])) e in omega arith

  pub put_if : there ≡ true → (o₁ : List ℕ) (r : ℕ) → Put o o₁ at r x → Put o o₁ at r (pick there x [])
  put_if e o₁ r p = subst (λ (t : Bool). Put o o₁ at r (pick t x [])) (sym e) p

  pub left_out : there ≡ false → Put o o at at (pick there x [])
  left_out e = subst (λ (t : Bool). Put o o at at (pick t x [])) (sym e) (record { place = sym (add-zero at); bytes = refl })

keys_fit : (floor : ℕ) (gs : List Group) → Grouped floor gs → Halves (keys_in gs)
unfolding Grouped Halves keys_in
keys_fit floor [] g = tt
keys_fit floor (x ∷ gs) g = (g.1.0, g.1.1, keys_fit (suc (id_number x.key)) gs g.4)

-- the keys stand at `at` once they are written and more, ms, after them
pub keys_stand : {out : List ℕ} {to : ℕ} {o : List ℕ} {at : ℕ} {whole : List ℕ} (gs : List Group) (ms xs : List ℕ) → Grouped 0 gs → whole ≡ (key_bytes gs ++ ms) ++ xs
    → Left out to xs o at whole → to ≡ at + length (key_bytes gs ++ ms) → at + length whole ≤ length o → (keys : ℕ) → keys ≡ length gs → ids_at keys out at ≡ keys_in gs
keys_stand {out} {to} {o} {at} gs ms xs g e l p h keys k =
    let room : at + length ((key_bytes gs ++ ms) ++ xs) ≤ length o = subst (λ (t : List ℕ). at + length t ≤ length o) e h in
    let stand = stands (key_bytes gs ++ ms) xs (subst (Left out to xs o at) e l) p room in
    let n = length-append (key_bytes gs ++ ms) xs in
    let old : length (take at o) ≡ at = length-take-le at o (omega arith) in
    let split : out ≡ take at o ++ (bytes_of (keys_in gs) ++ (ms ++ drop to out)) =
    stand ∙ ap (λ (t : List ℕ). take at o ++ t) (append_assoc (key_bytes gs) ms (drop to out)) in
    let place : at ≡ length (take at o) = sym old in
    let many : keys ≡ length (keys_in gs) = k ∙ sym (length_keys_in gs) in
    (λ j. ids_at (many j) (split j) (place j))
    ∙ ids_back (keys_in gs) (take at o) (ms ++ drop to out) (keys_fit 0 gs g)
