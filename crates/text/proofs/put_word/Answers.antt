-- `text::put_word` meets its contract.
use Rattle.std.proofs.Common.{◌≡◌, ℕ, ◌+◌, ◌≤◌, List, length, drop, take, refl, sym, ap, ap₂, ◌∙◌, ◌++◌, arith, drop-drop, append_assoc}
use Rattle.std.proofs.lemmas.List.Edits.{sets, sets-eq}
use borrow.Rule.Slice.PartMut.{put_mid}
use Rattle.text.proofs.put_word.Goals as goal

-- a word that takes a part's place is stored there
placed : (o w ys : List ℕ) (at k : ℕ) → at + length w ≤ length o → k ≡ length w → ys ≡ w → put_mid at k o ys ≡ sets o at w
placed o w ys at k h n e =
    ap₂ (λ (x : List ℕ) (m : ℕ). take at o ++ (x ++ drop m (drop at o))) e n
    ∙ ap (λ (x : List ℕ). take at o ++ (w ++ x)) (drop-drop (length w) at o)
    ∙ sym (append_assoc (take at o) w (drop (at + length w) o))
    ∙ sym (sets-eq w o at h)

pub returns : goal.returns
returns c = record {
  place = refl;
  bytes = placed c.args.out.now c.args.word.now c.copy_from_slice.new.self c.args.at _ c.requires (omega arith) c.copy_from_slice.ensures.after;
}
