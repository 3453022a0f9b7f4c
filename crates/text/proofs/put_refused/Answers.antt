-- `text::put_refused` meets its contract.
use Rattle.std.proofs.Common.{◌≡◌, ℕ, List, ◌++◌, sym, ap₂}
use Rattle.refusal.specs.declared.Refusal.{Refusal}
use Rattle.refusal.specs.Refusal.{number_of, place_of}
use Rattle.text.specs.Text.{decimal, refused_word, at_word, refused_text}
use Rattle.text.specs.Text.Laws.{is, first, next, both}
use Rattle.text.proofs.put_refused.Goals as goal

-- the text by the number and the place that are told
abbrev front : ℕ → List ℕ
front n = refused_word ++ decimal n

abbrev back : ℕ → List ℕ
back p = at_word ++ decimal p

text : (r : Refusal) (n p : ℕ) → n ≡ number_of r → p ≡ place_of r → refused_text r ≡ front n ++ back p
unfolding refused_text
text r n p e f = ap₂ (λ (n p : ℕ). front n ++ back p) (sym e) (sym f)

pub put_labelled-mid-requires : goal.put_labelled-mid-requires
put_labelled-mid-requires c =
    let t = c.told_of-t.result in
    let e = text c.args.refusal t.number t.place c.told_of-t.ensures.0 c.told_of-t.ensures.1 in
    first (front t.number) (back t.place) c.args.out.now c.args.at (rw e at c.requires)

pub put_labelled-requires : goal.put_labelled-requires
put_labelled-requires c =
    let t = c.told_of-t.result in
    let e = text c.args.refusal t.number t.place c.told_of-t.ensures.0 c.told_of-t.ensures.1 in
    next (back t.place) c.put_labelled-mid.ensures (rw e at c.requires)

pub returns : goal.returns
returns c =
    let t = c.told_of-t.result in
    let e = text c.args.refusal t.number t.place c.told_of-t.ensures.0 c.told_of-t.ensures.1 in
    is (sym e) (both c.put_labelled-mid.ensures c.put_labelled.ensures)
