-- Each contract of the crate leaves one result and one content of lent memory.
use mathlib.Core.Path.{sym, ap, ◌∙◌}
use mathlib.Core.List.{List}
use Prim.Native.Nat.{ℕ}
use Rattle.base.proofs.Determined.{Determined}
use Rattle.text.specs.contracts.put_word as put_word
use Rattle.text.proofs.put_word.Reads as put_word_reads
use Rattle.text.specs.contracts.put_decimal as put_decimal
use Rattle.text.proofs.put_decimal.Reads as put_decimal_reads
use Rattle.text.specs.contracts.put_hex as put_hex
use Rattle.text.proofs.put_hex.Reads as put_hex_reads
use Rattle.text.specs.contracts.put_labelled as put_labelled
use Rattle.text.proofs.put_labelled.Reads as put_labelled_reads
use Rattle.text.specs.contracts.put_refused as put_refused
use Rattle.text.proofs.put_refused.Reads as put_refused_reads

pub put_word_determined : Determined put_word.ended put_word_reads.Pre put_word_reads.Post
put_word_determined κs a pre r₁ r₂ w₁ w₂ p q =
    (p.place ∙ sym q.place, ap (λ (l : List ℕ). (l, (tt {0}, (tt {0}, tt {0})))) (p.bytes ∙ sym q.bytes))

pub put_decimal_determined : Determined put_decimal.ended put_decimal_reads.Pre put_decimal_reads.Post
put_decimal_determined κs a pre r₁ r₂ w₁ w₂ p q =
    (p.place ∙ sym q.place, ap (λ (l : List ℕ). (l, (tt {0}, (tt {0}, tt {0})))) (p.bytes ∙ sym q.bytes))

pub put_hex_determined : Determined put_hex.ended put_hex_reads.Pre put_hex_reads.Post
put_hex_determined κs a pre r₁ r₂ w₁ w₂ p q =
    (p.place ∙ sym q.place, ap (λ (l : List ℕ). (l, (tt {0}, (tt {0}, tt {0})))) (p.bytes ∙ sym q.bytes))

pub put_labelled_determined : Determined put_labelled.ended put_labelled_reads.Pre put_labelled_reads.Post
put_labelled_determined κs a pre r₁ r₂ w₁ w₂ p q =
    (p.place ∙ sym q.place, ap (λ (l : List ℕ). (l, (tt {0}, (tt {0}, (tt {0}, tt {0}))))) (p.bytes ∙ sym q.bytes))

pub put_refused_determined : Determined put_refused.ended put_refused_reads.Pre put_refused_reads.Post
put_refused_determined κs a pre r₁ r₂ w₁ w₂ p q =
    (p.place ∙ sym q.place, ap (λ (l : List ℕ). (l, (tt {0}, (tt {0}, tt {0})))) (p.bytes ∙ sym q.bytes))
