-- Each contract of the crate leaves one result and one content of lent memory.
use mathlib.Core.Path.{refl, sym, ap, ◌∙◌}
use mathlib.Core.List.{List}
use Prim.Native.Nat.{ℕ}
use Rattle.base.proofs.Determined.{Determined}
use Rattle.write_frame.specs.contracts.put_header as put_header
use Rattle.write_frame.proofs.put_header.Reads as put_header_reads
use Rattle.write_frame.specs.contracts.put_entry as put_entry
use Rattle.write_frame.proofs.put_entry.Reads as put_entry_reads
use Rattle.write_frame.specs.contracts.put_counts as put_counts
use Rattle.write_frame.proofs.put_counts.Reads as put_counts_reads
use Rattle.write_frame.specs.contracts.put_trailer as put_trailer
use Rattle.write_frame.proofs.put_trailer.Reads as put_trailer_reads

pub put_header_determined : Determined put_header.ended put_header_reads.Pre put_header_reads.Post
put_header_determined κs a pre r₁ r₂ w₁ w₂ p q =
    (refl, ap (λ (l : List ℕ). (l, (tt {0}, (tt {0}, (tt {0}, tt {0}))))) (p ∙ sym q))

pub put_entry_determined : Determined put_entry.ended put_entry_reads.Pre put_entry_reads.Post
put_entry_determined κs a pre r₁ r₂ w₁ w₂ p q =
    (p.place ∙ sym q.place, ap (λ (l : List ℕ). (l, (tt {0}, (tt {0}, tt {0})))) (p.bytes ∙ sym q.bytes))

pub put_counts_determined : Determined put_counts.ended put_counts_reads.Pre put_counts_reads.Post
put_counts_determined κs a pre r₁ r₂ w₁ w₂ p q =
    (p.place ∙ sym q.place, ap (λ (l : List ℕ). (l, (tt {0}, (tt {0}, (tt {0}, (tt {0}, tt {0})))))) (p.bytes ∙ sym q.bytes))

pub put_trailer_determined : Determined put_trailer.ended put_trailer_reads.Pre put_trailer_reads.Post
put_trailer_determined κs a pre r₁ r₂ w₁ w₂ p q =
    (p.place ∙ sym q.place, ap (λ (l : List ℕ). (l, (tt {0}, (tt {0}, tt {0})))) (p.bytes ∙ sym q.bytes))
