-- Each public call leaves one result and one content of lent memory.
use mathlib.Core.Path.{refl, sym, ap, ◌∙◌}
use mathlib.Core.List.{List}
use Prim.Native.Nat.{ℕ}
use Rattle.base.proofs.Determined.{Determined}
use Rattle.write_file.specs.contracts.file.put_file as put_file
use Rattle.write_file.proofs.file.put_file.Reads as put_file_reads
use Rattle.write_file.specs.contracts.needed as needed
use Rattle.write_file.proofs.needed.Reads as needed_reads
use Rattle.write_file.specs.contracts.write as write
use Rattle.write_file.proofs.write.Reads as write_reads

pub needed_determined : Determined needed.ended needed_reads.Pre needed_reads.Post
needed_determined κs a pre r₁ r₂ w₁ w₂ p q = (p ∙ sym q, refl)

pub write_determined : Determined write.ended write_reads.Pre write_reads.Post
write_determined κs a pre r₁ r₂ w₁ w₂ p q =
    (p.answer ∙ sym q.answer, ap (λ (l : List ℕ). (tt {0}, (l, tt {0}))) (p.output ∙ sym q.output))

pub put_file_determined : Determined put_file.ended put_file_reads.Pre put_file_reads.Post
put_file_determined κs a pre r₁ r₂ w₁ w₂ p q = (refl, ap (λ (l : List ℕ). (tt {0}, (tt {0}, (tt {0}, (tt {0}, (l, tt {0})))))) (p ∙ sym q))
