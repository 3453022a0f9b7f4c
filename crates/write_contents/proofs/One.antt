-- Each contract of the crate leaves one result and one content of lent memory.
use mathlib.Core.Path.{sym, ap, ◌∙◌}
use mathlib.Core.List.{List}
use Prim.Native.Nat.{ℕ}
use Rattle.base.proofs.Determined.{Determined}
use Rattle.write_contents.specs.contracts.footer.put_body as put_body
use Rattle.write_contents.proofs.footer.put_body.Reads as put_body_reads
use Rattle.write_contents.specs.contracts.payload.put_payload as put_payload
use Rattle.write_contents.proofs.payload.put_payload.Reads as put_payload_reads

pub put_body_determined : Determined put_body.ended put_body_reads.Pre put_body_reads.Post
put_body_determined κs a pre r₁ r₂ w₁ w₂ p q =
    (p.place ∙ sym q.place, ap (λ (l : List ℕ). (l, (tt {0}, (tt {0}, tt {0})))) (p.bytes ∙ sym q.bytes))

pub put_payload_determined : Determined put_payload.ended put_payload_reads.Pre put_payload_reads.Post
put_payload_determined κs a pre r₁ r₂ w₁ w₂ p q =
    (p.place ∙ sym q.place, ap (λ (l : List ℕ). (tt {0}, (tt {0}, (l, (tt {0}, tt {0}))))) (p.bytes ∙ sym q.bytes))
