-- Each public contract of the crate leaves one result.
use mathlib.Core.Path.{refl, sym, ◌∙◌}
use Rattle.base.proofs.Determined.{Determined}
use Rattle.refusal.specs.contracts.told_of as told_of
use Rattle.refusal.proofs.told_of.Reads as told_of_reads

pub told_of_determined : Determined told_of.ended told_of_reads.Pre told_of_reads.Post
told_of_determined κs a pre r₁ r₂ w₁ w₂ p q = ((λ i. record { number = (p.0 ∙ sym q.0) i; place = (p.1 ∙ sym q.1) i; beside = (p.2 ∙ sym q.2) i }), refl)
