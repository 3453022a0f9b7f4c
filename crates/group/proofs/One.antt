-- Each public contract of the crate leaves one result and one content of lent memory.
use mathlib.Core.Path.{refl, sym, ◌∙◌, ap}
use mathlib.Core.List.{List}
use Prim.Native.Nat.{ℕ}
use Rattle.base.proofs.Determined.{Determined}
use Rattle.group.specs.contracts.fault.Flaw.at as flaw_at
use Rattle.group.proofs.fault.Flaw.at.Reads as flaw_at_reads
use Rattle.group.specs.contracts.fault.refusal_of as refusal_of
use Rattle.group.proofs.fault.refusal_of.Reads as refusal_of_reads
use Rattle.group.specs.contracts.head.head_of as head_of
use Rattle.group.proofs.head.head_of.Reads as head_of_reads
use Rattle.group.specs.contracts.split.split_step as split_step
use Rattle.group.proofs.split.split_step.Reads as split_step_reads
use Rattle.group.specs.contracts.split.check_split as check_split
use Rattle.group.proofs.split.check_split.Reads as check_split_reads
use Rattle.group.specs.contracts.split.fill_split as fill_split
use Rattle.group.proofs.split.fill_split.Reads as fill_split_reads
use Rattle.group.specs.contracts.dense.check_dense as check_dense
use Rattle.group.proofs.dense.check_dense.Reads as check_dense_reads
use Rattle.group.specs.contracts.dense.fill_dense as fill_dense
use Rattle.group.proofs.dense.fill_dense.Reads as fill_dense_reads
use Rattle.group.specs.contracts.check_group as check_group
use Rattle.group.proofs.check_group.Reads as check_group_reads
use Rattle.group.specs.contracts.fill_group as fill_group
use Rattle.group.proofs.fill_group.Reads as fill_group_reads

pub flaw_at_determined : Determined flaw_at.ended flaw_at_reads.Pre flaw_at_reads.Post
flaw_at_determined κs a pre r₁ r₂ w₁ w₂ p q = (p ∙ sym q, refl)

pub refusal_of_determined : Determined refusal_of.ended refusal_of_reads.Pre refusal_of_reads.Post
refusal_of_determined κs a pre r₁ r₂ w₁ w₂ p q = (p ∙ sym q, refl)

pub head_of_determined : Determined head_of.ended head_of_reads.Pre head_of_reads.Post
head_of_determined κs a pre r₁ r₂ w₁ w₂ p q = (p ∙ sym q, refl)

pub split_step_determined : Determined split_step.ended split_step_reads.Pre split_step_reads.Post
split_step_determined κs a pre r₁ r₂ w₁ w₂ p q = (p ∙ sym q, refl)

pub check_split_determined : Determined check_split.ended check_split_reads.Pre check_split_reads.Post
check_split_determined κs a pre r₁ r₂ w₁ w₂ p q = (p ∙ sym q, refl)

pub fill_split_determined : Determined fill_split.ended fill_split_reads.Pre fill_split_reads.Post
fill_split_determined κs a pre r₁ r₂ w₁ w₂ p q = (refl, ap (λ (l : List ℕ). (tt {0}, (tt {0}, (tt {0}, (l, tt {0}))))) (p ∙ sym q))

pub check_dense_determined : Determined check_dense.ended check_dense_reads.Pre check_dense_reads.Post
check_dense_determined κs a pre r₁ r₂ w₁ w₂ p q = (p ∙ sym q, refl)

pub fill_dense_determined : Determined fill_dense.ended fill_dense_reads.Pre fill_dense_reads.Post
fill_dense_determined κs a pre r₁ r₂ w₁ w₂ p q = (refl, ap (λ (l : List ℕ). (tt {0}, (tt {0}, (l, tt {0})))) (p ∙ sym q))

pub check_group_determined : Determined check_group.ended check_group_reads.Pre check_group_reads.Post
check_group_determined κs a pre r₁ r₂ w₁ w₂ p q = (p ∙ sym q, refl)

pub fill_group_determined : Determined fill_group.ended fill_group_reads.Pre fill_group_reads.Post
fill_group_determined κs a pre r₁ r₂ w₁ w₂ p q = (refl, ap (λ (l : List ℕ). (tt {0}, (l, tt {0}))) (p ∙ sym q))
