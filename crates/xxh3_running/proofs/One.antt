-- Each public contract of the crate leaves one result and one content of lent memory. What the `ensures` of `update` says is written
-- out here, and `update_says` shows by computation that it is the same.
use mathlib.Core.Path.{◌≡◌, refl, sym, ◌∙◌, ap}
use seplogic.Ra.Ura.{Ura}
use base.Logic.{SProp}
use prog.Memory.{Memory}
use prog.Routine.{Routine}
use types.Logic.{Logic}
use contract.Lifetimes.{Lfts}
use contract.Monad.{Fun, fact}
use contract.Notation.{connectives}
use denote.Triple.Entry.{Args, Res}
use denote.Triple.Clauses.{AtExit}
use Rattle.base.proofs.Determined.{Determined}
use Rattle.xxh3_running.specs.declared.State.{State}
use Rattle.xxh3_running.specs.Running.{feed_of}
use Rattle.xxh3_running.specs.contracts.new as new
use Rattle.xxh3_running.proofs.new.Reads as new_reads
use Rattle.xxh3_running.specs.contracts.feed as feed
use Rattle.xxh3_running.proofs.feed.Reads as feed_reads
use Rattle.xxh3_running.specs.contracts.sum as sum
use Rattle.xxh3_running.proofs.sum.Reads as sum_reads
use Rattle.xxh3_running.specs.contracts.lent.feed_lent as feed_lent
use Rattle.xxh3_running.proofs.lent.feed_lent.Reads as feed_lent_reads
use Rattle.xxh3_running.specs.contracts.lent.sum_lent as sum_lent
use Rattle.xxh3_running.proofs.lent.sum_lent.Reads as sum_lent_reads
use Rattle.xxh3_running.specs.contracts.update as update

pub new_determined : Determined new.ended new_reads.Pre new_reads.Post
new_determined κs a pre r₁ r₂ w₁ w₂ p q = (p ∙ sym q, refl)

pub feed_determined : Determined feed.ended feed_reads.Pre feed_reads.Post
feed_determined κs a pre r₁ r₂ w₁ w₂ p q = (p ∙ sym q, refl)

pub sum_determined : Determined sum.ended sum_reads.Pre sum_reads.Post
sum_determined κs a pre r₁ r₂ w₁ w₂ p q = (p ∙ sym q, refl)

pub feed_lent_determined : Determined feed_lent.ended feed_lent_reads.Pre feed_lent_reads.Post
feed_lent_determined κs a pre r₁ r₂ w₁ w₂ p q =
    (p.0 ∙ sym q.0, λ i. ((p.1.0 ∙ sym q.1.0) i, ((p.1.1 ∙ sym q.1.1) i, ((p.1.2 ∙ sym q.1.2) i, (tt {0}, tt {0})))))

pub sum_lent_determined : Determined sum_lent.ended sum_lent_reads.Pre sum_lent_reads.Post
sum_lent_determined κs a pre r₁ r₂ w₁ w₂ p q = (p ∙ sym q, refl)

-- ---- update

abbrev pub UpdatePost : (κs : Lfts 2) → Args update.signature κs → Res update.signature κs → AtExit update.ended κs → Type 0
UpdatePost κs a r e = (r ≡ (feed_of a.0.now a.1.0.now).told) × (e.0.now ≡ (feed_of a.0.now a.1.0.now).state)

pub update_determined : Determined update.ended (λ κs a. Unit {0}) UpdatePost
update_determined κs a pre r₁ r₂ w₁ w₂ p q = (p.0 ∙ sym q.0, ap (λ (st : State). (st, (tt {0}, tt {0}))) (p.1 ∙ sym q.1))

-- nothing is required, and the `ensures` is this fact
module _ {M : Type 1} {𝓤 : Ura M} (𝓛 : Logic 𝓤) (mem : Memory → SProp 𝓤) (run : Routine → Fun 𝓤) where
  pub update_asks : (κs : Lfts 2) (a : Args update.signature κs) → (update.clauses 𝓛 mem run κs a).requires tt ≡ (connectives 𝓤).⊤ₛ
  update_asks κs a = refl

  pub update_says : (κs : Lfts 2) (a : Args update.signature κs) (r : Res update.signature κs) (e : AtExit update.ended κs)
      → (update.clauses 𝓛 mem run κs a).ensures tt r e ≡ fact 𝓤 (UpdatePost κs a r e)
  update_says κs a r e = refl
