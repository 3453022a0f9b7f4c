-- Each public contract leaves one result and one content of lent memory.
use mathlib.Core.Path.{refl, sym, ◌∙◌}
use Rattle.base.proofs.Determined.{Determined}
use Rattle.xxh3.specs.contracts.saffron_xxh3_64 as whole
use Rattle.xxh3.proofs.saffron_xxh3_64.Reads as whole_reads
use Rattle.xxh3.specs.contracts.saffron_xxh3_new as new
use Rattle.xxh3.proofs.saffron_xxh3_new.Reads as new_reads
use Rattle.xxh3.specs.contracts.saffron_xxh3_feed as feed
use Rattle.xxh3.proofs.saffron_xxh3_feed.Reads as feed_reads
use Rattle.xxh3.specs.contracts.saffron_xxh3_asked as asked
use Rattle.xxh3.proofs.saffron_xxh3_asked.Reads as asked_reads

pub saffron_xxh3_64_determined : Determined whole.ended whole_reads.Pre whole_reads.Post
saffron_xxh3_64_determined κs a pre r₁ r₂ w₁ w₂ p q = (p ∙ sym q, refl)

pub saffron_xxh3_new_determined : Determined new.ended new_reads.Pre new_reads.Post
saffron_xxh3_new_determined κs a pre r₁ r₂ w₁ w₂ p q = (p ∙ sym q, refl)

pub saffron_xxh3_feed_determined : Determined feed.ended feed_reads.Pre feed_reads.Post
saffron_xxh3_feed_determined κs a pre r₁ r₂ w₁ w₂ p q =
    (p.0 ∙ sym q.0, λ i. ((p.1.0 ∙ sym q.1.0) i, ((p.1.1 ∙ sym q.1.1) i, ((p.1.2 ∙ sym q.1.2) i, (tt {0}, tt {0})))))

pub saffron_xxh3_asked_determined : Determined asked.ended asked_reads.Pre asked_reads.Post
saffron_xxh3_asked_determined κs a pre r₁ r₂ w₁ w₂ p q = (p ∙ sym q, refl)
