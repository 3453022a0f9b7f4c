-- Each public contract of the crate leaves one result and one content of lent memory. What the `ensures` of `list_sections`
-- and `table_of` says is written out here, and `list_sections_says` and `table_of_says` show by computation that it is the
-- same.
use mathlib.Core.Path.{◌≡◌, refl, sym, ◌∙◌, ap}
use mathlib.Core.List.{List}
use lib.ListN.{length}
use seplogic.Ra.Ura.{Ura}
use base.Logic.{SProp}
use prog.Memory.{Memory}
use prog.Routine.{Routine}
use types.Logic.{Logic}
use contract.Lifetimes.{Lfts}
use contract.Monad.{Fun, fact}
use contract.Notation.{connectives}
use denote.Triple.Entry.{Args, Res}
use denote.Triple.Clauses.{AtExit}
use Rattle.base.proofs.Determined.{Determined}
use Rattle.frame.specs.declared.Row.{Row}
use Rattle.listing.specs.List.{rows_written, listed_of, listed}
use Rattle.listing.specs.contracts.plan_for as plan_for
use Rattle.listing.proofs.plan_for.Reads as plan_for_reads
use Rattle.listing.specs.contracts.row_of as row_of
use Rattle.listing.proofs.row_of.Reads as row_of_reads
use Rattle.listing.specs.contracts.list_sections as list_sections
use Rattle.listing.specs.contracts.table_of as table_of

pub plan_for_determined : Determined plan_for.ended plan_for_reads.Pre plan_for_reads.Post
plan_for_determined κs a pre r₁ r₂ w₁ w₂ p q = (p ∙ sym q, refl)

pub row_of_determined : Determined row_of.ended row_of_reads.Pre row_of_reads.Post
row_of_determined κs a pre r₁ r₂ w₁ w₂ p q = (p ∙ sym q, refl)

-- ---- list_sections

abbrev pub ListedPost : (κs : Lfts 2) → Args list_sections.signature κs → Res list_sections.signature κs → AtExit list_sections.ended κs → Type 0
ListedPost κs a r e =
    (r ≡ listed_of a.0.now (length a.1.0.now))
    × (e.1.0.now ≡ listed a.0.now (rows_written (listed_of a.0.now (length a.1.0.now))) a.1.0.now)

pub list_sections_determined : Determined list_sections.ended (λ κs a. Unit {0}) ListedPost
list_sections_determined κs a pre r₁ r₂ w₁ w₂ p q =
    (p.0 ∙ sym q.0, ap (λ (l : List Row). (tt {0}, (l, tt {0}))) (p.1 ∙ sym q.1))

-- ---- table_of

abbrev pub TablePost : (κs : Lfts 1) → Args table_of.signature κs → Res table_of.signature κs → AtExit table_of.ended κs → Type 0
TablePost κs a r e = r ≡ listed a.0.now (rows_written (listed_of a.0.now (length a.1.0))) a.1.0

pub table_of_determined : Determined table_of.ended (λ κs a. Unit {0}) TablePost
table_of_determined κs a pre r₁ r₂ w₁ w₂ p q = (p ∙ sym q, refl)

-- nothing is required, and the `ensures` are these facts
module _ {M : Type 1} {𝓤 : Ura M} (𝓛 : Logic 𝓤) (mem : Memory → SProp 𝓤) (run : Routine → Fun 𝓤) where
  pub list_sections_asks : (κs : Lfts 2) (a : Args list_sections.signature κs) → (list_sections.clauses 𝓛 mem run κs a).requires tt ≡ (connectives 𝓤).⊤ₛ
  list_sections_asks κs a = refl

  pub list_sections_says : (κs : Lfts 2) (a : Args list_sections.signature κs) (r : Res list_sections.signature κs) (e : AtExit list_sections.ended κs)
      → (list_sections.clauses 𝓛 mem run κs a).ensures tt r e ≡ fact 𝓤 (ListedPost κs a r e)
  list_sections_says κs a r e = refl

  pub table_of_asks : (κs : Lfts 1) (a : Args table_of.signature κs) → (table_of.clauses 𝓛 mem run κs a).requires tt ≡ (connectives 𝓤).⊤ₛ
  table_of_asks κs a = refl

  pub table_of_says : (κs : Lfts 1) (a : Args table_of.signature κs) (r : Res table_of.signature κs) (e : AtExit table_of.ended κs)
      → (table_of.clauses 𝓛 mem run κs a).ensures tt r e ≡ fact 𝓤 (TablePost κs a r e)
  table_of_says κs a r e = refl
