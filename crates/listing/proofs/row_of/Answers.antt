-- `row_of` meets its contract.
use mathlib.Core.Path.{◌≡◌, refl, ap, ◌∙◌}
use Rattle.std.specs.Prelude.{Option, Some, None, unwrap_or}
use Rattle.frame.specs.declared.Row.{Row}
use Rattle.listing.specs.List.{no_row, row_of_section, row_is}
use Rattle.listing.proofs.row_of.Goals as goal

row_or_none : (s : Option Row) → unwrap_or s no_row ≡ row_of_section s
unfolding row_of_section
row_or_none (Some r) = refl
row_or_none None = refl

pub returns : goal.returns
unfolding row_is
returns c =
    c.unwrap_or.ensures ∙ ap (unwrap_or c.section_at.result) c.raw.ensures
    ∙ ap (λ (s : Option Row). unwrap_or s no_row) c.section_at.ensures
    ∙ row_or_none _
