-- `edge_sst_c::section_list::edge_sst_sections` meets its contract.
use Rattle.std.specs.Prelude.{ℕ, Result, length}
use Rattle.std.proofs.Common.{ap, ◌∙◌}
use Rattle.refusal.specs.declared.Refusal.{Refusal}
use Rattle.listing.specs.List.{rows_written}
use Rattle.edge_sst_c.specs.SectionList.{listed_told, numbered}
use Rattle.edge_sst_c.proofs.Laws.SectionList.{written_or, numbers_fit}
use Rattle.edge_sst_c.proofs.section_list.edge_sst_sections.Goals as goal

pub tell_rows-requires : goal.tell_rows-requires
tell_rows-requires c = let a = c.args in rw (c.unwrap_or.ensures ∙ written_or c.plan_for-answer.result) (numbers_fit a.file.now (length a.numbers.now) c.plan_for-answer.ensures)

pub returns : goal.returns
returns c = let a = c.args in
    let e = c.plan_for-answer.ensures in (
      c.listed_told.ensures ∙ ap listed_told e,
      c.tell_rows.ensures
          ∙ ap (λ (n : ℕ). numbered a.file.now n a.numbers.now) (c.unwrap_or.ensures ∙ written_or c.plan_for-answer.result)
          ∙ ap (λ (x : Result ℕ Refusal). numbered a.file.now (rows_written x) a.numbers.now) e,
    )
