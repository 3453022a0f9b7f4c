-- Each exported contract leaves one result and one content of lent memory.
use mathlib.Core.Path.{refl, sym, ap, ◌∙◌}
use mathlib.Core.List.{List}
use Prim.Native.Nat.{ℕ}
use Rattle.base.proofs.Determined.{Determined}
use Rattle.edge_sst_c.specs.contracts.header.edge_sst_header as c_header
use Rattle.edge_sst_c.proofs.header.edge_sst_header.Reads as c_header_reads
use Rattle.edge_sst_c.specs.contracts.look.edge_sst_partners as c_partners
use Rattle.edge_sst_c.proofs.look.edge_sst_partners.Reads as c_partners_reads
use Rattle.edge_sst_c.specs.contracts.look.edge_sst_lookup as c_lookup
use Rattle.edge_sst_c.proofs.look.edge_sst_lookup.Reads as c_lookup_reads
use Rattle.edge_sst_c.specs.contracts.look.edge_sst_lookup_with as c_lookup_with
use Rattle.edge_sst_c.proofs.look.edge_sst_lookup_with.Reads as c_lookup_with_reads
use Rattle.edge_sst_c.specs.contracts.write.edge_sst_needed as c_needed
use Rattle.edge_sst_c.proofs.write.edge_sst_needed.Reads as c_needed_reads
use Rattle.edge_sst_c.specs.contracts.write.edge_sst_write as c_write
use Rattle.edge_sst_c.proofs.write.edge_sst_write.Reads as c_write_reads
use Rattle.edge_sst_c.specs.contracts.write.edge_sst_sum as c_sum
use Rattle.edge_sst_c.proofs.write.edge_sst_sum.Reads as c_sum_reads
use Rattle.edge_sst_c.specs.contracts.section_list.edge_sst_sections as c_sections
use Rattle.edge_sst_c.proofs.section_list.edge_sst_sections.Reads as c_sections_reads
use Rattle.edge_sst_c.specs.contracts.desk.edge_sst_check as check
use Rattle.edge_sst_c.proofs.desk.edge_sst_check.Reads as check_reads
use Rattle.edge_sst_c.specs.contracts.desk.edge_sst_read_out as read_out
use Rattle.edge_sst_c.proofs.desk.edge_sst_read_out.Reads as read_out_reads
use Rattle.edge_sst_c.specs.contracts.figures.edge_sst_summary as edge_sst_summary
use Rattle.edge_sst_c.proofs.figures.edge_sst_summary.Reads as edge_sst_summary_reads
use Rattle.edge_sst_c.specs.contracts.header.id_told as id_told
use Rattle.edge_sst_c.proofs.header.id_told.Reads as id_told_reads
use Rattle.edge_sst_c.specs.contracts.edge_sst_open as edge_sst_open
use Rattle.edge_sst_c.proofs.edge_sst_open.Reads as edge_sst_open_reads
use Rattle.edge_sst_c.specs.contracts.look.edge_sst_partners_with as partners_with
use Rattle.edge_sst_c.proofs.look.edge_sst_partners_with.Reads as partners_with_reads
use Rattle.edge_sst_c.specs.contracts.desk.check_told as check_told
use Rattle.edge_sst_c.proofs.desk.check_told.Reads as check_told_reads
use Rattle.edge_sst_c.specs.contracts.desk.done_told as done_told
use Rattle.edge_sst_c.proofs.desk.done_told.Reads as done_told_reads
use Rattle.edge_sst_c.specs.contracts.running.edge_sst_running_new as running_new
use Rattle.edge_sst_c.proofs.running.edge_sst_running_new.Reads as running_new_reads
use Rattle.edge_sst_c.specs.contracts.running.edge_sst_running_feed as running_feed
use Rattle.edge_sst_c.proofs.running.edge_sst_running_feed.Reads as running_feed_reads
use Rattle.edge_sst_c.specs.contracts.running.edge_sst_running_asked as running_asked
use Rattle.edge_sst_c.proofs.running.edge_sst_running_asked.Reads as running_asked_reads

pub edge_sst_open_determined : Determined edge_sst_open.ended edge_sst_open_reads.Pre edge_sst_open_reads.Post
edge_sst_open_determined κs a pre r₁ r₂ w₁ w₂ p q = (p ∙ sym q, refl)

pub edge_sst_header_determined : Determined c_header.ended c_header_reads.Pre c_header_reads.Post
edge_sst_header_determined κs a pre r₁ r₂ w₁ w₂ p q = (p ∙ sym q, refl)

pub edge_sst_partners_with_determined : Determined partners_with.ended partners_with_reads.Pre partners_with_reads.Post
edge_sst_partners_with_determined κs a pre r₁ r₂ w₁ w₂ p q =
    (p.answer ∙ sym q.answer, ap (λ (l : List ℕ). (tt {0}, (tt {0}, (tt {0}, (l, tt {0}))))) (p.partners ∙ sym q.partners))

pub edge_sst_check_determined : Determined check.ended check_reads.Pre check_reads.Post
edge_sst_check_determined κs a pre r₁ r₂ w₁ w₂ p q = (p ∙ sym q, refl)

pub edge_sst_read_out_determined : Determined read_out.ended read_out_reads.Pre read_out_reads.Post
edge_sst_read_out_determined κs a pre r₁ r₂ w₁ w₂ p q = (p.0 ∙ sym q.0, ap (λ (l : List ℕ). (tt {0}, (l, tt {0}))) (p.1 ∙ sym q.1))

pub edge_sst_summary_determined : Determined edge_sst_summary.ended edge_sst_summary_reads.Pre edge_sst_summary_reads.Post
edge_sst_summary_determined κs a pre r₁ r₂ w₁ w₂ p q = (p ∙ sym q, refl)

pub id_told_determined : Determined id_told.ended id_told_reads.Pre id_told_reads.Post
id_told_determined κs a pre r₁ r₂ w₁ w₂ p q = (p ∙ sym q, refl)

pub edge_sst_partners_determined : Determined c_partners.ended c_partners_reads.Pre c_partners_reads.Post
edge_sst_partners_determined κs a pre r₁ r₂ w₁ w₂ p q = (p.answer ∙ sym q.answer, ap (λ (l : List ℕ). (tt {0}, (tt {0}, (l, tt {0})))) (p.partners ∙ sym q.partners))

pub edge_sst_lookup_determined : Determined c_lookup.ended c_lookup_reads.Pre c_lookup_reads.Post
edge_sst_lookup_determined κs a pre r₁ r₂ w₁ w₂ p q = (p.answer ∙ sym q.answer, (λ i. (tt {0}, (tt {0}, ((p.partners ∙ sym q.partners) i, ((p.numbers ∙ sym q.numbers) i, ((p.dead ∙ sym q.dead) i, tt {0})))))))

pub edge_sst_lookup_with_determined : Determined c_lookup_with.ended c_lookup_with_reads.Pre c_lookup_with_reads.Post
edge_sst_lookup_with_determined κs a pre r₁ r₂ w₁ w₂ p q = (p.answer ∙ sym q.answer, (λ i. (tt {0}, (tt {0}, (tt {0}, ((p.partners ∙ sym q.partners) i, ((p.numbers ∙ sym q.numbers) i, ((p.dead ∙ sym q.dead) i, tt {0}))))))))

pub edge_sst_needed_determined : Determined c_needed.ended c_needed_reads.Pre c_needed_reads.Post
edge_sst_needed_determined κs a pre r₁ r₂ w₁ w₂ p q = (p ∙ sym q, refl)

pub edge_sst_write_determined : Determined c_write.ended c_write_reads.Pre c_write_reads.Post
edge_sst_write_determined κs a pre r₁ r₂ w₁ w₂ p q = (p.answer ∙ sym q.answer, ap (λ (l : List ℕ). (tt {0}, (l, tt {0}))) (p.output ∙ sym q.output))

pub edge_sst_sum_determined : Determined c_sum.ended c_sum_reads.Pre c_sum_reads.Post
edge_sst_sum_determined κs a pre r₁ r₂ w₁ w₂ p q = (p ∙ sym q, refl)

pub edge_sst_sections_determined : Determined c_sections.ended c_sections_reads.Pre c_sections_reads.Post
edge_sst_sections_determined κs a pre r₁ r₂ w₁ w₂ p q = (p.0 ∙ sym q.0, ap (λ (l : List ℕ). (tt {0}, (l, tt {0}))) (p.1 ∙ sym q.1))

pub check_told_determined : Determined check_told.ended check_told_reads.Pre check_told_reads.Post
check_told_determined κs a pre r₁ r₂ w₁ w₂ p q = (p ∙ sym q, refl)

pub done_told_determined : Determined done_told.ended done_told_reads.Pre done_told_reads.Post
done_told_determined κs a pre r₁ r₂ w₁ w₂ p q = (p ∙ sym q, refl)

pub edge_sst_running_new_determined : Determined running_new.ended running_new_reads.Pre running_new_reads.Post
edge_sst_running_new_determined κs a pre r₁ r₂ w₁ w₂ p q = (p ∙ sym q, refl)

pub edge_sst_running_feed_determined : Determined running_feed.ended running_feed_reads.Pre running_feed_reads.Post
edge_sst_running_feed_determined κs a pre r₁ r₂ w₁ w₂ p q =
    (p.0 ∙ sym q.0, λ i. ((p.1.0 ∙ sym q.1.0) i, ((p.1.1 ∙ sym q.1.1) i, ((p.1.2 ∙ sym q.1.2) i, (tt {0}, tt {0})))))

pub edge_sst_running_asked_determined : Determined running_asked.ended running_asked_reads.Pre running_asked_reads.Post
edge_sst_running_asked_determined κs a pre r₁ r₂ w₁ w₂ p q = (p ∙ sym q, refl)
