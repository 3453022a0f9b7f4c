-- Each export stands for the function of its name in the library edge_sst_c: so what is proved of the calls for C holds of what C links.
use Rattle.base.proofs.StandsFor.{StandsFor}
use Rattle.edge_sst_exports.specs.contracts.edge_sst_open as edge_sst_open
use Rattle.edge_sst_exports.proofs.edge_sst_open.Reads as edge_sst_open_reads
use Rattle.edge_sst_c.proofs.edge_sst_open.Reads as edge_sst_open_of
use Rattle.edge_sst_exports.specs.contracts.edge_sst_header as edge_sst_header
use Rattle.edge_sst_exports.proofs.edge_sst_header.Reads as edge_sst_header_reads
use Rattle.edge_sst_c.proofs.header.edge_sst_header.Reads as edge_sst_header_of
use Rattle.edge_sst_exports.specs.contracts.edge_sst_sections as edge_sst_sections
use Rattle.edge_sst_exports.proofs.edge_sst_sections.Reads as edge_sst_sections_reads
use Rattle.edge_sst_c.proofs.section_list.edge_sst_sections.Reads as edge_sst_sections_of
use Rattle.edge_sst_exports.specs.contracts.edge_sst_partners_with as edge_sst_partners_with
use Rattle.edge_sst_exports.proofs.edge_sst_partners_with.Reads as edge_sst_partners_with_reads
use Rattle.edge_sst_c.proofs.look.edge_sst_partners_with.Reads as edge_sst_partners_with_of
use Rattle.edge_sst_exports.specs.contracts.edge_sst_partners as edge_sst_partners
use Rattle.edge_sst_exports.proofs.edge_sst_partners.Reads as edge_sst_partners_reads
use Rattle.edge_sst_c.proofs.look.edge_sst_partners.Reads as edge_sst_partners_of
use Rattle.edge_sst_exports.specs.contracts.edge_sst_lookup_with as edge_sst_lookup_with
use Rattle.edge_sst_exports.proofs.edge_sst_lookup_with.Reads as edge_sst_lookup_with_reads
use Rattle.edge_sst_c.proofs.look.edge_sst_lookup_with.Reads as edge_sst_lookup_with_of
use Rattle.edge_sst_exports.specs.contracts.edge_sst_lookup as edge_sst_lookup
use Rattle.edge_sst_exports.proofs.edge_sst_lookup.Reads as edge_sst_lookup_reads
use Rattle.edge_sst_c.proofs.look.edge_sst_lookup.Reads as edge_sst_lookup_of
use Rattle.edge_sst_exports.specs.contracts.edge_sst_check as edge_sst_check
use Rattle.edge_sst_exports.proofs.edge_sst_check.Reads as edge_sst_check_reads
use Rattle.edge_sst_c.proofs.desk.edge_sst_check.Reads as edge_sst_check_of
use Rattle.edge_sst_exports.specs.contracts.edge_sst_read_out as edge_sst_read_out
use Rattle.edge_sst_exports.proofs.edge_sst_read_out.Reads as edge_sst_read_out_reads
use Rattle.edge_sst_c.proofs.desk.edge_sst_read_out.Reads as edge_sst_read_out_of
use Rattle.edge_sst_exports.specs.contracts.edge_sst_summary as edge_sst_summary
use Rattle.edge_sst_exports.proofs.edge_sst_summary.Reads as edge_sst_summary_reads
use Rattle.edge_sst_c.proofs.figures.edge_sst_summary.Reads as edge_sst_summary_of
use Rattle.edge_sst_exports.specs.contracts.edge_sst_needed as edge_sst_needed
use Rattle.edge_sst_exports.proofs.edge_sst_needed.Reads as edge_sst_needed_reads
use Rattle.edge_sst_c.proofs.write.edge_sst_needed.Reads as edge_sst_needed_of
use Rattle.edge_sst_exports.specs.contracts.edge_sst_write as edge_sst_write
use Rattle.edge_sst_exports.proofs.edge_sst_write.Reads as edge_sst_write_reads
use Rattle.edge_sst_c.proofs.write.edge_sst_write.Reads as edge_sst_write_of
use Rattle.edge_sst_exports.specs.contracts.edge_sst_sum as edge_sst_sum
use Rattle.edge_sst_exports.proofs.edge_sst_sum.Reads as edge_sst_sum_reads
use Rattle.edge_sst_c.proofs.write.edge_sst_sum.Reads as edge_sst_sum_of
use Rattle.edge_sst_exports.specs.contracts.edge_sst_running_new as edge_sst_running_new
use Rattle.edge_sst_exports.proofs.edge_sst_running_new.Reads as edge_sst_running_new_reads
use Rattle.edge_sst_c.proofs.running.edge_sst_running_new.Reads as edge_sst_running_new_of
use Rattle.edge_sst_exports.specs.contracts.edge_sst_running_feed as edge_sst_running_feed
use Rattle.edge_sst_exports.proofs.edge_sst_running_feed.Reads as edge_sst_running_feed_reads
use Rattle.edge_sst_c.proofs.running.edge_sst_running_feed.Reads as edge_sst_running_feed_of
use Rattle.edge_sst_exports.specs.contracts.edge_sst_running_asked as edge_sst_running_asked
use Rattle.edge_sst_exports.proofs.edge_sst_running_asked.Reads as edge_sst_running_asked_reads
use Rattle.edge_sst_c.proofs.running.edge_sst_running_asked.Reads as edge_sst_running_asked_of

pub edge_sst_open_stands : StandsFor edge_sst_open.ended edge_sst_open_reads.Pre edge_sst_open_reads.Post edge_sst_open_of.Post
edge_sst_open_stands κs a = (tt, λ r e p. p)

pub edge_sst_header_stands : StandsFor edge_sst_header.ended edge_sst_header_reads.Pre edge_sst_header_reads.Post edge_sst_header_of.Post
edge_sst_header_stands κs a = (tt, λ r e p. p)

pub edge_sst_sections_stands : StandsFor edge_sst_sections.ended edge_sst_sections_reads.Pre edge_sst_sections_reads.Post edge_sst_sections_of.Post
edge_sst_sections_stands κs a = (tt, λ r e p. p)

pub edge_sst_partners_with_stands : StandsFor edge_sst_partners_with.ended edge_sst_partners_with_reads.Pre edge_sst_partners_with_reads.Post edge_sst_partners_with_of.Post
edge_sst_partners_with_stands κs a = (tt, λ r e p. p)

pub edge_sst_partners_stands : StandsFor edge_sst_partners.ended edge_sst_partners_reads.Pre edge_sst_partners_reads.Post edge_sst_partners_of.Post
edge_sst_partners_stands κs a = (tt, λ r e p. p)

pub edge_sst_lookup_with_stands : StandsFor edge_sst_lookup_with.ended edge_sst_lookup_with_reads.Pre edge_sst_lookup_with_reads.Post edge_sst_lookup_with_of.Post
edge_sst_lookup_with_stands κs a = (tt, λ r e p. p)

pub edge_sst_lookup_stands : StandsFor edge_sst_lookup.ended edge_sst_lookup_reads.Pre edge_sst_lookup_reads.Post edge_sst_lookup_of.Post
edge_sst_lookup_stands κs a = (tt, λ r e p. p)

pub edge_sst_check_stands : StandsFor edge_sst_check.ended edge_sst_check_reads.Pre edge_sst_check_reads.Post edge_sst_check_of.Post
edge_sst_check_stands κs a = (tt, λ r e p. p)

pub edge_sst_read_out_stands : StandsFor edge_sst_read_out.ended edge_sst_read_out_reads.Pre edge_sst_read_out_reads.Post edge_sst_read_out_of.Post
edge_sst_read_out_stands κs a = (tt, λ r e p. p)

pub edge_sst_summary_stands : StandsFor edge_sst_summary.ended edge_sst_summary_reads.Pre edge_sst_summary_reads.Post edge_sst_summary_of.Post
edge_sst_summary_stands κs a = (tt, λ r e p. p)

pub edge_sst_needed_stands : StandsFor edge_sst_needed.ended edge_sst_needed_reads.Pre edge_sst_needed_reads.Post edge_sst_needed_of.Post
edge_sst_needed_stands κs a = (tt, λ r e p. p)

pub edge_sst_write_stands : StandsFor edge_sst_write.ended edge_sst_write_reads.Pre edge_sst_write_reads.Post edge_sst_write_of.Post
edge_sst_write_stands κs a = (tt, λ r e p. p)

pub edge_sst_sum_stands : StandsFor edge_sst_sum.ended edge_sst_sum_reads.Pre edge_sst_sum_reads.Post edge_sst_sum_of.Post
edge_sst_sum_stands κs a = (tt, λ r e p. p)

pub edge_sst_running_new_stands : StandsFor edge_sst_running_new.ended edge_sst_running_new_reads.Pre edge_sst_running_new_reads.Post edge_sst_running_new_of.Post
edge_sst_running_new_stands κs a = (tt, λ r e p. p)

pub edge_sst_running_feed_stands : StandsFor edge_sst_running_feed.ended edge_sst_running_feed_reads.Pre edge_sst_running_feed_reads.Post edge_sst_running_feed_of.Post
edge_sst_running_feed_stands κs a = (tt, λ r e p. p)

pub edge_sst_running_asked_stands : StandsFor edge_sst_running_asked.ended edge_sst_running_asked_reads.Pre edge_sst_running_asked_reads.Post edge_sst_running_asked_of.Post
edge_sst_running_asked_stands κs a = (tt, λ r e p. p)
