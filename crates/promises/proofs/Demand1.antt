-- Demand 1: for every public call the contract leaves one result and one content of lent memory, refused calls too. That each call
-- ends, and reads and writes only what it was lent, is what every proof of a function shows.
use contract.Lifetimes.{Lfts}
use denote.Triple.Entry.{Args}
use denote.Triple.Clauses.{Ended}
use Rattle.base.proofs.Determined.{Determined}
use Rattle.xxh3.specs.contracts.saffron_xxh3_64 as c_saffron
use Rattle.xxh3.proofs.saffron_xxh3_64.Reads as c_saffron_reads
use Rattle.xxh3_whole.specs.contracts.xxh3 as c_sum
use Rattle.xxh3_whole.proofs.xxh3.Reads as c_sum_reads
use Rattle.xxh3_running.specs.contracts.new as run_new
use Rattle.xxh3_running.proofs.new.Reads as run_new_reads
use Rattle.xxh3_running.specs.contracts.feed as run_feed
use Rattle.xxh3_running.proofs.feed.Reads as run_feed_reads
use Rattle.xxh3_running.specs.contracts.sum as run_sum
use Rattle.xxh3_running.proofs.sum.Reads as run_sum_reads
use Rattle.xxh3_running.specs.contracts.lent.feed_lent as run_feed_lent
use Rattle.xxh3_running.proofs.lent.feed_lent.Reads as run_feed_lent_reads
use Rattle.xxh3_running.specs.contracts.lent.sum_lent as run_sum_lent
use Rattle.xxh3_running.proofs.lent.sum_lent.Reads as run_sum_lent_reads
use Rattle.xxh3.specs.contracts.saffron_xxh3_new as c_saffron_new
use Rattle.xxh3.proofs.saffron_xxh3_new.Reads as c_saffron_new_reads
use Rattle.xxh3.specs.contracts.saffron_xxh3_feed as c_saffron_feed
use Rattle.xxh3.proofs.saffron_xxh3_feed.Reads as c_saffron_feed_reads
use Rattle.xxh3.specs.contracts.saffron_xxh3_asked as c_saffron_asked
use Rattle.xxh3.proofs.saffron_xxh3_asked.Reads as c_saffron_asked_reads
use Rattle.edge_sst_c.specs.contracts.running.edge_sst_running_new as sst_running_new
use Rattle.edge_sst_c.proofs.running.edge_sst_running_new.Reads as sst_running_new_reads
use Rattle.edge_sst_c.specs.contracts.running.edge_sst_running_feed as sst_running_feed
use Rattle.edge_sst_c.proofs.running.edge_sst_running_feed.Reads as sst_running_feed_reads
use Rattle.edge_sst_c.specs.contracts.running.edge_sst_running_asked as sst_running_asked
use Rattle.edge_sst_c.proofs.running.edge_sst_running_asked.Reads as sst_running_asked_reads
use Rattle.xxh3_running.specs.contracts.update as run_update
use Rattle.reader.specs.contracts.open.open as c_opens
use Rattle.reader.proofs.open.open.Reads as c_opens_reads
use Rattle.reader.specs.contracts.header.header as c_header
use Rattle.reader.proofs.header.header.Reads as c_header_reads
use Rattle.reader.specs.contracts.rows.section_at as c_section
use Rattle.reader.proofs.rows.section_at.Reads as c_section_reads
use Rattle.reader.specs.contracts.look.partners as c_partners
use Rattle.reader.proofs.look.partners.Reads as c_partners_reads
use Rattle.reader.specs.contracts.look.partners_with as c_partners_with
use Rattle.reader.proofs.look.partners_with.Reads as c_partners_with_reads
use Rattle.reader.specs.contracts.look.lookup as c_lookup
use Rattle.reader.proofs.look.lookup.Reads as c_lookup_reads
use Rattle.reader.specs.contracts.look.lookup_with as c_lookup_with
use Rattle.reader.proofs.look.lookup_with.Reads as c_lookup_with_reads
use Rattle.full_check.specs.contracts.check as c_check
use Rattle.full_check.proofs.check.Reads as c_check_reads
use Rattle.full_check.specs.contracts.checked as c_checked
use Rattle.full_check.proofs.checked.Reads as c_checked_reads
use Rattle.readout.specs.contracts.read_out as c_read_out
use Rattle.readout.proofs.read_out.Reads as c_read_out_reads
use Rattle.summary.specs.contracts.summary as c_summary
use Rattle.summary.proofs.summary.Reads as c_summary_reads
use Rattle.write_file.specs.contracts.needed as c_needed
use Rattle.write_file.proofs.needed.Reads as c_needed_reads
use Rattle.write_file.specs.contracts.write as c_write
use Rattle.write_file.proofs.write.Reads as c_write_reads
use Rattle.batch_faults.specs.contracts.check_batch as c_check_batch
use Rattle.batch_faults.proofs.check_batch.Reads as c_check_batch_reads
use Rattle.refusal.specs.contracts.told_of as c_told
use Rattle.refusal.proofs.told_of.Reads as c_told_reads
use Rattle.listing.specs.contracts.list_sections as c_sections
use Rattle.listing.specs.contracts.plan_for as c_plan_for
use Rattle.listing.proofs.plan_for.Reads as c_plan_for_reads
use Rattle.listing.specs.contracts.row_of as c_row_of
use Rattle.listing.proofs.row_of.Reads as c_row_of_reads
use Rattle.listing.specs.contracts.table_of as c_table_of
use Rattle.edge_sst_c.specs.contracts.edge_sst_open as sst_open
use Rattle.edge_sst_c.proofs.edge_sst_open.Reads as sst_open_reads
use Rattle.edge_sst_c.specs.contracts.header.edge_sst_header as sst_header
use Rattle.edge_sst_c.proofs.header.edge_sst_header.Reads as sst_header_reads
use Rattle.edge_sst_c.specs.contracts.look.edge_sst_partners as sst_partners
use Rattle.edge_sst_c.proofs.look.edge_sst_partners.Reads as sst_partners_reads
use Rattle.edge_sst_c.specs.contracts.look.edge_sst_partners_with as sst_partners_with
use Rattle.edge_sst_c.proofs.look.edge_sst_partners_with.Reads as sst_partners_with_reads
use Rattle.edge_sst_c.specs.contracts.look.edge_sst_lookup as sst_lookup
use Rattle.edge_sst_c.proofs.look.edge_sst_lookup.Reads as sst_lookup_reads
use Rattle.edge_sst_c.specs.contracts.look.edge_sst_lookup_with as sst_lookup_with
use Rattle.edge_sst_c.proofs.look.edge_sst_lookup_with.Reads as sst_lookup_with_reads
use Rattle.edge_sst_c.specs.contracts.desk.edge_sst_check as sst_check
use Rattle.edge_sst_c.proofs.desk.edge_sst_check.Reads as sst_check_reads
use Rattle.edge_sst_c.specs.contracts.desk.edge_sst_read_out as sst_read_out
use Rattle.edge_sst_c.proofs.desk.edge_sst_read_out.Reads as sst_read_out_reads
use Rattle.edge_sst_c.specs.contracts.figures.edge_sst_summary as sst_summary
use Rattle.edge_sst_c.proofs.figures.edge_sst_summary.Reads as sst_summary_reads
use Rattle.edge_sst_c.specs.contracts.write.edge_sst_needed as sst_needed
use Rattle.edge_sst_c.proofs.write.edge_sst_needed.Reads as sst_needed_reads
use Rattle.edge_sst_c.specs.contracts.write.edge_sst_write as sst_write
use Rattle.edge_sst_c.proofs.write.edge_sst_write.Reads as sst_write_reads
use Rattle.edge_sst_c.specs.contracts.section_list.edge_sst_sections as sst_sections
use Rattle.edge_sst_c.proofs.section_list.edge_sst_sections.Reads as sst_sections_reads
use Rattle.edge_sst_c.specs.contracts.write.edge_sst_sum as sst_sum
use Rattle.edge_sst_c.proofs.write.edge_sst_sum.Reads as sst_sum_reads
use Rattle.xxh3.proofs.One.{saffron_xxh3_64_determined, saffron_xxh3_new_determined, saffron_xxh3_feed_determined, saffron_xxh3_asked_determined}
use Rattle.xxh3_running.proofs.One.{UpdatePost, new_determined, feed_determined, sum_determined, feed_lent_determined, sum_lent_determined, update_determined}
use Rattle.xxh3_whole.proofs.One.{xxh3_determined}
use Rattle.reader.proofs.One.{open_determined, header_determined, section_at_determined, partners_determined, partners_with_determined, lookup_determined, lookup_with_determined}
use Rattle.full_check.proofs.One.{check_determined, checked_determined}
use Rattle.readout.proofs.One.{read_out_determined}
use Rattle.summary.proofs.One.{summary_determined}
use Rattle.write_file.proofs.One.{needed_determined, write_determined}
use Rattle.batch_faults.proofs.One.{check_batch_determined}
use Rattle.refusal.proofs.One.{told_of_determined}
use Rattle.listing.proofs.One.{ListedPost, TablePost, list_sections_determined, plan_for_determined, row_of_determined, table_of_determined}
use Rattle.edge_sst_c.proofs.One.{edge_sst_open_determined, edge_sst_header_determined, edge_sst_partners_determined, edge_sst_partners_with_determined, edge_sst_lookup_determined, edge_sst_lookup_with_determined, edge_sst_check_determined, edge_sst_read_out_determined, edge_sst_summary_determined, edge_sst_needed_determined, edge_sst_write_determined, edge_sst_sections_determined, edge_sst_sum_determined, edge_sst_running_new_determined, edge_sst_running_feed_determined, edge_sst_running_asked_determined}

pub record OneResult : Type 2 where
  -- `xxh3`: the sum of any bytes
  pub sum : Determined c_sum.ended c_sum_reads.Pre c_sum_reads.Post
  -- `saffron_xxh3_64`: the same for C and Rust
  pub saffron_xxh3_64 : Determined c_saffron.ended c_saffron_reads.Pre c_saffron_reads.Post
  -- the running sum by value: `new`, `feed`, `sum`
  pub running_new : Determined run_new.ended run_new_reads.Pre run_new_reads.Post
  pub running_feed : Determined run_feed.ended run_feed_reads.Pre run_feed_reads.Post
  pub running_sum : Determined run_sum.ended run_sum_reads.Pre run_sum_reads.Post
  -- and with its parts lent: `feed_lent`, `sum_lent`
  pub feed_lent : Determined run_feed_lent.ended run_feed_lent_reads.Pre run_feed_lent_reads.Post
  pub sum_lent : Determined run_sum_lent.ended run_sum_lent_reads.Pre run_sum_lent_reads.Post
  -- and in place: `update`, proved by hand, with what its contract says written out
  pub running_update : Determined run_update.ended (λ κs a. Unit {0}) UpdatePost
  -- the running sum for C, in both archives
  pub saffron_xxh3_new : Determined c_saffron_new.ended c_saffron_new_reads.Pre c_saffron_new_reads.Post
  pub saffron_xxh3_feed : Determined c_saffron_feed.ended c_saffron_feed_reads.Pre c_saffron_feed_reads.Post
  pub saffron_xxh3_asked : Determined c_saffron_asked.ended c_saffron_asked_reads.Pre c_saffron_asked_reads.Post
  -- `open`
  pub opens : Determined c_opens.ended c_opens_reads.Pre c_opens_reads.Post
  -- `header`
  pub header : Determined c_header.ended c_header_reads.Pre c_header_reads.Post
  -- `section_at`
  pub section : Determined c_section.ended c_section_reads.Pre c_section_reads.Post
  -- `partners`, also by a record
  pub partners : Determined c_partners.ended c_partners_reads.Pre c_partners_reads.Post
  pub partners_with : Determined c_partners_with.ended c_partners_with_reads.Pre c_partners_with_reads.Post
  -- `lookup`, also by a record
  pub lookup : Determined c_lookup.ended c_lookup_reads.Pre c_lookup_reads.Post
  pub lookup_with : Determined c_lookup_with.ended c_lookup_with_reads.Pre c_lookup_with_reads.Post
  -- `check`, and `checked`, which gives the record too
  pub check : Determined c_check.ended c_check_reads.Pre c_check_reads.Post
  pub checked : Determined c_checked.ended c_checked_reads.Pre c_checked_reads.Post
  -- `read_out`
  pub read_out : Determined c_read_out.ended c_read_out_reads.Pre c_read_out_reads.Post
  -- `summary`
  pub summary : Determined c_summary.ended c_summary_reads.Pre c_summary_reads.Post
  -- `needed`
  pub needed : Determined c_needed.ended c_needed_reads.Pre c_needed_reads.Post
  -- `write`
  pub write : Determined c_write.ended c_write_reads.Pre c_write_reads.Post
  -- `check_batch`: the first faulty record of a batch, or what is counted of its edges
  pub check_batch : Determined c_check_batch.ended c_check_batch_reads.Pre c_check_batch_reads.Post
  -- `list_sections`: proved by hand, with what its contract says written out
  pub sections : Determined c_sections.ended (λ κs a. Unit {0}) ListedPost
  -- `plan_for`, `row_of` and `table_of`, the last proved by hand too
  pub plan_for : Determined c_plan_for.ended c_plan_for_reads.Pre c_plan_for_reads.Post
  pub row_of : Determined c_row_of.ended c_row_of_reads.Pre c_row_of_reads.Post
  pub table_of : Determined c_table_of.ended (λ κs a. Unit {0}) TablePost
  -- `told_of`: a refusal's number and places
  pub told : Determined c_told.ended c_told_reads.Pre c_told_reads.Post
  -- the calls for C, by their names in the header
  pub edge_sst_open : Determined sst_open.ended sst_open_reads.Pre sst_open_reads.Post
  pub edge_sst_header : Determined sst_header.ended sst_header_reads.Pre sst_header_reads.Post
  pub edge_sst_partners : Determined sst_partners.ended sst_partners_reads.Pre sst_partners_reads.Post
  pub edge_sst_partners_with : Determined sst_partners_with.ended sst_partners_with_reads.Pre sst_partners_with_reads.Post
  pub edge_sst_lookup : Determined sst_lookup.ended sst_lookup_reads.Pre sst_lookup_reads.Post
  pub edge_sst_lookup_with : Determined sst_lookup_with.ended sst_lookup_with_reads.Pre sst_lookup_with_reads.Post
  pub edge_sst_check : Determined sst_check.ended sst_check_reads.Pre sst_check_reads.Post
  pub edge_sst_read_out : Determined sst_read_out.ended sst_read_out_reads.Pre sst_read_out_reads.Post
  pub edge_sst_summary : Determined sst_summary.ended sst_summary_reads.Pre sst_summary_reads.Post
  pub edge_sst_needed : Determined sst_needed.ended sst_needed_reads.Pre sst_needed_reads.Post
  pub edge_sst_write : Determined sst_write.ended sst_write_reads.Pre sst_write_reads.Post
  pub edge_sst_sections : Determined sst_sections.ended sst_sections_reads.Pre sst_sections_reads.Post
  pub edge_sst_sum : Determined sst_sum.ended sst_sum_reads.Pre sst_sum_reads.Post
  pub edge_sst_running_new : Determined sst_running_new.ended sst_running_new_reads.Pre sst_running_new_reads.Post
  pub edge_sst_running_feed : Determined sst_running_feed.ended sst_running_feed_reads.Pre sst_running_feed_reads.Post
  pub edge_sst_running_asked : Determined sst_running_asked.ended sst_running_asked_reads.Pre sst_running_asked_reads.Post

pub one_result : OneResult
one_result = record {
  sum = xxh3_determined;
  saffron_xxh3_64 = saffron_xxh3_64_determined;
  running_new = new_determined;
  running_feed = feed_determined;
  running_sum = sum_determined;
  feed_lent = feed_lent_determined;
  sum_lent = sum_lent_determined;
  running_update = update_determined;
  saffron_xxh3_new = saffron_xxh3_new_determined;
  saffron_xxh3_feed = saffron_xxh3_feed_determined;
  saffron_xxh3_asked = saffron_xxh3_asked_determined;
  opens = open_determined;
  header = header_determined;
  section = section_at_determined;
  partners = partners_determined;
  partners_with = partners_with_determined;
  lookup = lookup_determined;
  lookup_with = lookup_with_determined;
  check = check_determined;
  checked = checked_determined;
  read_out = read_out_determined;
  summary = summary_determined;
  needed = needed_determined;
  write = write_determined;
  check_batch = check_batch_determined;
  sections = list_sections_determined;
  plan_for = plan_for_determined;
  row_of = row_of_determined;
  table_of = table_of_determined;
  told = told_of_determined;
  edge_sst_open = edge_sst_open_determined;
  edge_sst_header = edge_sst_header_determined;
  edge_sst_partners = edge_sst_partners_determined;
  edge_sst_partners_with = edge_sst_partners_with_determined;
  edge_sst_lookup = edge_sst_lookup_determined;
  edge_sst_lookup_with = edge_sst_lookup_with_determined;
  edge_sst_check = edge_sst_check_determined;
  edge_sst_read_out = edge_sst_read_out_determined;
  edge_sst_summary = edge_sst_summary_determined;
  edge_sst_needed = edge_sst_needed_determined;
  edge_sst_write = edge_sst_write_determined;
  edge_sst_sections = edge_sst_sections_determined;
  edge_sst_sum = edge_sst_sum_determined;
  edge_sst_running_new = edge_sst_running_new_determined;
  edge_sst_running_feed = edge_sst_running_feed_determined;
  edge_sst_running_asked = edge_sst_running_asked_determined;
}

-- ---- "Any bytes may be lent": no public call asks anything of its arguments

-- of every arguments of the signature T what is asked holds
abbrev Free : (T : Ended) → ((κs : Lfts T.signature.lifetimes) → Args T.signature κs → Type 0) → Type 0
Free T Pre = (κs : Lfts T.signature.lifetimes) (a : Args T.signature κs) → Pre κs a

pub record NothingAsked : Type 2 where
  pub sum : Free c_sum.ended c_sum_reads.Pre
  pub saffron_xxh3_64 : Free c_saffron.ended c_saffron_reads.Pre
  pub running_new : Free run_new.ended run_new_reads.Pre
  pub running_feed : Free run_feed.ended run_feed_reads.Pre
  pub running_sum : Free run_sum.ended run_sum_reads.Pre
  pub feed_lent : Free run_feed_lent.ended run_feed_lent_reads.Pre
  pub sum_lent : Free run_sum_lent.ended run_sum_lent_reads.Pre
  pub saffron_xxh3_new : Free c_saffron_new.ended c_saffron_new_reads.Pre
  pub saffron_xxh3_feed : Free c_saffron_feed.ended c_saffron_feed_reads.Pre
  pub saffron_xxh3_asked : Free c_saffron_asked.ended c_saffron_asked_reads.Pre
  pub opens : Free c_opens.ended c_opens_reads.Pre
  pub header : Free c_header.ended c_header_reads.Pre
  pub section : Free c_section.ended c_section_reads.Pre
  pub partners : Free c_partners.ended c_partners_reads.Pre
  pub partners_with : Free c_partners_with.ended c_partners_with_reads.Pre
  pub lookup : Free c_lookup.ended c_lookup_reads.Pre
  pub lookup_with : Free c_lookup_with.ended c_lookup_with_reads.Pre
  pub check : Free c_check.ended c_check_reads.Pre
  pub checked : Free c_checked.ended c_checked_reads.Pre
  pub read_out : Free c_read_out.ended c_read_out_reads.Pre
  pub summary : Free c_summary.ended c_summary_reads.Pre
  pub needed : Free c_needed.ended c_needed_reads.Pre
  pub write : Free c_write.ended c_write_reads.Pre
  pub check_batch : Free c_check_batch.ended c_check_batch_reads.Pre
  pub plan_for : Free c_plan_for.ended c_plan_for_reads.Pre
  pub row_of : Free c_row_of.ended c_row_of_reads.Pre
  pub told : Free c_told.ended c_told_reads.Pre
  pub edge_sst_open : Free sst_open.ended sst_open_reads.Pre
  pub edge_sst_header : Free sst_header.ended sst_header_reads.Pre
  pub edge_sst_partners : Free sst_partners.ended sst_partners_reads.Pre
  pub edge_sst_partners_with : Free sst_partners_with.ended sst_partners_with_reads.Pre
  pub edge_sst_lookup : Free sst_lookup.ended sst_lookup_reads.Pre
  pub edge_sst_lookup_with : Free sst_lookup_with.ended sst_lookup_with_reads.Pre
  pub edge_sst_check : Free sst_check.ended sst_check_reads.Pre
  pub edge_sst_read_out : Free sst_read_out.ended sst_read_out_reads.Pre
  pub edge_sst_summary : Free sst_summary.ended sst_summary_reads.Pre
  pub edge_sst_needed : Free sst_needed.ended sst_needed_reads.Pre
  pub edge_sst_write : Free sst_write.ended sst_write_reads.Pre
  pub edge_sst_sections : Free sst_sections.ended sst_sections_reads.Pre
  pub edge_sst_sum : Free sst_sum.ended sst_sum_reads.Pre
  pub edge_sst_running_new : Free sst_running_new.ended sst_running_new_reads.Pre
  pub edge_sst_running_feed : Free sst_running_feed.ended sst_running_feed_reads.Pre
  pub edge_sst_running_asked : Free sst_running_asked.ended sst_running_asked_reads.Pre

pub nothing_asked : NothingAsked
nothing_asked = record {
  sum = λ κs a. tt;
  saffron_xxh3_64 = λ κs a. tt;
  running_new = λ κs a. tt;
  running_feed = λ κs a. tt;
  running_sum = λ κs a. tt;
  feed_lent = λ κs a. tt;
  sum_lent = λ κs a. tt;
  saffron_xxh3_new = λ κs a. tt;
  saffron_xxh3_feed = λ κs a. tt;
  saffron_xxh3_asked = λ κs a. tt;
  opens = λ κs a. tt;
  header = λ κs a. tt;
  section = λ κs a. tt;
  partners = λ κs a. tt;
  partners_with = λ κs a. tt;
  lookup = λ κs a. tt;
  lookup_with = λ κs a. tt;
  check = λ κs a. tt;
  checked = λ κs a. tt;
  read_out = λ κs a. tt;
  summary = λ κs a. tt;
  needed = λ κs a. tt;
  write = λ κs a. tt;
  check_batch = λ κs a. tt;
  plan_for = λ κs a. tt;
  row_of = λ κs a. tt;
  told = λ κs a. tt;
  edge_sst_open = λ κs a. tt;
  edge_sst_header = λ κs a. tt;
  edge_sst_partners = λ κs a. tt;
  edge_sst_partners_with = λ κs a. tt;
  edge_sst_lookup = λ κs a. tt;
  edge_sst_lookup_with = λ κs a. tt;
  edge_sst_check = λ κs a. tt;
  edge_sst_read_out = λ κs a. tt;
  edge_sst_summary = λ κs a. tt;
  edge_sst_needed = λ κs a. tt;
  edge_sst_write = λ κs a. tt;
  edge_sst_sections = λ κs a. tt;
  edge_sst_sum = λ κs a. tt;
  edge_sst_running_new = λ κs a. tt;
  edge_sst_running_feed = λ κs a. tt;
  edge_sst_running_asked = λ κs a. tt;
}
