-- Over the contract of each call: what it tells, read back, is the library's answer; `number` is 0 exactly if nothing is
-- refused; a refusal or absence leaves every output as it was; and every output is left as the library's own call leaves it.
use mathlib.Core.Path.{◌≡◌, refl, sym, ap, ◌∙◌}
use mathlib.Core.Bool.{true, false}
use Prim.Native.Nat.{ℕ, ◌+◌, ◌/◌, ◌≤◌, ◌<◌}
use mathlib.Core.List.{List, []}
use lib.ListN.{length}
use Rattle.base.specs.Bytes.{Bytes}
use Rattle.base.specs.Over.{part}
use Rattle.codes.specs.Ids.{id_at}
use Rattle.frame.specs.Open.{open_of}
use Rattle.reader.specs.Header.{header_of}
use Rattle.lookup.specs.declared.Looked.{Looked}
use Rattle.lookup.specs.Lookup.{looked_of, look_of, look_with}
use Rattle.lookup.specs.Calls.{alone, lent, Alone, Whole}
use Rattle.full_check.specs.Full.{full_check}
use Rattle.readout.specs.ReadOut.{read_out_of, read_out_leaves}
use Rattle.write_file.specs.Written.{needed_of, written_of, Wrote}
use Rattle.listing.specs.List as list
use Rattle.xxh3_spec.specs.Xxh3.{xxh3}
use Rattle.xxh3_running.specs.declared.Fed.{Fed}
use Rattle.xxh3_running.specs.Running.{most_fed, state_of, feed_of, Leaves}
use Rattle.xxh3_running.proofs.Laws.Running.{feed_taken, feed_refused}
use Rattle.xxh3_running.specs.Running.Sums.{Holds}
use Rattle.xxh3_running.proofs.Laws.RunningSums.{new_holds, sum_is}
use Rattle.xxh3_running.specs.Chunks.{taking}
use Rattle.xxh3_running.proofs.Laws.Chunks.{taking_holds}
use Rattle.summary.specs.Summary.{nothing, summarised_of}
use Rattle.edge_sst_c.specs.Summary.{none_told, figures_told}
use Rattle.edge_sst_c.specs.Desk.{check_told}
use Rattle.edge_sst_c.proofs.Laws.Desk.{check_told_fine, check_told_bad}
use Rattle.refusal.specs.declared.Refusal.{Refusal}
use Rattle.edge_sst_c.specs.Look.{record_lent}
use Rattle.edge_sst_c.specs.Back.{opening_from, header_from, looked_from, check_from, done_from, summarised_from, figures_from, figures_of, listed_from, EndsTold}
use Rattle.edge_sst_c.proofs.Laws.Back.{opening_back, header_back, header_bytes, looked_back, check_back, done_back, summary_back, figures_back, summary_zeros, summary_ends, listed_back}
use Rattle.edge_sst_c.specs.Refused.{Tells, Unfound}
use Rattle.edge_sst_c.proofs.Laws.Refused.{opened_tells, header_tells, looked_tells, check_tells, summary_tells, done_tells, listed_tells, partners_stay, edges_stay, read_stays, write_stays, sections_stay, running_stays}
use Rattle.base.proofs.Every.{Every}
use Rattle.edge_sst_c.specs.contracts.edge_sst_open as c_open
use Rattle.edge_sst_c.proofs.edge_sst_open.Reads as c_open_reads
use Rattle.edge_sst_c.specs.contracts.header.edge_sst_header as c_header
use Rattle.edge_sst_c.proofs.header.edge_sst_header.Reads as c_header_reads
use Rattle.edge_sst_c.specs.contracts.look.edge_sst_partners as c_partners
use Rattle.edge_sst_c.proofs.look.edge_sst_partners.Reads as c_partners_reads
use Rattle.edge_sst_c.specs.contracts.look.edge_sst_partners_with as c_partners_with
use Rattle.edge_sst_c.proofs.look.edge_sst_partners_with.Reads as c_partners_with_reads
use Rattle.edge_sst_c.specs.contracts.look.edge_sst_lookup as c_lookup
use Rattle.edge_sst_c.proofs.look.edge_sst_lookup.Reads as c_lookup_reads
use Rattle.edge_sst_c.specs.contracts.look.edge_sst_lookup_with as c_lookup_with
use Rattle.edge_sst_c.proofs.look.edge_sst_lookup_with.Reads as c_lookup_with_reads
use Rattle.edge_sst_c.specs.contracts.desk.edge_sst_check as c_check
use Rattle.edge_sst_c.proofs.desk.edge_sst_check.Reads as c_check_reads
use Rattle.edge_sst_c.specs.contracts.running.edge_sst_running_new as c_running_new
use Rattle.edge_sst_c.proofs.running.edge_sst_running_new.Reads as c_running_new_reads
use Rattle.edge_sst_c.specs.contracts.running.edge_sst_running_asked as c_running_asked
use Rattle.edge_sst_c.proofs.running.edge_sst_running_asked.Reads as c_running_asked_reads
use Rattle.edge_sst_c.specs.contracts.running.edge_sst_running_feed as c_running
use Rattle.edge_sst_c.proofs.running.edge_sst_running_feed.Reads as c_running_reads
use Rattle.edge_sst_c.specs.contracts.desk.edge_sst_read_out as c_read_out
use Rattle.edge_sst_c.proofs.desk.edge_sst_read_out.Reads as c_read_out_reads
use Rattle.edge_sst_c.specs.contracts.figures.edge_sst_summary as c_summary
use Rattle.edge_sst_c.proofs.figures.edge_sst_summary.Reads as c_summary_reads
use Rattle.edge_sst_c.specs.contracts.write.edge_sst_needed as c_needed
use Rattle.edge_sst_c.proofs.write.edge_sst_needed.Reads as c_needed_reads
use Rattle.edge_sst_c.specs.contracts.write.edge_sst_write as c_write
use Rattle.edge_sst_c.proofs.write.edge_sst_write.Reads as c_write_reads
use Rattle.edge_sst_c.specs.contracts.section_list.edge_sst_sections as c_sections
use Rattle.edge_sst_c.proofs.section_list.edge_sst_sections.Reads as c_sections_reads
use Rattle.std.specs.Prelude.{Err}

-- ---- what is told

pub open_says : Every c_open.ended c_open_reads.Post (λ κs a r e. opening_from r ≡ open_of a.0.now)
open_says κs a r e p = ap opening_from p ∙ opening_back a.0.now (open_of a.0.now) refl

-- the lent bytes are bytes: the ids are told as theirs
pub header_says : Every c_header.ended c_header_reads.Post (λ κs a r e. Bytes a.0.now → header_from r ≡ header_of a.0.now)
header_says κs a r e p by = ap header_from p ∙ header_back a.0.now by (header_of a.0.now) refl

-- and their bytes are the header's own
pub header_ids : Every c_header.ended c_header_reads.Post (λ κs a r e. Bytes a.0.now → r.number ≡ 0
    → (r.edgetype ≡ part a.0.now 16 32) × (r.source ≡ part a.0.now 32 48) × (r.destination ≡ part a.0.now 48 64))
header_ids κs a r e p by = rw p (header_bytes a.0.now by (header_of a.0.now) refl)

pub partners_says : Every c_partners.ended c_partners_reads.Post
    (λ κs a r e. looked_from r ≡ looked_of (look_of false (alone (length a.1.1.0.now)) (id_at a.1.0.now 0) a.0.now))
partners_says κs a r e p = ap looked_from p.answer ∙ looked_back _

pub partners_with_says : Every c_partners_with.ended c_partners_with_reads.Post
    (λ κs a r e. looked_from r ≡ looked_of (look_with false (alone (length a.1.1.1.0.now)) (id_at a.1.1.0.now 0) a.0.now (record_lent a.1.0.now)))
partners_with_says κs a r e p = ap looked_from p.answer ∙ looked_back _

pub lookup_says : Every c_lookup.ended c_lookup_reads.Post
    (λ κs a r e. looked_from r ≡ looked_of (look_of true (lent (length a.1.1.0.now) (length a.1.1.1.0.now) (length a.1.1.1.1.0.now)) (id_at a.1.0.now 0) a.0.now))
lookup_says κs a r e p = ap looked_from p.answer ∙ looked_back _

pub lookup_with_says : Every c_lookup_with.ended c_lookup_with_reads.Post
    (λ κs a r e. looked_from r ≡ looked_of (look_with true (lent (length a.1.1.1.0.now) (length a.1.1.1.1.0.now) (length a.1.1.1.1.1.0.now)) (id_at a.1.1.0.now 0) a.0.now (record_lent a.1.0.now)))
lookup_with_says κs a r e p = ap looked_from p.answer ∙ looked_back _

pub check_says : Every c_check.ended c_check_reads.Post (λ κs a r e. check_from r ≡ full_check a.0.now)
check_says κs a r e p = ap check_from p ∙ check_back _

pub read_out_says : Every c_read_out.ended c_read_out_reads.Post (λ κs a r e. done_from r ≡ read_out_of a.0.now (length a.1.0.now))
read_out_says κs a r e p = ap done_from p.0 ∙ done_back _

-- the lent bytes are bytes: the keys are told as theirs
pub summary_says : Every c_summary.ended c_summary_reads.Post
    (λ κs a r e. Bytes a.0.now → (summarised_from r ≡ summarised_of a.0.now) × (figures_from r ≡ figures_of (summarised_of a.0.now)))
summary_says κs a r e p by = (ap summarised_from p ∙ summary_back a.0.now by, ap figures_from p ∙ figures_back a.0.now by)

pub needed_says : Every c_needed.ended c_needed_reads.Post (λ κs a r e. done_from r ≡ needed_of a.0.now)
needed_says κs a r e p = ap done_from p ∙ done_back _

pub write_says : Every c_write.ended c_write_reads.Post (λ κs a r e. done_from r ≡ written_of a.0.now (length a.1.0.now))
write_says κs a r e p = ap done_from p.answer ∙ done_back _

pub sections_says : Every c_sections.ended c_sections_reads.Post (λ κs a r e. listed_from r ≡ list.listed_of a.0.now (length a.1.0.now / 7))
sections_says κs a r e p = ap listed_from p.0 ∙ listed_back _

pub running_says : Every c_running.ended c_running_reads.Post (λ κs a r e. check_from r ≡ (feed_of (state_of a.0.now a.1.0.now a.1.1.0.now) a.1.1.1.0.now).told)
running_says κs a r e p = ap check_from p.0 ∙ check_back _

-- ---- number

pub open_number : Every c_open.ended c_open_reads.Post (λ κs a r e. Tells Err (open_of a.0.now) r.number)
open_number κs a r e p = rw p (opened_tells (open_of a.0.now))

pub header_number : Every c_header.ended c_header_reads.Post (λ κs a r e. Tells Err (header_of a.0.now) r.number)
header_number κs a r e p = rw p (header_tells (header_of a.0.now))

pub partners_number : Every c_partners.ended c_partners_reads.Post
    (λ κs a r e. Tells Err (looked_of (look_of false (alone (length a.1.1.0.now)) (id_at a.1.0.now 0) a.0.now)) r.number)
partners_number κs a r e p = rw p.answer (looked_tells (looked_of _))

pub partners_with_number : Every c_partners_with.ended c_partners_with_reads.Post
    (λ κs a r e. Tells Err (looked_of (look_with false (alone (length a.1.1.1.0.now)) (id_at a.1.1.0.now 0) a.0.now (record_lent a.1.0.now))) r.number)
partners_with_number κs a r e p = rw p.answer (looked_tells (looked_of _))

pub lookup_number : Every c_lookup.ended c_lookup_reads.Post
    (λ κs a r e. Tells Err (looked_of (look_of true (lent (length a.1.1.0.now) (length a.1.1.1.0.now) (length a.1.1.1.1.0.now)) (id_at a.1.0.now 0) a.0.now)) r.number)
lookup_number κs a r e p = rw p.answer (looked_tells (looked_of _))

pub lookup_with_number : Every c_lookup_with.ended c_lookup_with_reads.Post
    (λ κs a r e. Tells Err (looked_of (look_with true (lent (length a.1.1.1.0.now) (length a.1.1.1.1.0.now) (length a.1.1.1.1.1.0.now)) (id_at a.1.1.0.now 0) a.0.now (record_lent a.1.0.now))) r.number)
lookup_with_number κs a r e p = rw p.answer (looked_tells (looked_of _))

pub check_number : Every c_check.ended c_check_reads.Post (λ κs a r e. Tells Err (full_check a.0.now) r.number)
check_number κs a r e p = rw p (check_tells (full_check a.0.now))

pub read_out_number : Every c_read_out.ended c_read_out_reads.Post (λ κs a r e. Tells Err (read_out_of a.0.now (length a.1.0.now)) r.number)
read_out_number κs a r e p = rw p.0 (done_tells (read_out_of a.0.now (length a.1.0.now)))

-- that of the full check
pub summary_number : Every c_summary.ended c_summary_reads.Post (λ κs a r e. Tells Err (full_check a.0.now) r.number)
summary_number κs a r e p = rw p (summary_tells a.0.now)

-- beside a refusal all is 0
pub summary_refused : Every c_summary.ended c_summary_reads.Post (λ κs a r e. (q : Refusal) → full_check a.0.now ≡ Err q
    → r ≡ figures_told (check_told (Err q)) nothing none_told)
summary_refused κs a r e p q h = p ∙ summary_zeros a.0.now q h

pub summary_extremes : Every c_summary.ended c_summary_reads.Post (λ κs a r e. EndsTold r)
summary_extremes κs a r e p = rw p (summary_ends a.0.now)

pub needed_number : Every c_needed.ended c_needed_reads.Post (λ κs a r e. Tells Err (needed_of a.0.now) r.number)
needed_number κs a r e p = rw p (done_tells (needed_of a.0.now))

pub write_number : Every c_write.ended c_write_reads.Post (λ κs a r e. Tells Err (written_of a.0.now (length a.1.0.now)) r.number)
write_number κs a r e p = rw p.answer (done_tells (written_of a.0.now (length a.1.0.now)))

pub sections_number : Every c_sections.ended c_sections_reads.Post (λ κs a r e. Tells Err (list.listed_of a.0.now (length a.1.0.now / 7)) r.number)
sections_number κs a r e p = rw p.0 (listed_tells (list.listed_of a.0.now (length a.1.0.now / 7)))

pub running_number : Every c_running.ended c_running_reads.Post (λ κs a r e. Tells Err (feed_of (state_of a.0.now a.1.0.now a.1.1.0.now) a.1.1.1.0.now).told r.number)
running_number κs a r e p = rw p.0 (check_tells (feed_of (state_of a.0.now a.1.0.now a.1.1.0.now) a.1.1.1.0.now).told)

-- ---- outputs

pub partners_leaves : Every c_partners.ended c_partners_reads.Post (λ κs a r e. Unfound r → e.1.1.0.now ≡ a.1.1.0.now)
partners_leaves κs a r e p = partners_stay p

pub partners_with_leaves : Every c_partners_with.ended c_partners_with_reads.Post (λ κs a r e. Unfound r → e.1.1.1.0.now ≡ a.1.1.1.0.now)
partners_with_leaves κs a r e p = partners_stay p

pub lookup_leaves : Every c_lookup.ended c_lookup_reads.Post
    (λ κs a r e. Unfound r → (e.1.1.0.now ≡ a.1.1.0.now) × (e.1.1.1.0.now ≡ a.1.1.1.0.now) × (e.1.1.1.1.0.now ≡ a.1.1.1.1.0.now))
lookup_leaves κs a r e p = edges_stay p

pub lookup_with_leaves : Every c_lookup_with.ended c_lookup_with_reads.Post
    (λ κs a r e. Unfound r → (e.1.1.1.0.now ≡ a.1.1.1.0.now) × (e.1.1.1.1.0.now ≡ a.1.1.1.1.0.now) × (e.1.1.1.1.1.0.now ≡ a.1.1.1.1.1.0.now))
lookup_with_leaves κs a r e p = edges_stay p

pub read_out_leaves_lem : Every c_read_out.ended c_read_out_reads.Post (λ κs a r e. 1 ≤ r.number → e.1.0.now ≡ a.1.0.now)
read_out_leaves_lem κs a r e p = read_stays a.0.now a.1.0.now p.0 p.1

pub write_leaves_lem : Every c_write.ended c_write_reads.Post (λ κs a r e. 1 ≤ r.number → e.1.0.now ≡ a.1.0.now)
write_leaves_lem κs a r e p = write_stays p

pub sections_leaves : Every c_sections.ended c_sections_reads.Post (λ κs a r e. 1 ≤ r.number → e.1.0.now ≡ a.1.0.now)
sections_leaves κs a r e p = sections_stay a.0.now a.1.0.now p.0 p.1

pub running_leaves : Every c_running.ended c_running_reads.Post
    (λ κs a r e. 1 ≤ r.number → (e.0.now ≡ a.0.now) × (e.1.0.now ≡ a.1.0.now) × (e.1.1.0.now ≡ a.1.1.0.now))
running_leaves κs a r e p = running_stays (state_of a.0.now a.1.0.now a.1.1.0.now) a.1.1.1.0.now p.0 p.1

-- ---- all that a call tells and leaves is what the library's own call of the same bytes answers and leaves

pub partners_same : Every c_partners.ended c_partners_reads.Post
    (λ κs a r e. Alone (look_of false (alone (length a.1.1.0.now)) (id_at a.1.0.now 0) a.0.now) (looked_from r) a.1.1.0.now e.1.1.0.now)
partners_same κs a r e p = record { answer = partners_says κs a r e p; partners = p.partners }

pub partners_with_same : Every c_partners_with.ended c_partners_with_reads.Post
    (λ κs a r e. Alone (look_with false (alone (length a.1.1.1.0.now)) (id_at a.1.1.0.now 0) a.0.now (record_lent a.1.0.now)) (looked_from r) a.1.1.1.0.now e.1.1.1.0.now)
partners_with_same κs a r e p = record { answer = partners_with_says κs a r e p; partners = p.partners }

pub lookup_same : Every c_lookup.ended c_lookup_reads.Post
    (λ κs a r e. Whole (look_of true (lent (length a.1.1.0.now) (length a.1.1.1.0.now) (length a.1.1.1.1.0.now)) (id_at a.1.0.now 0) a.0.now) (looked_from r)
    a.1.1.0.now e.1.1.0.now a.1.1.1.0.now e.1.1.1.0.now a.1.1.1.1.0.now e.1.1.1.1.0.now)
lookup_same κs a r e p = record { answer = lookup_says κs a r e p; partners = p.partners; numbers = p.numbers; dead = p.dead }

pub lookup_with_same : Every c_lookup_with.ended c_lookup_with_reads.Post
    (λ κs a r e. Whole (look_with true (lent (length a.1.1.1.0.now) (length a.1.1.1.1.0.now) (length a.1.1.1.1.1.0.now)) (id_at a.1.1.0.now 0) a.0.now (record_lent a.1.0.now)) (looked_from r)
    a.1.1.1.0.now e.1.1.1.0.now a.1.1.1.1.0.now e.1.1.1.1.0.now a.1.1.1.1.1.0.now e.1.1.1.1.1.0.now)
lookup_with_same κs a r e p = record { answer = lookup_with_says κs a r e p; partners = p.partners; numbers = p.numbers; dead = p.dead }

pub read_out_same : Every c_read_out.ended c_read_out_reads.Post
    (λ κs a r e. (done_from r ≡ read_out_of a.0.now (length a.1.0.now)) × (e.1.0.now ≡ read_out_leaves a.0.now a.1.0.now))
read_out_same κs a r e p = (read_out_says κs a r e p, p.1)

pub write_same : Every c_write.ended c_write_reads.Post (λ κs a r e. Wrote a.0.now a.1.0.now (done_from r) e.1.0.now)
write_same κs a r e p = record { answer = write_says κs a r e p; output = p.output }

pub running_same : Every c_running.ended c_running_reads.Post (λ κs a r e. (check_from r ≡ (feed_of (state_of a.0.now a.1.0.now a.1.1.0.now) a.1.1.1.0.now).told) × Leaves (feed_of (state_of a.0.now a.1.0.now a.1.1.0.now) a.1.1.1.0.now) e.0.now e.1.0.now e.1.1.0.now)
running_same κs a r e p = (running_says κs a r e p, p.1)

-- ---- the running sum

-- up to 2^30 bytes in all: nothing is refused; past them: 27 at place 0
pub running_takes : Every c_running.ended c_running_reads.Post
    (λ κs a r e. a.0.now + length a.1.1.1.0.now ≤ most_fed → r ≡ record { number = 0; place = 0; beside = 0 })
running_takes κs a r e p h = p.0 ∙ sym (check_told_fine _ (ap (λ (f : Fed). f.told) (feed_taken (state_of a.0.now a.1.0.now a.1.1.0.now) a.1.1.1.0.now h)))

pub running_refuses : Every c_running.ended c_running_reads.Post
    (λ κs a r e. most_fed < a.0.now + length a.1.1.1.0.now → r ≡ record { number = 27; place = 0; beside = 0 })
running_refuses κs a r e p h =
    p.0 ∙ sym (check_told_bad _ Refusal.Chunk (ap (λ (f : Fed). f.told) (feed_refused (state_of a.0.now a.1.0.now a.1.1.0.now) a.1.1.1.0.now h)) refl refl refl)

-- ---- in chunks as in one: s is what was taken so far

pub running_new_begins : Every c_running_new.ended c_running_new_reads.Post (λ κs a r e. Holds r [])
running_new_begins κs a r e p = rw p new_holds

pub running_feed_holds : Every c_running.ended c_running_reads.Post (λ κs a r e. (s : List ℕ) → Holds (state_of a.0.now a.1.0.now a.1.1.0.now) s → Holds (state_of e.0.now e.1.0.now e.1.1.0.now) (taking s a.1.1.1.0.now))
running_feed_holds κs a r e p s h =
    let made : state_of e.0.now e.1.0.now e.1.1.0.now ≡ (feed_of (state_of a.0.now a.1.0.now a.1.1.0.now) a.1.1.1.0.now).state = λ i. state_of (p.1.0 i) (p.1.1 i) (p.1.2 i) in
    rw made (taking_holds (state_of a.0.now a.1.0.now a.1.1.0.now) s a.1.1.1.0.now h)

pub running_asked_sums : Every c_running_asked.ended c_running_asked_reads.Post (λ κs a r e. (s : List ℕ) → Holds (state_of a.0 a.1.0.now a.1.1.0.now) s → r ≡ xxh3 s)
running_asked_sums κs a r e p s h = p ∙ sum_is (state_of a.0 a.1.0.now a.1.1.0.now) s h
