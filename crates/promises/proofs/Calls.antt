-- Demand 2, of the calls' own contracts: s is a lawful batch. Whatever result r and contents w of lent memory a contract admits
-- for s, or for the file of s, are these.
use mathlib.Core.Path.{◌≡◌, sym, ap, ap₂, ◌∙◌}
use Prim.Native.Nat.{ℕ, ◌*◌, ◌≤◌}
use mathlib.Core.Bool.{Bool, true, false}
use mathlib.Core.List.{List}
use lib.ListN.{length}
use contract.Lifetimes.{Lfts}
use denote.Triple.Entry.{Args, Res}
use denote.Triple.Clauses.{Lasts, at_exit}
use Rattle.base.specs.Over.{over}
use Rattle.codes.specs.Ids.{id_at}
use Rattle.frame.specs.declared.Opened.{Opened}
use Rattle.frame.specs.Frame.{record_of}
use Rattle.frame.specs.Open.{open_of}
use Rattle.frame.proofs.Laws.Open.{opens_record}
use Rattle.lookup.specs.Lookup.{Rooms, look_of, look_with}
use Rattle.lookup.specs.Calls.{alone, lent}
use Rattle.batch.specs.Batch.{edges_of}
use Rattle.full_check.specs.Full.{full_check}
use Rattle.readout.specs.ReadOut.{read_out_of, read_out_leaves}
use Rattle.reader.specs.Header.{header_of}
use Rattle.agreement.specs.SameEdges.{of_key, Enough}
use Rattle.agreement.specs.Heading.{header_for}
use Rattle.demand2.specs.Demand2.{file_for, minor_for, flags_for, Lawful}
use Rattle.demand2.proofs.Laws.Demand2.{demand_2}
use Rattle.summary.specs.Summary.{summary_of, summarised_of}
use Rattle.promises.proofs.Laws.Summary.{degree_summary}
use Rattle.promises.specs.Calls.{PartnersGiven, EdgesGiven}
use Rattle.promises.proofs.Laws.Calls.{needs, writes, reads, partners_given, edges_given}
use Rattle.write_file.specs.contracts.needed as c_needed
use Rattle.write_file.proofs.needed.Reads as c_needed_reads
use Rattle.write_file.specs.contracts.write as c_write
use Rattle.write_file.proofs.write.Reads as c_write_reads
use Rattle.reader.specs.contracts.header.header as c_header
use Rattle.reader.proofs.header.header.Reads as c_header_reads
use Rattle.full_check.specs.contracts.check as c_check
use Rattle.full_check.proofs.check.Reads as c_check_reads
use Rattle.readout.specs.contracts.read_out as c_read_out
use Rattle.readout.proofs.read_out.Reads as c_read_out_reads
use Rattle.summary.specs.contracts.summary as c_summary
use Rattle.summary.proofs.summary.Reads as c_summary_reads
use Rattle.reader.specs.contracts.look.partners as c_partners
use Rattle.reader.proofs.look.partners.Reads as c_partners_reads
use Rattle.reader.specs.contracts.look.partners_with as c_partners_with
use Rattle.reader.proofs.look.partners_with.Reads as c_partners_with_reads
use Rattle.reader.specs.contracts.look.lookup as c_lookup
use Rattle.reader.proofs.look.lookup.Reads as c_lookup_reads
use Rattle.reader.specs.contracts.look.lookup_with as c_lookup_with
use Rattle.reader.proofs.look.lookup_with.Reads as c_lookup_with_reads
use Rattle.std.specs.Prelude.{Ok}

-- the number of a key that is lent as 16 bytes
abbrev pub key_in : List ℕ → ℕ
key_in k = id_at k 0

module _ (s : List ℕ) (lawful : Lawful s) where
  -- ---- `needed(batch)` and `write(batch, out)`

  module _ (κs : Lfts (c_needed.signature).lifetimes) (a : Args c_needed.signature κs) (r : Res c_needed.signature κs) (w : Lasts c_needed.ended κs a) where
    pub needed_written : a.0.now ≡ s → c_needed_reads.Post κs a r (at_exit c_needed.ended κs a w) → r ≡ Ok (length (file_for s))
    needed_written batch call = rw batch at call ∙ needs s lawful

  module _ (κs : Lfts (c_write.signature).lifetimes) (a : Args c_write.signature κs) (r : Res c_write.signature κs) (w : Lasts c_write.ended κs a) where
    pub write_written : a.0.now ≡ s → length (file_for s) ≤ length a.1.0.now → c_write_reads.Post κs a r (at_exit c_write.ended κs a w)
        → (r ≡ Ok (length (file_for s))) × (w.1.0 ≡ over (file_for s) a.1.0.now)
    write_written batch room call =
        let done = writes s lawful a.1.0.now room in
        let told = rw batch at call in
        (told.answer ∙ done.0, told.output ∙ done.1)

  -- ---- `header(file)`

  module _ (κs : Lfts (c_header.signature).lifetimes) (a : Args c_header.signature κs) (r : Res c_header.signature κs) (w : Lasts c_header.ended κs a) where
    pub header_written : a.0.now ≡ file_for s → c_header_reads.Post κs a r (at_exit c_header.ended κs a w) → r ≡ Ok (header_for (minor_for s) (flags_for s) s)
    header_written file call = call ∙ ap header_of file ∙ (demand_2 s lawful).says_header

  -- ---- `check(file)` and `read_out(file, out)`

  module _ (κs : Lfts (c_check.signature).lifetimes) (a : Args c_check.signature κs) (r : Res c_check.signature κs) (w : Lasts c_check.ended κs a) where
    pub check_written : a.0.now ≡ file_for s → c_check_reads.Post κs a r (at_exit c_check.ended κs a w) → r ≡ (Ok tt)
    check_written file call = call ∙ ap full_check file ∙ (demand_2 s lawful).passes_check

  module _ (κs : Lfts (c_read_out.signature).lifetimes) (a : Args c_read_out.signature κs) (r : Res c_read_out.signature κs) (w : Lasts c_read_out.ended κs a) where
    pub read_out_written : a.0.now ≡ file_for s → length s ≤ length a.1.0.now → c_read_out_reads.Post κs a r (at_exit c_read_out.ended κs a w)
        → (r ≡ Ok (length s)) × (w.1.0 ≡ over s a.1.0.now)
    read_out_written file room call =
        let done = reads s lawful a.1.0.now room in
        (call.0 ∙ ap (λ (f : List ℕ). read_out_of f (length a.1.0.now)) file ∙ done.0, call.1 ∙ ap (λ (f : List ℕ). read_out_leaves f a.1.0.now) file ∙ done.1)

  -- ---- `summary(file)`

  module _ (κs : Lfts (c_summary.signature).lifetimes) (a : Args c_summary.signature κs) (r : Res c_summary.signature κs) (w : Lasts c_summary.ended κs a) where
    pub summary_written : a.0.now ≡ file_for s → c_summary_reads.Post κs a r (at_exit c_summary.ended κs a w) → r ≡ Ok (summary_of (edges_of s))
    summary_written file call = call ∙ ap summarised_of file ∙ degree_summary.written s lawful

  -- the record that opening gave for the file is the file's
  with_opened : (full : Bool) (rooms : Rooms) (key : ℕ) (f : List ℕ) (o : Opened) → f ≡ file_for s → open_of f ≡ Ok o
      → look_with full rooms key f o ≡ look_with full rooms key (file_for s) (record_of (file_for s))
  with_opened full rooms key f o file e = ap₂ (look_with full rooms key) file (sym (opens_record f o e) ∙ ap record_of file)

  -- ---- `partners(file, key, out)` and `partners_with(file, o, key, out)`: o is the record that opening gave for the file

  module _ (κs : Lfts (c_partners.signature).lifetimes) (a : Args c_partners.signature κs) (r : Res c_partners.signature κs) (w : Lasts c_partners.ended κs a) where
    pub partners_written : a.0.now ≡ file_for s → 16 * length (of_key (key_in a.1.0.now) (edges_of s)) ≤ length a.1.1.0.now
        → c_partners_reads.Post κs a r (at_exit c_partners.ended κs a w) → PartnersGiven (key_in a.1.0.now) (edges_of s) r a.1.1.0.now w.1.1.0
    partners_written file room call =
        let key = key_in a.1.0.now in
        let out = a.1.1.0.now in
        partners_given key (edges_of s) _ (ap (look_of false (alone (length out)) key) file ∙ (demand_2 s lawful).finds_is key (length out) room) r out w.1.1.0 call

  module _ (κs : Lfts (c_partners_with.signature).lifetimes) (a : Args c_partners_with.signature κs) (r : Res c_partners_with.signature κs) (w : Lasts c_partners_with.ended κs a) where
    pub partners_with_written : a.0.now ≡ file_for s → open_of a.0.now ≡ Ok a.1.0
        → 16 * length (of_key (key_in a.1.1.0.now) (edges_of s)) ≤ length a.1.1.1.0.now
        → c_partners_with_reads.Post κs a r (at_exit c_partners_with.ended κs a w)
        → PartnersGiven (key_in a.1.1.0.now) (edges_of s) r a.1.1.1.0.now w.1.1.1.0
    partners_with_written file opened room call =
        let key = key_in a.1.1.0.now in
        let out = a.1.1.1.0.now in
        partners_given key (edges_of s) _ (with_opened false (alone (length out)) key a.0.now a.1.0 file opened ∙ (demand_2 s lawful).finds_with_is key (length out) room)
        r out w.1.1.1.0 call

  -- ---- `lookup(file, key, out, logs, marks)` and `lookup_with(file, o, key, out, logs, marks)`

  module _ (κs : Lfts (c_lookup.signature).lifetimes) (a : Args c_lookup.signature κs) (r : Res c_lookup.signature κs) (w : Lasts c_lookup.ended κs a) where
    pub lookup_written : a.0.now ≡ file_for s
        → Enough (lent (length a.1.1.0.now) (length a.1.1.1.0.now) (length a.1.1.1.1.0.now)) (length (of_key (key_in a.1.0.now) (edges_of s)))
        → c_lookup_reads.Post κs a r (at_exit c_lookup.ended κs a w)
        → EdgesGiven (key_in a.1.0.now) (edges_of s) r a.1.1.0.now w.1.1.0 a.1.1.1.0.now w.1.1.1.0 a.1.1.1.1.0.now w.1.1.1.1.0
    lookup_written file room call =
        let key = key_in a.1.0.now in
        let out = a.1.1.0.now in
        let logs = a.1.1.1.0.now in
        let marks = a.1.1.1.1.0.now in
        let rooms = lent (length out) (length logs) (length marks) in
        edges_given key (edges_of s) _ (ap (look_of true rooms key) file ∙ (demand_2 s lawful).looks_up_is key rooms room) r out w.1.1.0 logs w.1.1.1.0 marks w.1.1.1.1.0 call

  module _ (κs : Lfts (c_lookup_with.signature).lifetimes) (a : Args c_lookup_with.signature κs) (r : Res c_lookup_with.signature κs) (w : Lasts c_lookup_with.ended κs a) where
    pub lookup_with_written : a.0.now ≡ file_for s → open_of a.0.now ≡ Ok a.1.0
        → Enough (lent (length a.1.1.1.0.now) (length a.1.1.1.1.0.now) (length a.1.1.1.1.1.0.now)) (length (of_key (key_in a.1.1.0.now) (edges_of s)))
        → c_lookup_with_reads.Post κs a r (at_exit c_lookup_with.ended κs a w)
        → EdgesGiven (key_in a.1.1.0.now) (edges_of s) r a.1.1.1.0.now w.1.1.1.0
        a.1.1.1.1.0.now w.1.1.1.1.0 a.1.1.1.1.1.0.now w.1.1.1.1.1.0
    lookup_with_written file opened room call =
        let key = key_in a.1.1.0.now in
        let out = a.1.1.1.0.now in
        let logs = a.1.1.1.1.0.now in
        let marks = a.1.1.1.1.1.0.now in
        let rooms = lent (length out) (length logs) (length marks) in
        edges_given key (edges_of s) _ (with_opened true rooms key a.0.now a.1.0 file opened ∙ (demand_2 s lawful).looks_up_with_is key rooms room)
        r out w.1.1.1.0 logs w.1.1.1.1.0 marks w.1.1.1.1.1.0 call
