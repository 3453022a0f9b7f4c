-- Demand 2: "For each well-formed batch within the limits, given room, the file we write passes the full check, reads out to
-- that same batch, and a lookup of any key gives exactly its written partners, in order, with log numbers and dead marks, or
-- absence."
use Rattle.std.specs.Prelude.{◌≡◌, refl, ℕ, ◌*◌, ◌^◌, ◌≤◌, List, Bool, true, false, ◌&&◌, length, get_or, ltb, leb, eqb, Ok}
use Rattle.std.proofs.Math.Path.{ap}
use Rattle.std.proofs.Common.{◌∙◌, arith, leb-true}
use Rattle.base.specs.Pick.{pick}
use Rattle.base.specs.Over.{length_part}
use Rattle.base.specs.Bytes.{Bytes}
use Rattle.refusal.specs.declared.Refusal.{Refusal}
use Rattle.refusal.proofs.Laws.Check.{and_parts, pick_fine}
use Rattle.frame.specs.Frame.{header_in, record_of}
use Rattle.frame.specs.Open.{known_of, open_of}
use Rattle.lookup.specs.Lookup.{Rooms, look_of, look_with}
use Rattle.lookup.specs.Calls.{alone}
use Rattle.batch.specs.Batch.{heading_of, edges_of, record_count, fault_from, headed, batch_check}
use Rattle.batch_groups.specs.Groups.{groups_of}
use Rattle.batch_groups.proofs.Laws.Groups.{grouped}
use Rattle.batch_groups.proofs.Laws.Order.{batch_ordered, fine_long}
use Rattle.batch_groups.proofs.Laws.Back.{batch_same}
use Rattle.write_image.specs.Image.{bit}
use Rattle.full_check.specs.Full.{full_check}
use Rattle.readout.specs.ReadOut.{batch_in}
use Rattle.agreement.specs.SameEdges.{of_key, Says, Enough, edges_of_file}
use Rattle.agreement.proofs.Laws.SameEdges.{same_edges, same_partners}
use Rattle.agreement.specs.Heading.{header_for}
use Rattle.agreement.proofs.Laws.Heading.{same_heading}
use Rattle.reader.specs.Header.{header_of}
use Rattle.reader.proofs.Laws.Header.{header_good}
use Rattle.reader.proofs.Laws.Look.{of_good, with_record}
use Rattle.demand2.specs.File.{WrittenFile}
use Rattle.demand2.proofs.Laws.File.{minor_is, flags_is, file_opens, known_keys, known_indexed, passes, edges_again, batch_back}
use Rattle.demand2.specs.Answers.{outcome_for, PlaceTold}
use Rattle.demand2.proofs.Laws.Answered.{look_placed, outcome_is}
use Rattle.demand2.specs.Demand2.{file_for, flags_for, minor_for, Lawful, Demand2}

-- whatever bytes the batch's check takes within the bounds are lawful
pub lawful_is : (s : List ℕ) → Bytes s → batch_check s ≡ (Ok tt)
    → length (groups_of (edges_of s)) ≤ 2 ^ 24 → length (edges_of s) ≤ 2 ^ 26 → length (file_for s) ≤ 2 ^ 30 → Lawful s
lawful_is s bytes fine keys edges size = record { bytes = bytes; fine = fine; limits = record { keys = keys; edges = edges; bytes = size } }

bit_pick : (b : Bool) → bit b ≡ pick b 1 0
bit_pick true = refl
bit_pick false = refl

-- a batch without fault has a heading
way : (s : List ℕ) → batch_check s ≡ (Ok tt) → get_or s 1 0 ≤ 1
unfolding batch_check headed
way s e =
    let h = (pick_fine (headed s) (fault_from (record_count s) s 0) (Refusal.Batch 0) e).0 in
    let a = (and_parts (leb 50 (length s)) (eqb (get_or s 0 0) 3 && leb (get_or s 1 0) 1) h).1 in
    leb-true (get_or s 1 0) 1 (and_parts (eqb (get_or s 0 0) 3) (leb (get_or s 1 0) 1) a).1

module _ (s : List ℕ) (lawful : Lawful s) where
  abbrev f : List ℕ
  f = file_for s

  fine : batch_check s ≡ (Ok tt)
  fine = lawful.fine

  written : WrittenFile (heading_of s) (edges_of s)
  unfolding heading_of
  written = record {
    way = way s fine;
    ids = length_part s 2 50 (fine_long s fine);
    order = grouped (edges_of s) (batch_ordered s lawful.bytes fine);
    keys = let few = lawful.limits.keys in omega arith;
    edges = let few = lawful.limits.edges in omega arith;
    size = let few = lawful.limits.bytes in omega arith;
  }

  full : full_check f ≡ (Ok tt)
  full = passes (heading_of s) (edges_of s) written

  -- the file's edges are the batch's
  pub edges_written : edges_of_file (file_for s) ≡ edges_of s
  edges_written = edges_again (heading_of s) (edges_of s) written

  -- it opens, and its keys are those of the groups
  opens : open_of f ≡ Ok (record_of f)
  opens = file_opens (heading_of s) (edges_of s) written

  back : batch_in f ≡ s
  back = batch_back (heading_of s) (edges_of s) written ∙ batch_same s lawful.bytes fine

  header : header_of f ≡ Ok (header_for (minor_for s) (flags_for s) s)
  unfolding header_in
  header =
      let good = header_good f (record_of f) opens in
      let minor = minor_is (heading_of s) (edges_of s) written ∙ bit_pick (ltb 1024 (length (groups_of (edges_of s)))) in
      let flags = flags_is (heading_of s) (edges_of s) written in
      good ∙ ap Ok (same_heading f (header_in f) good ∙ (λ j. header_for (minor j) (flags j) (back j)))

  starts_there : (record_of f).indexed ≡ ltb 1024 (length (groups_of (edges_of s)))
  unfolding known_of
  starts_there = known_indexed (heading_of s) (edges_of s) written

  placed : (all : Bool) (rooms : Rooms) (key : ℕ) → PlaceTold key (groups_of (edges_of s)) (look_of all rooms key f)
  placed all rooms key =
      let keys = known_keys (heading_of s) (edges_of s) written in
      rw (of_good all rooms key f (record_of f) opens)
      (look_placed (known_of f (record_of f)) (groups_of (edges_of s)) written.order keys.0 keys.1 all rooms key)

  by_record : (all : Bool) (rooms : Rooms) (key : ℕ) → look_with all rooms key f (record_of f) ≡ look_of all rooms key f
  by_record all rooms key = with_record all rooms key f (record_of f) opens

  looked : (key : ℕ) (rooms : Rooms) → Enough rooms (length (of_key key (edges_of s))) → Says true (look_of true rooms key f) (of_key key (edges_of s))
  looked key rooms room = rw edges_written at (same_edges f full key rooms (rw edges_written room))

  finding : (key n : ℕ) → 16 * length (of_key key (edges_of s)) ≤ n → Says false (look_of false (alone n) key f) (of_key key (edges_of s))
  finding key n room = rw edges_written at (same_partners f full key n (rw edges_written room))

  looked_is : (key : ℕ) (rooms : Rooms) → Enough rooms (length (of_key key (edges_of s))) → look_of true rooms key f ≡ outcome_for true key (edges_of s)
  looked_is key rooms room = outcome_is true key (groups_of (edges_of s)) (of_key key (edges_of s)) (look_of true rooms key f) (looked key rooms room) (placed true rooms key)

  finding_is : (key n : ℕ) → 16 * length (of_key key (edges_of s)) ≤ n → look_of false (alone n) key f ≡ outcome_for false key (edges_of s)
  finding_is key n room = outcome_is false key (groups_of (edges_of s)) (of_key key (edges_of s)) (look_of false (alone n) key f) (finding key n room) (placed false (alone n) key)

  pub demand_2 : Demand2 s
  demand_2 = record {
    passes_check = full;
    reads_out = back;
    says_header = header;
    has_starts = starts_there;
    looks_up = looked;
    looks_up_with = λ key rooms room. rw (by_record true rooms key) (looked key rooms room);
    finds = finding;
    finds_with = λ key n room. rw (by_record false (alone n) key) (finding key n room);
    looks_up_is = looked_is;
    looks_up_with_is = λ key rooms room. by_record true rooms key ∙ looked_is key rooms room;
    finds_is = finding_is;
    finds_with_is = λ key n room. by_record false (alone n) key ∙ finding_is key n room;
  }
