-- Demand 2, of the calls: for a lawful batch and given room the writer answers with the file's size and writes it, the read-out
-- of that file gives the batch back, and its lookups answer and leave what was written. These are of what the contracts cite;
-- proofs/Calls says them of the contracts.
use Rattle.std.specs.Prelude.{◌≡◌, ℕ, suc, ◌+◌, ◌*◌, ◌^◌, ◌≤◌, true, false, take, drop, ltb, Ok, Err, Result}
use Rattle.std.proofs.Math.Path.{refl, sym, ap}
use Rattle.std.proofs.Common.{◌∙◌, arith, take_at, ltb-false}
use mathlib.Core.List.{List, [], ◌∷◌}
use Rattle.std.proofs.Math.ListN.{length, length-append}
use Rattle.base.specs.Over.{over}
use Rattle.base.specs.Bytes.{Bytes}
use Rattle.refusal.specs.declared.Refusal.{Refusal}
use Rattle.refusal.specs.Check.{refuse, Check}
use Rattle.refusal.proofs.Laws.Check.{fine_parts, either_parts}
use Rattle.codes.specs.Little.{le_at}
use Rattle.codes.specs.Ids.{be_at, be_bytes, id_at, id_bytes, halves_at, order}
use Rattle.frame.specs.Kind as kind
use Rattle.frame.specs.Frame.{record_of}
use Rattle.frame.specs.Open.{known_of}
use Rattle.group.specs.Group.{bytes_of}
use Rattle.lookup.specs.declared.Looked.{Looked}
use Rattle.lookup.specs.Lookup as look
use Rattle.lookup.specs.Lookup.{Outcome, partners_left, logs_left, marks_left}
use Rattle.lookup.specs.Calls.{Alone, Whole}
use Rattle.lookup.proofs.Laws.Calls.{alone_as, whole_as}
use Rattle.batch.specs.declared.Edge.{Edge}
use Rattle.batch.specs.Batch.{heading_of, edge_at, edges_at, edges_of, heading_bytes, records_of, batch_bytes, batch_check, partners_in, logs_in}
use Rattle.index.specs.Find.{narrowed, find_from, find_in, compared_of}
use Rattle.batch_groups.specs.Groups.{join, groups_of}
use Rattle.write_image.specs.Image.{keys_in}
use Rattle.write_image.specs.Cases.{mixed}
use Rattle.write_plan.specs.Bounds.{too_many, few}
use Rattle.full_check.specs.Full.{checked_of}
use Rattle.full_check.specs.Checked.{fine_checked}
use Rattle.readout.specs.Edges.{edges_in}
use Rattle.readout.specs.ReadOut.{heading_in, batch_in, read_out_of, read_out_leaves}
use Rattle.readout.specs.ReadOut.Laws.{checked_records, checked_size, length_heading, reads_all}
use Rattle.agreement.specs.SameEdges.{of_key, mark_bytes_in}
use Rattle.write_file.specs.Written.{needed_check, needed_of, written_of, write_leaves, file_in, written_answer}
use Rattle.write_file.specs.Written.Laws.{needed_done, wrote_all}
use Rattle.demand2.specs.Answers.{index_in, comparisons_in, outcome_by, outcome_for}
use Rattle.demand2.specs.Demand2.{file_for, Lawful}
use Rattle.demand2.proofs.Laws.Demand2.{lawful_is, demand_2}
use Rattle.promises.specs.Calls.{PartnersGiven, EdgesGiven}

-- ---- the writer

-- nothing is refused where there is an answer
answer_fine : (c : Check) (size n : ℕ) → written_answer c size ≡ Ok n → (c ≡ (Ok tt)) × (size ≡ n)
unfolding written_answer
answer_fine (Ok _) size n e = (refl, cc)
answer_fine (Err r) size n e = let z : ◌≡◌ {A = ℕ} 0 1 = cc in absurd (omega arith)

-- lawful is exactly what the writer takes: bytes for which `needed` tells a size are lawful, and it is their file's (the other
-- way is `needs`)
pub takes : (s : List ℕ) → Bytes s → (n : ℕ) → needed_of s ≡ Ok n → Lawful s × (length (file_for s) ≡ n)
unfolding needed_of needed_check too_many
takes s bytes n e =
    let (fine, size) = answer_fine (needed_check s) (length (file_in s)) n e in
    let c = fine_parts (batch_check s) _ fine in
    let a = either_parts Refusal.Bounds (ltb kind.most_keys (length (groups_of (edges_of s)))) _ c.1 in
    let b = either_parts Refusal.Bounds (ltb kind.most_edges (length (edges_of s))) _ (ap (refuse Refusal.Bounds) a.1) in
    (lawful_is s bytes c.0 (ltb-false _ _ a.0) (ltb-false _ _ b.0) (ltb-false _ _ b.1), size)

module _ (s : List ℕ) (lawful : Lawful s) where
  abbrev f : List ℕ
  f = file_for s

  -- `needed` tells the file's size
  pub needs : needed_of s ≡ Ok (length f)
  needs =
      let l = lawful.limits in
      sym (needed_done s lawful.fine (few (heading_of s) (edges_of s) l.keys l.edges l.bytes) (length f) refl)

  -- `write` writes the file
  pub writes : (o : List ℕ) → length f ≤ length o → (written_of s (length o) ≡ Ok (length f)) × (write_leaves (written_of s (length o)) (file_in s) o ≡ over f o)
  writes o h =
      let w = wrote_all s o (length f) (sym needs) h (over f o) refl in
      (sym w.answer, sym w.output)

  -- the first bytes of its output, as many as it answers, are the file: what a caller lends to the calls below
  pub written_first : (o : List ℕ) → take (length f) (over f o) ≡ f
  written_first o = take_at f (drop (length f) o) (length f) refl

  checked : checked_of f ≡ Ok (record_of f)
  checked = fine_checked f (demand_2 s lawful).passes_check

  -- the batch has the bytes that the read-out needs
  size : 50 + 41 * (record_of f).edgecount ≡ length s
  unfolding batch_in batch_bytes
  size =
      let back = ap length (demand_2 s lawful).reads_out in
      let head = length_heading f (omega (arith, checked_size f (record_of f) checked)) in
      let records = checked_records f (record_of f) checked in
      omega (arith, back, length-append (heading_bytes (heading_in f)) (records_of (edges_in (known_of f (record_of f)))))

  -- `read_out` of the file gives the batch back
  pub reads : (o : List ℕ) → length s ≤ length o → (read_out_of f (length o) ≡ Ok (length s)) × (read_out_leaves f o ≡ over s o)
  unfolding batch_in
  reads o h =
      let n = size in
      let r = reads_all f o (record_of f) checked (omega arith) refl in
      (sym r.0 ∙ ap Ok size, sym r.1 ∙ ap (λ (t : List ℕ). over t o) (demand_2 s lawful).reads_out)

count_partners : (es : List Edge) → length (partners_in es) ≡ length es
unfolding partners_in
count_partners [] = refl
count_partners (e ∷ es) = ap suc (count_partners es)

-- of the outcome for the edges es of a key, at index i after c comparisons
module _ (i c : ℕ) (r : Result Looked Refusal) (o out : List ℕ) where
  alone_some : (es : List Edge) → 1 ≤ length es → Alone (outcome_by false i c es) r o out → (r ≡ Ok (Looked.Found (length es) i c)) × (out ≡ over (bytes_of (partners_in es)) o)
  unfolding outcome_by look.looked_of partners_left
  alone_some [] h call = absurd (omega arith)
  alone_some (e ∷ es) h call = (call.answer ∙ ap (λ (d : ℕ). Ok (Looked.Found d i c)) (count_partners (e ∷ es)), call.partners)

  alone_none : (es : List Edge) → es ≡ [] → Alone (outcome_by false i c es) r o out → (r ≡ Ok (Looked.Absent c)) × (out ≡ o)
  unfolding outcome_by look.looked_of partners_left
  alone_none [] h call = (call.answer, call.partners)
  alone_none (e ∷ es) h call = absurd (omega (arith, ap length h))

  module _ (l logs m marks : List ℕ) where
    whole_some : (es : List Edge) → 1 ≤ length es → Whole (outcome_by true i c es) r o out l logs m marks
        → (r ≡ Ok (Looked.Found (length es) i c)) × (out ≡ over (bytes_of (partners_in es)) o) × (logs ≡ over (logs_in es) l) × (marks ≡ over (mark_bytes_in es) m)
    unfolding outcome_by look.looked_of partners_left logs_left marks_left
    whole_some [] h call = absurd (omega arith)
    whole_some (e ∷ es) h call = (call.answer ∙ ap (λ (d : ℕ). Ok (Looked.Found d i c)) (count_partners (e ∷ es)), call.partners, call.numbers, call.dead)

    whole_none : (es : List Edge) → es ≡ [] → Whole (outcome_by true i c es) r o out l logs m marks → (r ≡ Ok (Looked.Absent c)) × (out ≡ o) × (logs ≡ l) × (marks ≡ m)
    unfolding outcome_by look.looked_of partners_left logs_left marks_left
    whole_none [] h call = (call.answer, call.partners, call.numbers, call.dead)
    whole_none (e ∷ es) h call = absurd (omega (arith, ap length h))

-- `x` is the outcome that the contract names
pub partners_given : (key : ℕ) (es : List Edge) (x : Outcome) → x ≡ outcome_for false key es → (r : Result Looked Refusal) (o out : List ℕ) → Alone x r o out → PartnersGiven key es r o out
partners_given key es x is r o out call =
    let told = alone_as (sym is) call in
    let i = index_in key (groups_of es) in
    let c = comparisons_in key (groups_of es) in
    record { written = λ some. alone_some i c r o out (of_key key es) some told; unwritten = λ nothing. alone_none i c r o out (of_key key es) nothing told }

pub edges_given : (key : ℕ) (es : List Edge) (x : Outcome) → x ≡ outcome_for true key es → (r : Result Looked Refusal) (o out l logs m marks : List ℕ) → Whole x r o out l logs m marks
    → EdgesGiven key es r o out l logs m marks
edges_given key es x is r o out l logs m marks call =
    let told = whole_as (sym is) call in
    let i = index_in key (groups_of es) in
    let c = comparisons_in key (groups_of es) in
    record {
      written = λ some. whole_some i c r o out l logs m marks (of_key key es) some told;
      unwritten = λ nothing. whole_none i c r o out l logs m marks (of_key key es) nothing told;
    }

-- ---- as of the batch `mixed`: the lookup of its second key, 1, 3

pub second_key : (r : Result Looked Refusal) (o out l logs m marks : List ℕ) → EdgesGiven (2 ^ 64 + 3) (edges_of mixed) r o out l logs m marks
    → (r ≡ Ok (Looked.Found 1 1 1)) × (out ≡ 0 ∷ 2 ∷ 0 ∷ 0 ∷ 0 ∷ 0 ∷ 0 ∷ 0 ∷ 0 ∷ 0 ∷ 0 ∷ 0 ∷ 0 ∷ 0 ∷ 0 ∷ 1 ∷ drop 16 o) × (logs ≡ 8 ∷ drop 1 l) × (marks ≡ 0 ∷ drop 1 m)
unfolding mixed edges_of edges_at edge_at halves_at be_at le_at be_bytes id_at id_bytes bytes_of order narrowed find_from find_in compared_of join groups_of keys_in of_key partners_in logs_in mark_bytes_in index_in
second_key r o out l logs m marks given = given.written (omega arith)

pub second_partners : (r : Result Looked Refusal) (o out : List ℕ) → PartnersGiven (2 ^ 64 + 3) (edges_of mixed) r o out
    → (r ≡ Ok (Looked.Found 1 1 1)) × (out ≡ 0 ∷ 2 ∷ 0 ∷ 0 ∷ 0 ∷ 0 ∷ 0 ∷ 0 ∷ 0 ∷ 0 ∷ 0 ∷ 0 ∷ 0 ∷ 0 ∷ 0 ∷ 1 ∷ drop 16 o)
unfolding mixed edges_of edges_at edge_at halves_at be_at le_at be_bytes id_at id_bytes bytes_of order narrowed find_from find_in compared_of join groups_of keys_in of_key partners_in index_in
second_partners r o out given = given.written (omega arith)

-- and of a key that it does not have
pub other_key_given : (r : Result Looked Refusal) (o out l logs m marks : List ℕ) → EdgesGiven (2 ^ 64 + 1) (edges_of mixed) r o out l logs m marks
    → (r ≡ Ok (Looked.Absent 2)) × (out ≡ o) × (logs ≡ l) × (marks ≡ m)
unfolding mixed edges_of edges_at edge_at halves_at be_at le_at be_bytes id_at id_bytes bytes_of order narrowed find_from find_in compared_of join groups_of keys_in of_key index_in
other_key_given r o out l logs m marks given = given.unwritten refl

pub other_partners : (r : Result Looked Refusal) (o out : List ℕ) → PartnersGiven (2 ^ 64 + 1) (edges_of mixed) r o out → (r ≡ Ok (Looked.Absent 2)) × (out ≡ o)
unfolding mixed edges_of edges_at edge_at halves_at be_at le_at be_bytes id_at id_bytes bytes_of order narrowed find_from find_in compared_of join groups_of keys_in of_key index_in
other_partners r o out given = given.unwritten refl
