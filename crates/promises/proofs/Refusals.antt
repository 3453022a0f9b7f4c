-- Demand 1, the outputs: "A refusal leaves each lent output byte and number unchanged." One statement for each call that lends an
-- output, of its own contract: with a refused result, no other content of lent memory is admitted than what was lent. Absence
-- leaves the outputs too.
use mathlib.Core.Path.{◌≡◌, refl, sym, ap, ◌∙◌}
use Prim.Native.Nat.{ℕ}
use native.Mathlib.Omega.{arith}
use mathlib.Core.List.{List}
use lib.ListN.{length}
use contract.Lifetimes.{Lfts}
use denote.Triple.Entry.{Args, Res}
use denote.Triple.Clauses.{Ended, Lasts, AtExit, at_exit}
use Rattle.refusal.specs.declared.Refusal.{Refusal}
use Rattle.frame.specs.declared.Row.{Row}
use Rattle.lookup.specs.declared.Looked.{Looked}
use Rattle.lookup.specs.Lookup as look
use Rattle.lookup.specs.Lookup.{Outcome, found, absent, refused, partners_left, logs_left, marks_left}
use Rattle.lookup.specs.Calls.{Alone, Whole}
use Rattle.listing.proofs.Laws.List.{list_refused_leaves}
use Rattle.readout.specs.ReadOut as out
use Rattle.readout.specs.ReadOut.{read_check, needed_for, batch_in, read_leaves, read_out_of, read_out_leaves}
use Rattle.write_file.specs.Written as writer
use Rattle.write_file.specs.Written.{Wrote, file_in}
use Rattle.xxh3_running.specs.declared.State.{State}
use Rattle.xxh3_running.specs.Running.{state_of}
use Rattle.xxh3_running.proofs.Laws.Chunks.{refused_leaves}
use Rattle.xxh3_running.specs.contracts.lent.feed_lent as c_feed_lent
use Rattle.xxh3_running.proofs.lent.feed_lent.Reads as c_feed_lent_reads
use Rattle.xxh3_running.specs.contracts.update as c_update
use Rattle.xxh3_running.proofs.One.{UpdatePost}
use Rattle.reader.specs.contracts.look.partners as c_partners
use Rattle.reader.proofs.look.partners.Reads as c_partners_reads
use Rattle.reader.specs.contracts.look.partners_with as c_partners_with
use Rattle.reader.proofs.look.partners_with.Reads as c_partners_with_reads
use Rattle.reader.specs.contracts.look.lookup as c_lookup
use Rattle.reader.proofs.look.lookup.Reads as c_lookup_reads
use Rattle.reader.specs.contracts.look.lookup_with as c_lookup_with
use Rattle.reader.proofs.look.lookup_with.Reads as c_lookup_with_reads
use Rattle.readout.specs.contracts.read_out as c_read_out
use Rattle.readout.proofs.read_out.Reads as c_read_out_reads
use Rattle.write_file.specs.contracts.write as c_write
use Rattle.write_file.proofs.write.Reads as c_write_reads
use Rattle.listing.specs.contracts.list_sections as c_sections
use Rattle.listing.proofs.One.{ListedPost}
use Rattle.std.specs.Prelude.{Ok, Result, Err}
use Rattle.refusal.specs.Check.{Check}

-- with such a result the contract admits no other content of lent memory at exit than `lent`
--     T and Post as for `Determined` (crate base)
abbrev pub LeavesOnly :
    (T : Ended) → ((κs : Lfts T.signature.lifetimes) → Args T.signature κs → Res T.signature κs → AtExit T κs → Type 0) →
    ((κs : Lfts T.signature.lifetimes) → Res T.signature κs → Type 0) → ((κs : Lfts T.signature.lifetimes) (a : Args T.signature κs) → Lasts T κs a) → Type 0
LeavesOnly T Post such lent =
    (κs : Lfts T.signature.lifetimes) (a : Args T.signature κs) (r : Res T.signature κs) (w : Lasts T κs a) →
    such κs r → Post κs a r (at_exit T κs a w) → w ≡ lent κs a

-- ---- lookups

-- a lookup's answer is a refusal; or absence
abbrev pub Refused : (Result Looked Refusal) → Type 0
Refused r = (q : Refusal) × (r ≡ Err q)

abbrev pub Absent : (Result Looked Refusal) → Type 0
Absent r = (n : ℕ) × (r ≡ Ok (Looked.Absent n))

-- such an outcome leaves what there was
left_refused : (x : Outcome) (o l m : List ℕ) → Refused (look.looked_of x) → (partners_left x o ≡ o) × (logs_left x l ≡ l) × (marks_left x m ≡ m)
unfolding look.looked_of partners_left logs_left marks_left
left_refused (found i c ps logs marks) o l m (q, e) = let z : ◌≡◌ {A = ℕ} 0 1 = cc in absurd (omega arith)
left_refused (absent c) o l m (q, e) = let z : ◌≡◌ {A = ℕ} 0 1 = cc in absurd (omega arith)
left_refused (refused r) o l m (q, e) = (refl, refl, refl)

left_absent : (x : Outcome) (o l m : List ℕ) → Absent (look.looked_of x) → (partners_left x o ≡ o) × (logs_left x l ≡ l) × (marks_left x m ≡ m)
unfolding look.looked_of partners_left logs_left marks_left
left_absent (found i c ps logs marks) o l m (n, e) = let z : ◌≡◌ {A = ℕ} 0 1 = cc in absurd (omega arith)
left_absent (absent c) o l m (n, e) = (refl, refl, refl)
left_absent (refused r) o l m (n, e) = let z : ◌≡◌ {A = ℕ} 0 1 = cc in absurd (omega arith)

-- of what a call answers and leaves
module _ (x : Outcome) (r : Result Looked Refusal) (o out : List ℕ) where
  alone_refused : Refused r → Alone x r o out → out ≡ o
  alone_refused (q, e) c = c.partners ∙ (left_refused x o o o (q, sym c.answer ∙ e)).0

  alone_absent : Absent r → Alone x r o out → out ≡ o
  alone_absent (n, e) c = c.partners ∙ (left_absent x o o o (n, sym c.answer ∙ e)).0

  module _ (l logs m marks : List ℕ) where
    whole_refused : Refused r → Whole x r o out l logs m marks → (out ≡ o) × (logs ≡ l) × (marks ≡ m)
    whole_refused (q, e) c = let left = left_refused x o l m (q, sym c.answer ∙ e) in (c.partners ∙ left.0, c.numbers ∙ left.1, c.dead ∙ left.2)

    whole_absent : Absent r → Whole x r o out l logs m marks → (out ≡ o) × (logs ≡ l) × (marks ≡ m)
    whole_absent (n, e) c = let left = left_absent x o l m (n, sym c.answer ∙ e) in (c.partners ∙ left.0, c.numbers ∙ left.1, c.dead ∙ left.2)

pub partners_refused : LeavesOnly c_partners.ended c_partners_reads.Post (λ κs r. Refused r) (λ κs a. (tt {0}, (tt {0}, (a.1.1.0.now, tt {0}))))
partners_refused κs a r w such call = ap (λ (o : List ℕ). (tt {0}, (tt {0}, (o, tt {0})))) (alone_refused _ r _ _ such call)

pub partners_absent : LeavesOnly c_partners.ended c_partners_reads.Post (λ κs r. Absent r) (λ κs a. (tt {0}, (tt {0}, (a.1.1.0.now, tt {0}))))
partners_absent κs a r w such call = ap (λ (o : List ℕ). (tt {0}, (tt {0}, (o, tt {0})))) (alone_absent _ r _ _ such call)

pub partners_with_refused : LeavesOnly c_partners_with.ended c_partners_with_reads.Post (λ κs r. Refused r) (λ κs a. (tt {0}, (tt {0}, (tt {0}, (a.1.1.1.0.now, tt {0})))))
partners_with_refused κs a r w such call = ap (λ (o : List ℕ). (tt {0}, (tt {0}, (tt {0}, (o, tt {0}))))) (alone_refused _ r _ _ such call)

pub partners_with_absent : LeavesOnly c_partners_with.ended c_partners_with_reads.Post (λ κs r. Absent r) (λ κs a. (tt {0}, (tt {0}, (tt {0}, (a.1.1.1.0.now, tt {0})))))
partners_with_absent κs a r w such call = ap (λ (o : List ℕ). (tt {0}, (tt {0}, (tt {0}, (o, tt {0}))))) (alone_absent _ r _ _ such call)

pub lookup_refused : LeavesOnly c_lookup.ended c_lookup_reads.Post (λ κs r. Refused r)
    (λ κs a. (tt {0}, (tt {0}, (a.1.1.0.now, (a.1.1.1.0.now, (a.1.1.1.1.0.now, tt {0}))))))
lookup_refused κs a r w such call =
    let left = whole_refused _ r _ _ _ _ _ _ such call in λ i. (tt {0}, (tt {0}, (left.0 i, (left.1 i, (left.2 i, tt {0})))))

pub lookup_absent : LeavesOnly c_lookup.ended c_lookup_reads.Post (λ κs r. Absent r)
    (λ κs a. (tt {0}, (tt {0}, (a.1.1.0.now, (a.1.1.1.0.now, (a.1.1.1.1.0.now, tt {0}))))))
lookup_absent κs a r w such call =
    let left = whole_absent _ r _ _ _ _ _ _ such call in λ i. (tt {0}, (tt {0}, (left.0 i, (left.1 i, (left.2 i, tt {0})))))

pub lookup_with_refused : LeavesOnly c_lookup_with.ended c_lookup_with_reads.Post (λ κs r. Refused r)
    (λ κs a. (tt {0}, (tt {0}, (tt {0}, (a.1.1.1.0.now, (a.1.1.1.1.0.now, (a.1.1.1.1.1.0.now, tt {0})))))))
lookup_with_refused κs a r w such call =
    let left = whole_refused _ r _ _ _ _ _ _ such call in λ i. (tt {0}, (tt {0}, (tt {0}, (left.0 i, (left.1 i, (left.2 i, tt {0}))))))

pub lookup_with_absent : LeavesOnly c_lookup_with.ended c_lookup_with_reads.Post (λ κs r. Absent r)
    (λ κs a. (tt {0}, (tt {0}, (tt {0}, (a.1.1.1.0.now, (a.1.1.1.1.0.now, (a.1.1.1.1.1.0.now, tt {0})))))))
lookup_with_absent κs a r w such call =
    let left = whole_absent _ r _ _ _ _ _ _ such call in λ i. (tt {0}, (tt {0}, (tt {0}, (left.0 i, (left.1 i, (left.2 i, tt {0}))))))

-- ---- the read-out

batch_stays : (f o : List ℕ) (q : Refusal) → read_out_of f (length o) ≡ Err q → read_out_leaves f o ≡ o
unfolding read_out_of read_out_leaves out.read_answer read_leaves
batch_stays f o q e = go (read_check f (length o)) e
  where
    go : (c : Check) → out.read_answer c (needed_for f) ≡ Err q → read_leaves c (batch_in f) o ≡ o
    go (Ok _) h = let z : ◌≡◌ {A = ℕ} 0 1 = cc in absurd (omega arith)
    go (Err r) h = refl

pub read_out_refused : LeavesOnly c_read_out.ended c_read_out_reads.Post (λ κs r. (q : Refusal) × (r ≡ Err q)) (λ κs a. (tt {0}, (a.1.0.now, tt {0})))
read_out_refused κs a r w (q, e) call =
    ap (λ (o : List ℕ). (tt {0}, (o, tt {0}))) (call.1 ∙ batch_stays a.0.now a.1.0.now q (sym call.0 ∙ e))

-- ---- the writer

file_stays : (s o : List ℕ) (r : Result ℕ Refusal) (o' : List ℕ) (q : Refusal) → r ≡ Err q → Wrote s o r o' → o' ≡ o
unfolding writer.write_leaves
file_stays s o r o' q e c = c.output ∙ ap (λ (x : Result ℕ Refusal). writer.write_leaves x (file_in s) o) (sym c.answer ∙ e)

pub write_refused : LeavesOnly c_write.ended c_write_reads.Post (λ κs r. (q : Refusal) × (r ≡ Err q)) (λ κs a. (tt {0}, (a.1.0.now, tt {0})))
write_refused κs a r w (q, e) call = ap (λ (o : List ℕ). (tt {0}, (o, tt {0}))) (file_stays a.0.now a.1.0.now r w.1.0 q e call)

-- ---- the section list: the caller's table of rows

pub list_refused : LeavesOnly c_sections.ended ListedPost (λ κs r. (q : Refusal) × (r ≡ Err q)) (λ κs a. (tt {0}, (a.1.0.now, tt {0})))
list_refused κs a r w (q, e) call =
    ap (λ (t : List Row). (tt {0}, (t, tt {0}))) (call.1 ∙ list_refused_leaves a.0.now (length a.1.0.now) q a.1.0.now (sym call.0 ∙ e))

-- ---- the running sum: the state, in parts or whole

pub feed_lent_refused : LeavesOnly c_feed_lent.ended c_feed_lent_reads.Post (λ κs r. (q : Refusal) × (r ≡ Err q))
    (λ κs a. (a.0.now, (a.1.0.now, (a.1.1.0.now, (tt {0}, tt {0})))))
feed_lent_refused κs a r w (q, e) call =
    let same = (refused_leaves (state_of a.0.now a.1.0.now a.1.1.0.now) a.1.1.1.0.now q (sym call.0 ∙ e)).1 in
    λ i. (
      (call.1.0 ∙ ap (λ (st : State). st.total) same) i,
      (
        (call.1.1 ∙ ap (λ (st : State). st.lanes) same) i,
        ((call.1.2 ∙ ap (λ (st : State). st.buffer) same) i, (tt {0}, tt {0})),
      ),
    )

pub update_refused : LeavesOnly c_update.ended UpdatePost (λ κs r. (q : Refusal) × (r ≡ Err q)) (λ κs a. (a.0.now, (tt {0}, tt {0})))
update_refused κs a r w (q, e) call =
    ap (λ (st : State). (st, (tt {0}, tt {0}))) (call.1 ∙ (refused_leaves a.0.now a.1.0.now q (sym call.0 ∙ e)).1)
