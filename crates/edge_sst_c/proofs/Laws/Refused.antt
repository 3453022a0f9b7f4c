-- What the numbers of a C call say of a refusal: `number` is 0 exactly if nothing is refused, and where it is not 0 every
-- output is left as it was.
use Rattle.std.specs.Prelude.{◌≡◌, refl, ℕ, ◌/◌, ◌≤◌, List, length, Ok, Result, Err}
use Rattle.std.proofs.Math.Path.{subst}
use Rattle.std.proofs.Common.{sym, ap, ◌∙◌, arith, inl, inr}
use Rattle.std.proofs.Math.Decide.{dec_le}
use Rattle.refusal.specs.declared.Refusal.{Refusal}
use Rattle.refusal.specs.Refusal.{number_of}
use Rattle.refusal.proofs.Laws.Refusal.{number_some}
use Rattle.frame.specs.declared.Opened.{Opened}
use Rattle.lookup.specs.declared.Looked.{Looked}
use Rattle.lookup.specs.Lookup.{Outcome, looked_of}
use Rattle.lookup.proofs.Laws.Lookup.{unfound_leaves}
use Rattle.full_check.specs.Full.{full_check}
use Rattle.summary.specs.declared.figures.Summary.{Summary}
use Rattle.summary.specs.Summary.{summarised_of}
use Rattle.summary.specs.Promise.{told}
use Rattle.summary.proofs.Laws.Promise.{summary_told_lem}
use Rattle.readout.specs.ReadOut.{read_out_of, read_out_leaves}
use Rattle.readout.specs.ReadOut.Laws as read_out
use Rattle.write_file.specs.Written.{written_of}
use Rattle.write_file.specs.Written.Laws as writer
use Rattle.listing.specs.List as list
use Rattle.listing.specs.List.{rows_written, listed_of}
use Rattle.listing.proofs.Laws.List.{plan_refused}
use Rattle.xxh3_running.specs.declared.State.{State}
use Rattle.xxh3_running.specs.Running.{feed_of, Leaves}
use Rattle.xxh3_running.proofs.Laws.Chunks.{refused_leaves}
use Rattle.edge_sst_c.specs.declared.look.EdgeSstLooked.{EdgeSstLooked}
use Rattle.edge_sst_c.specs.declared.desk.EdgeSstTold.{EdgeSstTold}
use Rattle.edge_sst_c.specs.declared.desk.EdgeSstDone.{EdgeSstDone}
use Rattle.edge_sst_c.specs.declared.section_list.EdgeSstListed.{EdgeSstListed}
use Rattle.edge_sst_c.specs.Told.{opened_told}
use Rattle.edge_sst_c.specs.Header.{header_told}
use Rattle.edge_sst_c.specs.Look.{looked_told, PartnersTold, EdgesTold}
use Rattle.edge_sst_c.specs.Desk.{check_told, done_told}
use Rattle.edge_sst_c.specs.Summary.{summary_told}
use Rattle.edge_sst_c.specs.Write.{WroteTold}
use Rattle.edge_sst_c.specs.SectionList.{listed_told, numbered}
use Rattle.edge_sst_c.proofs.Laws.SectionList.{numbered_none}
use Rattle.edge_sst_c.specs.Refused.{Tells, Unfound}
use Rattle.frame.specs.Opening.{Opening}
use Rattle.refusal.specs.Check.{Check}
use Rattle.frame.specs.declared.ends.Header.{Header}

module _ {A : Type 0} {refused : Refusal → A} where
  -- where nothing is refused, n is 0
  pub tells_zero : {x : A} {n : ℕ} → Tells refused x n → ((q : Refusal) → x ≡ refused q → ⊥) → n ≡ 0
  tells_zero {n = n} t h = elim (dec_le 1 n) [
    | yes l ↦ let s = t.some l in absurd (h s.0 s.1)
    | no l ↦ omega arith
  ]

  answered : {x : A} → ((q : Refusal) → x ≡ refused q → ⊥) → Tells refused x 0
  answered h = record { none = λ e. h; some = λ l. absurd (omega arith) }

  refusing : (r : Refusal) → Tells refused (refused r) (number_of r)
  refusing r = record { none = λ e q d. omega (arith, number_some r); some = λ l. (r, refl, refl) }

pub opened_tells : (x : Opening) → Tells Err x (opened_told x).number
unfolding opened_told
opened_tells (Ok o) = answered (λ q e. let z : ◌≡◌ {A = ℕ} 0 1 = cc in omega arith)
opened_tells (Err r) = refusing r

pub header_tells : (x : Result Header Refusal) → Tells Err x (header_told x).number
unfolding header_told
header_tells (Ok h) = answered (λ q e. let z : ◌≡◌ {A = ℕ} 0 1 = cc in omega arith)
header_tells (Err r) = refusing r

pub looked_tells : (x : Result Looked Refusal) → Tells Err x (looked_told x).number
unfolding looked_told
looked_tells (Ok (Looked.Found d i c)) = answered (λ q e. let z : ◌≡◌ {A = ℕ} 0 1 = cc in omega arith)
looked_tells (Ok (Looked.Absent c)) = answered (λ q e. let z : ◌≡◌ {A = ℕ} 0 1 = cc in omega arith)
looked_tells (Err r) = refusing r

pub check_tells : (x : Check) → Tells Err x (check_told x).number
unfolding check_told
check_tells (Ok _) = answered (λ q e. let z : ◌≡◌ {A = ℕ} 0 1 = cc in omega arith)
check_tells (Err r) = refusing r

-- of a summary the full check's refusal is told
pub summary_tells : (f : List ℕ) → Tells Err (full_check f) (summary_told (summarised_of f)).number
unfolding summary_told
summary_tells f =
    subst (Tells Err (full_check f)) (ap (λ (c : Check). (check_told c).number) (sym (summary_told_lem f)) ∙ sym (number (summarised_of f))) (check_tells (full_check f))
  where
    number : (x : Result Summary Refusal) → (summary_told x).number ≡ (check_told (told x)).number
    number (Ok s) = refl
    number (Err r) = refl

pub done_tells : (x : Result ℕ Refusal) → Tells Err x (done_told x).number
unfolding done_told
done_tells (Ok n) = answered (λ q e. let z : ◌≡◌ {A = ℕ} 0 1 = cc in omega arith)
done_tells (Err r) = refusing r

pub listed_tells : (x : Result ℕ Refusal) → Tells Err x (listed_told x).number
unfolding listed_told
listed_tells (Ok n) = answered (λ q e. let z : ◌≡◌ {A = ℕ} 0 1 = cc in omega arith)
listed_tells (Err r) = refusing r

-- a file that is told with number 0 is open
pub opened_zero : (x : Opening) → (opened_told x).number ≡ 0 → (o : Opened) × (x ≡ Ok o)
unfolding opened_told
opened_zero (Ok o) e = (o, refl)
opened_zero (Err r) e = absurd (omega (arith, number_some r))

unfound : (x : Result Looked Refusal) → Unfound (looked_told x) → (d i c : ℕ) → x ≡ Ok (Looked.Found d i c) → ⊥
unfolding looked_told
unfound (Ok (Looked.Found a b g)) (inl h) d i c e = omega arith
unfound (Ok (Looked.Found a b g)) (inr h) d i c e = omega arith
unfound (Ok (Looked.Absent a)) h d i c e = let z : ◌≡◌ {A = ℕ} 0 1 = cc in omega arith
unfound (Err r) h d i c e = let z : ◌≡◌ {A = ℕ} 0 1 = cc in omega arith

left_unfound : (x : Outcome) {r : EdgeSstLooked} → r ≡ looked_told (looked_of x) → Unfound r → (d i c : ℕ) → looked_of x ≡ Ok (Looked.Found d i c) → ⊥
left_unfound x e h = unfound (looked_of x) (rw e at h)

pub partners_stay : {x : Outcome} {r : EdgeSstLooked} {o out : List ℕ} → PartnersTold x r o out → Unfound r → out ≡ o
partners_stay {x} {o = o} t h = t.partners ∙ (unfound_leaves x (left_unfound x t.answer h) o o o).0

pub edges_stay : {x : Outcome} {r : EdgeSstLooked} {o out l logs m marks : List ℕ} → EdgesTold x r o out l logs m marks → Unfound r
    → (out ≡ o) × (logs ≡ l) × (marks ≡ m)
edges_stay {x} {o = o} {l = l} {m = m} t h =
    let s = unfound_leaves x (left_unfound x t.answer h) o l m in
    (t.partners ∙ s.0, t.numbers ∙ s.1, t.dead ∙ s.2)

pub read_stays : (f o : List ℕ) {r : EdgeSstDone} {out : List ℕ} → r ≡ done_told (read_out_of f (length o)) → out ≡ read_out_leaves f o → 1 ≤ r.number → out ≡ o
read_stays f o a b h =
    let s = (done_tells (read_out_of f (length o))).some (rw a at h) in
    b ∙ read_out.read_out_refused_leaves f o s.0 s.1

pub write_stays : {s o out : List ℕ} {r : EdgeSstDone} → WroteTold s o r out → 1 ≤ r.number → out ≡ o
write_stays {s} {o} t h =
    let q = (done_tells (written_of s (length o))).some (rw t.answer at h) in
    t.output ∙ writer.write_refused_leaves s o q.0 q.1

pub sections_stay : (f o : List ℕ) {r : EdgeSstListed} {out : List ℕ} → r ≡ listed_told (list.listed_of f (length o / 7))
    → out ≡ numbered f (rows_written (listed_of f (length o / 7))) o → 1 ≤ r.number → out ≡ o
sections_stay f o a b h =
    let s = (listed_tells (list.listed_of f (length o / 7))).some (rw a at h) in
    b ∙ ap (λ (n : ℕ). numbered f n o) (plan_refused f (length o / 7) s.0 s.1) ∙ sym (numbered_none f o)

pub running_stays : (st : State) (c : List ℕ) {r : EdgeSstTold} {t : ℕ} {l b : List ℕ} → r ≡ check_told (feed_of st c).told → Leaves (feed_of st c) t l b → 1 ≤ r.number
    → (t ≡ st.total) × (l ≡ st.lanes) × (b ≡ st.buffer)
running_stays st c a b h =
    let s = (check_tells (feed_of st c).told).some (rw a at h) in
    let same = (refused_leaves st c s.0 s.1).1 in
    (b.0 ∙ ap (λ (x : State). x.total) same, b.1 ∙ ap (λ (x : State). x.lanes) same, b.2 ∙ ap (λ (x : State). x.buffer) same)
