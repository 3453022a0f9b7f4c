-- What the calls for C tell, read back by the words of include/edge_sst.h: the library's answers, and the record of
-- `edge_sst_open` where it is lent to a lookup.
use Rattle.std.specs.Prelude.{◌≡◌, refl, ℕ, ◌+◌, ◌-◌, ◌^◌, ◌≤◌, ◌<◌, List, [], ◌∷◌, Bool, true, false, length, take, drop, replicate, ltb, Ok, Option, Some, Result, None, Err}
use Rattle.std.proofs.Common.{sym, ap, ◌∙◌, arith, append-nil, lt-ltb}
use Rattle.base.specs.Bytes.{Bytes}
use Rattle.base.specs.Pick.{pick}
use Rattle.base.specs.Over.{part}
use Rattle.codes.specs.declared.ids.Id.{Id}
use Rattle.codes.specs.Ids.{be_at, id_at, halves_at, id_bytes}
use Rattle.codes.specs.Ids.Laws.{be_at_lt, halves_is, halves_back}
use Rattle.codes.specs.Stood.{id_same}
use Rattle.refusal.specs.declared.Refusal.{Refusal}
use Rattle.refusal.specs.Refusal.{number_of, place_of, beside_of, refusal_told}
use Rattle.refusal.proofs.Laws.Refusal.{number_some, told_back}
use Rattle.frame.specs.declared.Opened.{Opened}
use Rattle.frame.specs.Open.{open_of, record_good}
use Rattle.lookup.specs.declared.Looked.{Looked}
use Rattle.lookup.proofs.Laws.Record.{holds}
use Rattle.lookup.specs.Lookup.{Outcome, Rooms, refused, look_with, look_of, looked_of, partners_left, logs_left, marks_left}
use Rattle.lookup.specs.Calls.{alone, lent}
use Rattle.reader.specs.Header.{header_of}
use Rattle.reader.proofs.Laws.Header.{header_long, header_ids}
use Rattle.reader.proofs.Laws.Look.{with_bad, with_record, opened_holds}
use Rattle.full_check.specs.Full.{full_check}
use Rattle.summary.specs.declared.figures.Extremes.{Extremes}
use Rattle.summary.specs.declared.figures.Summary.{Summary}
use Rattle.summary.specs.Summary.{nothing, summarised_of}
use Rattle.summary.specs.Promise.{EndsThere, ExtremesFit}
use Rattle.summary.proofs.Laws.Promise.{summary_refuses, summary_there, summary_fits}
use Rattle.edge_sst_c.specs.declared.EdgeSstOpened.{EdgeSstOpened}
use Rattle.edge_sst_c.specs.declared.look.EdgeSstLooked.{EdgeSstLooked}
use Rattle.edge_sst_c.specs.declared.desk.EdgeSstTold.{EdgeSstTold}
use Rattle.edge_sst_c.specs.Summary.{none_told, extremes_told, figures_told, summary_told}
use Rattle.edge_sst_c.specs.Told.{truth, record_with, opened_told}
use Rattle.edge_sst_c.proofs.Laws.Told.{told_good, told_refused}
use Rattle.edge_sst_c.specs.Header.{header_told}
use Rattle.edge_sst_c.specs.Look.{looked_told, record_lent, PartnersTold, EdgesTold}
use Rattle.edge_sst_c.proofs.Laws.Look.{byte_small}
use Rattle.edge_sst_c.specs.Desk.{check_told, done_told}
use Rattle.edge_sst_c.specs.SectionList.{listed_told}
use Rattle.edge_sst_c.proofs.Laws.Refused.{opened_zero}
use Rattle.edge_sst_c.specs.Back.{unless, looked_from, check_from, done_from, listed_from, header_from, extremes_from, summarised_from, figures_from, figures_of, EndsTold, fields_of, none, opening_from}
use Rattle.frame.specs.Opening.{Opening}
use Rattle.refusal.specs.Check.{Check}
use Rattle.frame.specs.declared.ends.Header.{Header}

unless_told : {A : Type 0} (bad : Refusal → A) (x : A) (r : Refusal) → unless bad (number_of r) (place_of r) (beside_of r) x ≡ bad r
unless_told bad x r =
    ap (λ (t : Bool). pick t (bad (refusal_told (number_of r) (place_of r) (beside_of r))) x) (lt-ltb 0 (number_of r) (number_some r)) ∙ ap bad (told_back r)

pub looked_back : (x : Result Looked Refusal) → looked_from (looked_told x) ≡ x
unfolding looked_told
looked_back (Ok (Looked.Found d i c)) = refl
looked_back (Ok (Looked.Absent c)) = refl
looked_back (Err r) = unless_told Err (Ok (Looked.Absent 0)) r

pub check_back : (x : Check) → check_from (check_told x) ≡ x
unfolding check_told
check_back (Ok _) = refl
check_back (Err r) = unless_told Err (Ok tt) r

pub done_back : (x : Result ℕ Refusal) → done_from (done_told x) ≡ x
unfolding done_told
done_back (Ok n) = refl
done_back (Err r) = unless_told Err (Ok 0) r

pub listed_back : (x : Result ℕ Refusal) → listed_from (listed_told x) ≡ x
unfolding listed_told
listed_back (Ok n) = refl
listed_back (Err r) = unless_told Err (Ok 0) r

-- ---- the header

-- an id from its 16 bytes
id_back : (f : List ℕ) → Bytes f → (i : ℕ) (d : Id) → d ≡ halves_at f i → halves_at (id_bytes d) 0 ≡ d
id_back f by i d e =
    let p : Id = record { hi = be_at f i 8; lo = be_at f (i + 8) 8 } in
    let same : d ≡ p = e ∙ halves_is f i in
    let high : be_at f i 8 < 2 ^ 64 = be_at_lt f by i 8 in
    let low : be_at f (i + 8) 8 < 2 ^ 64 = be_at_lt f by (i + 8) 8 in
    ap (λ (x : Id). halves_at (id_bytes x) 0) same
    ∙ ap (λ (t : List ℕ). halves_at t 0) (sym (append-nil (id_bytes p)))
    ∙ halves_back [] [] p high low
    ∙ sym same

-- no header: what is told beside a refusal
abbrev no_header : Result Header Refusal
no_header = Ok (record {
  minor = 0;
  direction = 0;
  flags = 0;
  edgetype = halves_at (replicate 16 0) 0;
  source = halves_at (replicate 16 0) 0;
  destination = halves_at (replicate 16 0) 0;
})

-- of a file of bytes
pub header_back : (f : List ℕ) → Bytes f → (x : Result Header Refusal) → header_of f ≡ x → header_from (header_told x) ≡ x
unfolding header_told
header_back f by (Ok h) e =
    let ids = header_ids f h e in λ i. Ok (record {
      minor = h.minor;
      direction = h.direction;
      flags = h.flags;
      edgetype = id_back f by 16 h.edgetype ids.0 i;
      source = id_back f by 32 h.source ids.1 i;
      destination = id_back f by 48 h.destination ids.2 i;
    })
header_back f by (Err r) e = unless_told Err no_header r

-- the ids that are told are the header's bytes
pub header_bytes : (f : List ℕ) → Bytes f → (x : Result Header Refusal) → header_of f ≡ x → (header_told x).number ≡ 0
    → ((header_told x).edgetype ≡ part f 16 32) × ((header_told x).source ≡ part f 32 48) × ((header_told x).destination ≡ part f 48 64)
unfolding header_told
header_bytes f by (Ok h) e zero =
    let ids = header_ids f h e in
    let there = header_long f h e in
    (bytes 16 h.edgetype ids.0 (omega arith), bytes 32 h.source ids.1 (omega arith), bytes 48 h.destination ids.2 (omega arith))
  where
    bytes : (i : ℕ) (d : Id) → d ≡ halves_at f i → i + 16 ≤ length f → id_bytes d ≡ part f i (i + 16)
    bytes i d q l = let len : 16 ≡ i + 16 - i = omega arith in ap id_bytes q ∙ id_same f by i l ∙ ap (λ (n : ℕ). take n (drop i f)) len
header_bytes f by (Err r) e zero = absurd (omega (arith, number_some r))

extremes_back : (x : Option Extremes) → ExtremesFit x → extremes_from (extremes_told x) ≡ x
unfolding extremes_told ExtremesFit
extremes_back None h = refl
extremes_back (Some x) ((p, q), (u, v)) =
    λ i. Some (record { smallestkey = back x.smallestkey p q i; largestkey = back x.largestkey u v i; smallestlog = x.smallestlog; largestlog = x.largestlog })
  where
    back : (d : Id) → d.hi < 2 ^ 64 → d.lo < 2 ^ 64 → halves_at (id_bytes d) 0 ≡ d
    back d hi lo = ap (λ (t : List ℕ). halves_at t 0) (sym (append-nil (id_bytes d))) ∙ halves_back [] [] d hi lo

-- of a file of bytes
pub summary_back : (f : List ℕ) → Bytes f → summarised_from (summary_told (summarised_of f)) ≡ summarised_of f
unfolding summary_told check_told
summary_back f by = go (summarised_of f) refl
  where
    go : (x : Result Summary Refusal) → summarised_of f ≡ x → summarised_from (summary_told x) ≡ x
    go (Ok s) e = λ i. Ok (record {
      keycount = s.keycount;
      edgecount = s.edgecount;
      tombstones = s.tombstones;
      largestdegree = s.largestdegree;
      extremes = extremes_back s.extremes (summary_fits f by s e) i;
      buckets = s.buckets;
    })
    go (Err r) e = unless_told Err (Ok nothing) r

-- the figures beside a refusal too
pub figures_back : (f : List ℕ) → Bytes f → figures_from (summary_told (summarised_of f)) ≡ figures_of (summarised_of f)
unfolding summary_told check_told
figures_back f by = go (summarised_of f) refl
  where
    go : (x : Result Summary Refusal) → summarised_of f ≡ x → figures_from (summary_told x) ≡ figures_of x
    go (Ok s) e = λ i. record {
      keycount = s.keycount;
      edgecount = s.edgecount;
      tombstones = s.tombstones;
      largestdegree = s.largestdegree;
      extremes = extremes_back s.extremes (summary_fits f by s e) i;
      buckets = s.buckets;
    }
    go (Err r) e = refl

-- beside a refusal all is 0
pub summary_zeros : (f : List ℕ) (r : Refusal) → full_check f ≡ Err r
    → summary_told (summarised_of f) ≡ figures_told (check_told (Err r)) nothing none_told
unfolding summary_told extremes_told
summary_zeros f r e = ap summary_told ((summary_refuses f r).1 e)

ends_told : (told : EdgeSstTold) (s : Summary) → EndsThere s → (x : Option Extremes) → s.extremes ≡ x → EndsTold (figures_told told s (extremes_told x))
unfolding extremes_told
ends_told told s h None e = record { some = λ l. absurd (h.some l e); none = λ z. (refl, refl, refl, refl, refl) }
ends_told told s h (Some x) e = record { some = λ l. refl; none = λ z. let n : ◌≡◌ {A = ℕ} 0 1 = cc (sym e ∙ h.none z) in absurd (omega arith) }

pub summary_ends : (f : List ℕ) → EndsTold (summary_told (summarised_of f))
unfolding summary_told
summary_ends f = go (summarised_of f) refl
  where
    go : (x : Result Summary Refusal) → summarised_of f ≡ x → EndsTold (summary_told x)
    go (Ok s) e = ends_told (check_told (Ok tt)) s (summary_there f s e) s.extremes refl
    go (Err r) e = record { some = λ l. absurd (omega arith); none = λ z. (refl, refl, refl, refl, refl) }

-- which number says what of a record
pub fields_say : (o : Opened) (m x : ℕ) → fields_of (record_with o m x)
    ≡ 0 ∷ 0 ∷ 0 ∷ o.keys.start ∷ o.keys.len ∷ o.offsets.start ∷ o.offsets.len ∷ o.partners.start ∷ o.partners.len ∷ o.logs.start ∷ o.logs.len
    ∷ o.dead.start ∷ o.dead.len ∷ m ∷ o.keycount ∷ o.edgecount ∷ o.bits ∷ o.starts.start ∷ o.starts.len ∷ x ∷ []
fields_say o m x = refl

-- a mark's number is above 0 exactly if the mark is set
pub mark_back : (b : Bool) → ltb 0 (truth b) ≡ b
mark_back true = refl
mark_back false = refl

-- what is told of a record, lent back, is that record
pub lent_back : (o : Opened) → o.bits < 256 → record_lent (fields_of (record_with o (truth o.marked) (truth o.indexed))) ≡ o
lent_back o h = λ i. record {
  keys = o.keys;
  offsets = o.offsets;
  partners = o.partners;
  logs = o.logs;
  marked = mark_back o.marked i;
  dead = o.dead;
  indexed = mark_back o.indexed i;
  starts = o.starts;
  keycount = o.keycount;
  edgecount = o.edgecount;
  bits = byte_small o.bits h i;
}

-- of every file that opens
pub opened_back : (f : List ℕ) (o : Opened) → open_of f ≡ Ok o → record_lent (fields_of (opened_told (open_of f))) ≡ o
opened_back f o e =
    let w = (opened_holds f o e).wide in
    ap (λ (c : EdgeSstOpened). record_lent (fields_of c)) (told_good (open_of f) o e) ∙ lent_back o (omega arith)

pub opening_back : (f : List ℕ) (x : Opening) → open_of f ≡ x → opening_from (opened_told x) ≡ x
unfolding opened_told
opening_back f (Ok o) e = let w = (opened_holds f o e).wide in ap Ok (lent_back o (omega arith))
opening_back f (Err r) e = unless_told Err (Ok none) r

-- a lookup by it is the one-call lookup
pub look_back : (full : Bool) (rooms : Rooms) (key : ℕ) (f : List ℕ) (o : Opened) → open_of f ≡ Ok o
    → look_with full rooms key f (record_lent (fields_of (opened_told (open_of f)))) ≡ look_of full rooms key f
look_back full rooms key f o e = ap (look_with full rooms key f) (opened_back f o e) ∙ with_record full rooms key f o e

none_bad : (f : List ℕ) (t : Bool) → record_good f none ≡ t → record_good f none ≡ false
none_bad f true e = let n = (holds f none e).narrow in absurd (omega (arith, byte_small 0 (omega arith)))
none_bad f false e = e

-- what is told of a file that does not open is no record: every lookup by it, in any file, is refused with 21
pub unopened_back : (full : Bool) (rooms : Rooms) (key : ℕ) (f g : List ℕ) (r : Refusal) → open_of g ≡ Err r
    → look_with full rooms key f (record_lent (fields_of (opened_told (open_of g)))) ≡ refused Refusal.Record
unopened_back full rooms key f g r e =
    ap (λ (c : EdgeSstOpened). look_with full rooms key f (record_lent (fields_of c))) (told_refused (open_of g) r e)
    ∙ with_bad full rooms key f none (none_bad f (record_good f none) refl)

-- ---- two calls: by the numbers c that were told of file f with number 0, and of the file itself

module _ (f : List ℕ) (c : EdgeSstOpened) (told : c ≡ opened_told (open_of f)) (good : c.number ≡ 0) where
  same : (full : Bool) (rooms : Rooms) (key : ℕ) → look_with full rooms key f (record_lent (fields_of c)) ≡ look_of full rooms key f
  same full rooms key =
      let o = opened_zero (open_of f) (sym (ap (λ (x : EdgeSstOpened). x.number) told) ∙ good) in
      ap (λ (x : EdgeSstOpened). look_with full rooms key f (record_lent (fields_of x))) told ∙ look_back full rooms key f o.0 o.1

  module _ {g n k h l : List ℕ} {r q : EdgeSstLooked} (eg : g ≡ f) (en : n ≡ fields_of c) (eh : h ≡ f) (el : l ≡ k) where
    -- partners alone: the same is told, and the same is left
    pub partners_back : {o out p left : List ℕ} → p ≡ o → PartnersTold (look_with false (alone (length o)) (id_at k 0) g (record_lent n)) r o out
        → PartnersTold (look_of false (alone (length p)) (id_at l 0) h) q p left → (r ≡ q) × (out ≡ left)
    partners_back {o = o} {p = p} ep x y =
        let d : look_with false (alone (length o)) (id_at k 0) g (record_lent n) ≡ look_of false (alone (length p)) (id_at l 0) h =
        (λ i. look_with false (alone (length o)) (id_at k 0) (eg i) (record_lent (en i)))
        ∙ same false (alone (length o)) (id_at k 0)
        ∙ sym (λ i. look_of false (alone (length (ep i))) (id_at (el i) 0) (eh i)) in
        (x.answer ∙ ap (λ (t : Outcome). looked_told (looked_of t)) d ∙ sym y.answer, x.partners ∙ (λ i. partners_left (d i) (sym ep i)) ∙ sym y.partners)

    -- with log numbers and dead marks
    pub edges_back : {o out ls logs ms marks p left ts numbers us dead : List ℕ} → p ≡ o → ts ≡ ls → us ≡ ms
        → EdgesTold (look_with true (lent (length o) (length ls) (length ms)) (id_at k 0) g (record_lent n)) r o out ls logs ms marks
        → EdgesTold (look_of true (lent (length p) (length ts) (length us)) (id_at l 0) h) q p left ts numbers us dead
        → (r ≡ q) × (out ≡ left) × (logs ≡ numbers) × (marks ≡ dead)
    edges_back {o = o} {ls = ls} {ms = ms} {p = p} {ts = ts} {us = us} ep et eu x y =
        let d : look_with true (lent (length o) (length ls) (length ms)) (id_at k 0) g (record_lent n) ≡ look_of true (lent (length p) (length ts) (length us)) (id_at l 0) h =
        (λ i. look_with true (lent (length o) (length ls) (length ms)) (id_at k 0) (eg i) (record_lent (en i)))
        ∙ same true (lent (length o) (length ls) (length ms)) (id_at k 0)
        ∙ sym (λ i. look_of true (lent (length (ep i)) (length (et i)) (length (eu i))) (id_at (el i) 0) (eh i)) in
        (x.answer ∙ ap (λ (t : Outcome). looked_told (looked_of t)) d ∙ sym y.answer, x.partners ∙ (λ i. partners_left (d i) (sym ep i)) ∙ sym y.partners, x.numbers ∙ (λ i. logs_left (d i) (sym et i)) ∙ sym y.numbers, x.dead ∙ (λ i. marks_left (d i) (sym eu i)) ∙ sym y.dead)
