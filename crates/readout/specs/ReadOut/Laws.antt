-- The read-out by its ways out.
use Rattle.std.specs.Prelude.{◌≡◌, refl, ◌↔◌, ℕ, suc, ◌+◌, ◌*◌, ◌/◌, ◌≤◌, ◌<◌, List, [], ◌++◌, Bool, true, not, ◌&&◌, length, get_or, set, drop, eqb, ltb, Result, Ok, Err}
use Rattle.std.proofs.Math.Path.{sym, ap}
use Rattle.std.proofs.Common.{ap₂, ◌∙◌, arith, length-append, drop_of_length-le, add-one, drop-cons, eqb-true, lt-ltb, le-ltb, ltb-false}
use Rattle.std.proofs.Math.Bool.{false}
use Rattle.std.specs.Bool.{beq}
use Rattle.std.proofs.lemmas.List.Edits.{sets}
use Rattle.base.specs.Pick.{pick}
use Rattle.base.specs.Over.{over, length_part, sets_append, sets_over}
use Rattle.refusal.specs.declared.Refusal.{Refusal}
use Rattle.refusal.specs.Refusal.{number_of}
use Rattle.refusal.specs.Check.{◌⊳◌, refuse, Check}
use Rattle.refusal.proofs.Laws.Check.{fine_parts, good_parts, and_parts, bad_then, fine_then, by_first, refuse_own, refuse_fine}
use Rattle.frame.specs.declared.Opened.{Opened}
use Rattle.frame.specs.Frame.{rows_of, flag, body_of, record_of}
use Rattle.frame.specs.Open.{known_of, bytes_at, start_at, open_of}
use Rattle.frame.proofs.Laws.Open.{opens_parts, size_parts, opens_record}
use Rattle.reader.proofs.Laws.Opened.{opened_offsets}
use Rattle.reader.proofs.Laws.Look.{opened_holds}
use Rattle.batch.specs.declared.Edge.{Edge}
use Rattle.batch.specs.Batch.{heading_bytes, records_of, batch_bytes}
use Rattle.batch.specs.Batch.Laws.{length_records}
use Rattle.full_check.specs.Full.{sums_from, groups_from, degrees_from, marks_of, data_good, stray_in, edges_check, full_check, checked_of}
use Rattle.full_check.specs.Starts.{stray_none}
use Rattle.full_check.specs.Checked.{checked_opened, checked_fine, fine_checked, full_opened}
use Rattle.readout.specs.Edges.{read_from, edges_in}
use Rattle.readout.specs.Edges.Laws.{length_read, Readable}
use Rattle.readout.specs.ReadOut.{heading_in, batch_in, needed_for, read_check, read_answer, read_leaves, read_out_of, read_out_leaves}

-- ---- rule 23

data_parts : (flags edges : ℕ) (s : List ℕ) (sum : ℕ) (dense stray : Bool) → data_good flags edges s sum dense stray ≡ true
    → (sum ≡ edges) × ((marks_of s edges).unused ≡ false) × (stray ≡ false)
unfolding data_good
data_parts flags edges s sum dense stray h =
    let a = and_parts (eqb sum edges) _ h in
    let b = and_parts (beq (flag 1 flags) (marks_of s edges).dead) _ a.1 in
    let c = and_parts (beq (flag 2 flags) dense) (not (marks_of s edges).unused && not stray) b.1 in
    let d = and_parts (not (marks_of s edges).unused) (not stray) c.1 in
    (eqb-true _ _ a.0, not_true _ d.0, not_true _ d.1)
  where
    not_true : (b : Bool) → not b ≡ true → b ≡ false
    not_true true h = sym h
    not_true false h = refl

-- ---- a file that the full check passes

module _ (f : List ℕ) (o : Opened) (e : checked_of f ≡ Ok o) where
  opens : open_of f ≡ Ok o
  opens = checked_opened f o e

  abbrev GroupsFine : Type 0
  GroupsFine = groups_from (bytes_at f o.partners) (bytes_at f o.offsets) (o.bits / 8) o.keycount 0 ≡ (Ok tt)

  -- the groups, then rule 23
  checked_groups : (groups_from (bytes_at f o.partners) (bytes_at f o.offsets) (o.bits / 8) o.keycount 0 ≡ (Ok tt))
      × (degrees_from (bytes_at f o.partners) (bytes_at f o.offsets) (o.bits / 8) o.keycount 0 ≡ o.edgecount)
      × ((marks_of (pick o.marked (bytes_at f o.dead) []) o.edgecount).unused ≡ false)
      × (stray_in (known_of f o) ≡ false)
  unfolding edges_check known_of
  checked_groups =
      let all = fine_parts (sums_from f (rows_of (body_of f)) 0) _ (sym (full_opened f o opens) ∙ checked_fine f o e) in
      let q = fine_parts (groups_from (bytes_at f o.partners) (bytes_at f o.offsets) (o.bits / 8) o.keycount 0) _ all.1 in
      let told = data_parts _ _ _ _ _ _ (good_parts Refusal.Data _ q.1) in
      (q.0, told.0, told.1, told.2)

  -- all groups are good, and their degrees make the edge count
  pub checked_edges : (groups_from (bytes_at f o.partners) (bytes_at f o.offsets) (o.bits / 8) o.keycount 0 ≡ (Ok tt))
      × (degrees_from (bytes_at f o.partners) (bytes_at f o.offsets) (o.bits / 8) o.keycount 0 ≡ o.edgecount)
  checked_edges = (checked_groups.0, checked_groups.1)

  -- no unused bit of the tombstones is set
  pub checked_unused : (marks_of (pick o.marked (bytes_at f o.dead) []) o.edgecount).unused ≡ false
  checked_unused = checked_groups.2

  -- each entry of the start index is the number of edges before its group
  pub checked_starts : o.indexed ≡ true → (j : ℕ) → j ≤ o.keycount
      → start_at (bytes_at f o.starts) j ≡ degrees_from (bytes_at f o.partners) (bytes_at f o.offsets) (o.bits / 8) j 0
  unfolding known_of
  checked_starts m = (stray_none _ _ _ _ _).0 (rw m at checked_groups.3)

  pub checked_readable : Readable (bytes_at f o.keys) (bytes_at f o.partners) (bytes_at f o.offsets) (o.bits / 8) (bytes_at f o.logs) o.keycount
  checked_readable =
      let h = opened_holds f o opens in
      let q = checked_edges in
      let sum = q.1 in
      let keys = h.keybytes in
      let offs = h.offsetbytes in
      let logs = h.logbytes in
      let edges = h.edges in
      record {
        narrow = h.narrow;
        wide = h.wide;
        few = h.few;
        keybytes = omega arith;
        offsetbytes = omega arith;
        rises = opened_offsets f o opens;
        good = q.0;
        edges = omega arith;
        logbytes = omega arith;
      }

  -- as many edges as the edge count says
  pub length_edges_in : length (edges_in (known_of f o)) ≡ o.edgecount
  unfolding edges_in known_of
  length_edges_in = length_read _ _ _ _ _ _ o.keycount 0 0 ∙ checked_edges.1

  pub checked_records : length (records_of (edges_in (known_of f o))) ≡ 41 * o.edgecount
  checked_records = length_records (edges_in (known_of f o)) ∙ ap (λ (t : ℕ). 41 * t) length_edges_in

  pub checked_size : 84 ≤ length f
  checked_size = (size_parts (length f) (opens_parts f o opens).frames.size).0

  pub checked_few : o.edgecount ≤ 67108864
  checked_few = (opened_holds f o opens).edges

-- ---- bytes written at a place, one by one: k of them are written

module _ (s out : List ℕ) (at k : ℕ) where
  pub bytes_on : (w : List ℕ) → k < length s → sets out (at + k) (drop k s) ≡ w → sets (set out (at + k) (get_or s k 0)) (at + (k + 1)) (drop (k + 1) s) ≡ w
  bytes_on w lt e =
      let next : at + (k + 1) ≡ suc (at + k) = omega arith in
      ap₂ (λ (x y : ℕ). sets (set out (at + k) (get_or s k 0)) x (drop y s)) next (add-one k)
      ∙ ap (λ (t : List ℕ). sets out (at + k) t) (sym (drop-cons s k 0 lt)) ∙ e

  pub bytes_end : (w : List ℕ) → length s ≤ k → sets out (at + k) (drop k s) ≡ w → out ≡ w
  bytes_end w le e = ap (λ (t : List ℕ). sets out (at + k) t) (sym (drop_of_length-le s {i = k} le)) ∙ e

-- ---- the heading

pub length_heading : (f : List ℕ) → 64 ≤ length f → length (heading_bytes (heading_in f)) ≡ 50
unfolding heading_bytes heading_in
length_heading f h = ap (λ (t : ℕ). suc (suc t)) (length_part f 16 64 h)

-- heading, then edges
pub batch_written : (f : List ℕ) (es : List Edge) (o : List ℕ) → 64 ≤ length f → 50 + length (records_of es) ≤ length o
    → sets (sets o 0 (heading_bytes (heading_in f))) 50 (records_of es) ≡ over (batch_bytes (heading_in f) es) o
unfolding batch_bytes
batch_written f es o h r =
    let head = length_heading f h in
    let place : 0 + length (heading_bytes (heading_in f)) ≡ 50 = omega arith in
    ap (λ (t : ℕ). sets (sets o 0 (heading_bytes (heading_in f))) t (records_of es)) (sym place)
    ∙ sym (sets_append (heading_bytes (heading_in f)) (records_of es) o 0)
    ∙ sets_over (heading_bytes (heading_in f) ++ records_of es) o (rw length-append (omega arith))

-- ---- the call

-- what a call of the read-out answers and leaves
abbrev pub Reads : List ℕ → List ℕ → Result ℕ Refusal → List ℕ → Type 0
Reads f o r out = (r ≡ read_out_of f (length o)) × (out ≡ read_out_leaves f o)

reads_refused : (f o : List ℕ) (r : Refusal) → read_check f (length o) ≡ Err r → Reads f o (Err r) o
unfolding read_out_of read_out_leaves read_answer read_leaves
reads_refused f o r e = (sym (ap (λ (c : Check). read_answer c (needed_for f)) e), sym (ap (λ (c : Check). read_leaves c (batch_in f) o) e))

module _ (f o : List ℕ) where
  pub reads_bad : (r : Refusal) → full_check f ≡ Err r → Reads f o (Err r) o
  unfolding read_check
  reads_bad r e = reads_refused f o r (bad_then _ e)

  module _ (p : Opened) (e : checked_of f ≡ Ok p) where
    same : record_of f ≡ p
    same = opens_record f p (checked_opened f p e)

    needs : needed_for f ≡ 50 + 41 * p.edgecount
    needs = ap (λ (t : Opened). 50 + 41 * t.edgecount) same

    rest : (t : Bool) → ltb (length o) (50 + 41 * p.edgecount) ≡ t → read_check f (length o) ≡ refuse (Refusal.Room (50 + 41 * p.edgecount)) t
    unfolding read_check
    rest t q =
        fine_then _ (checked_fine f p e)
        ∙ ap (λ (n : ℕ). refuse (Refusal.Room n) (ltb (length o) n)) needs ∙ ap (refuse (Refusal.Room (50 + 41 * p.edgecount))) q

    pub reads_short : length o < 50 + 41 * p.edgecount → Reads f o (Err (Refusal.Room (50 + 41 * p.edgecount))) o
    reads_short h = reads_refused f o _ (rest true (lt-ltb _ _ h))

    pub reads_all : 50 + 41 * p.edgecount ≤ length o → {out : List ℕ} → out ≡ over (batch_bytes (heading_in f) (edges_in (known_of f p))) o
        → Reads f o (Ok (50 + 41 * p.edgecount)) out
    unfolding read_out_of read_out_leaves read_answer read_leaves batch_in
    reads_all h q =
        let c = rest false (le-ltb _ _ h) in
        (sym (ap₂ read_answer c needs), q ∙ sym (ap₂ (λ (x : Check) (y : Opened). read_leaves x (batch_bytes (heading_in f) (edges_in (known_of f y))) o) c same))

-- a refusal leaves the output as it was
pub read_out_refused_leaves : (f o : List ℕ) (q : Refusal) → read_out_of f (length o) ≡ Err q → read_out_leaves f o ≡ o
unfolding read_out_of read_out_leaves read_answer read_leaves
read_out_refused_leaves f o q = go (read_check f (length o))
  where
    go : (c : Check) → read_answer c (needed_for f) ≡ Err q → read_leaves c (batch_in f) o ≡ o
    go (Ok tt) e = let z : ◌≡◌ {A = ℕ} 0 1 = cc in absurd (omega arith)
    go (Err r) e = refl

-- a read-out that is done: the file passes, and its batch stands at the front of the output
pub record DoneBy (f o : List ℕ) (n : ℕ) : Type 0 where
  pub fine : full_check f ≡ (Ok tt)
  pub size : n ≡ needed_for f
  pub room : n ≤ length o
  pub batch : length (batch_in f) ≡ n
  pub output : read_out_leaves f o ≡ over (batch_in f) o

-- the batch of a file that passes has the bytes that are needed
pub length_batch : (f : List ℕ) → full_check f ≡ (Ok tt) → length (batch_in f) ≡ needed_for f
unfolding batch_in batch_bytes
length_batch f e =
    let good = fine_checked f e in
    let head = length_heading f (omega (arith, checked_size f (record_of f) good)) in
    let records = checked_records f (record_of f) good in
    length-append (heading_bytes (heading_in f)) (records_of (edges_in (known_of f (record_of f)))) ∙ omega arith

pub done_by : (f o : List ℕ) (n : ℕ) → read_out_of f (length o) ≡ Ok n → DoneBy f o n
unfolding read_out_of read_out_leaves read_check read_answer read_leaves
done_by f o n = go (read_check f (length o)) refl
  where
    go : (c : Check) → read_check f (length o) ≡ c → read_answer c (needed_for f) ≡ Ok n → DoneBy f o n
    go (Ok tt) p e =
        let same : n ≡ needed_for f = cc in
        let parts = fine_parts (full_check f) _ p in
        let fits = ltb-false (length o) (needed_for f) ((refuse_fine (Refusal.Room (needed_for f)) _).0 parts.1) in
        record {
          fine = parts.0;
          size = same;
          room = rw same fits;
          batch = length_batch f parts.0 ∙ sym same;
          output = ap (λ (c : Check). read_leaves c (batch_in f) o) p;
        }
    go (Err r) p e = let z : ◌≡◌ {A = ℕ} 0 1 = cc in absurd (omega arith)

-- with room for what a good file needs, its refusal is the full check's
pub refused_check : (f : List ℕ) (room : ℕ) (r : Refusal) → (full_check f ≡ (Ok tt) → needed_for f ≤ room) → read_out_of f room ≡ Err r → full_check f ≡ Err r
unfolding read_out_of read_check read_answer
refused_check f room r enough = go (full_check f) refl
  where
    go : (c : Check) → full_check f ≡ c → read_answer (full_check f ⊳ refuse (Refusal.Room (needed_for f)) (ltb room (needed_for f))) (needed_for f) ≡ Err r → full_check f ≡ Err r
    go (Ok tt) p e =
        let fine : full_check f ⊳ refuse (Refusal.Room (needed_for f)) (ltb room (needed_for f)) ≡ (Ok tt)
        = fine_then _ p ∙ ap (refuse (Refusal.Room (needed_for f))) (le-ltb room (needed_for f) (enough p)) in
        let done : Err r ≡ Ok (needed_for f) = sym e ∙ ap (λ (c : Check). read_answer c (needed_for f)) fine in
        let z : ◌≡◌ {A = ℕ} 0 1 = cc in absurd (omega arith)
    go (Err q) p e =
        let told : Err q ≡ Err r = sym (ap (λ (c : Check). read_answer c (needed_for f)) (bad_then _ p)) ∙ e in
        let same : q ≡ r = cc in
        p ∙ ap Err same

-- a refusal other than 20 is the read-out's exactly if it is the full check's
pub read_full : (f : List ℕ) (room : ℕ) (r : Refusal) → (number_of r ≡ 20 → ⊥) → (read_out_of f room ≡ Err r) ↔ (full_check f ≡ Err r)
unfolding read_out_of read_check read_answer
read_full f room r n =
    let rule : Check = refuse (Refusal.Room (needed_for f)) (ltb room (needed_for f)) in
    let a = by_first (full_check f) rule r (refuse_own (Refusal.Room (needed_for f)) r (ltb room (needed_for f)) (λ e. n (sym e))) in
    (λ e. a.0 (go (full_check f ⊳ rule) e), λ e. ap (λ (c : Check). read_answer c (needed_for f)) (a.1 e))
  where
    go : (c : Check) → read_answer c (needed_for f) ≡ Err r → c ≡ Err r
    go (Ok tt) e = let z : ◌≡◌ {A = ℕ} 0 1 = cc in absurd (omega arith)
    go (Err q) e = let same : q ≡ r = cc in ap Err same

-- ---- the sections by other names, as they are lent

pub readable_at : {k l p q o r s t : List ℕ} {w n : ℕ} → k ≡ l → p ≡ q → o ≡ r → s ≡ t → Readable l q r w t n → Readable k p o w s n
readable_at a b c d h = rw (a, b, c, d) h

pub edges_at_lem : (f : List ℕ) (x : Opened) {k p o s d : List ℕ} → k ≡ bytes_at f x.keys → p ≡ bytes_at f x.partners → o ≡ bytes_at f x.offsets
    → s ≡ bytes_at f x.logs → d ≡ pick x.marked (bytes_at f x.dead) [] → read_from k p o (x.bits / 8) s d x.keycount 0 0 ≡ edges_in (known_of f x)
unfolding edges_in known_of
edges_at_lem f x a b c e g = λ i. read_from (a i) (b i) (c i) (x.bits / 8) (e i) (g i) x.keycount 0 0
