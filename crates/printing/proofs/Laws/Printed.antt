-- Laws of the printed form: how long a line may be, its lines one by one, and that all of them make it.
use Rattle.std.specs.Prelude.{◌≡◌, Bool, get_or, ltb, eqb, Err}
use Rattle.std.proofs.Math.Path.{refl, sym, ap, ap₂}
use Rattle.std.proofs.Common.{◌∙◌, zero-add, add-zero, add-one, length-append, lt-ltb, le-ltb}
use Prim.Native.Nat.{ℕ, zero, suc, ◌+◌, ◌-◌, ◌≤◌, ◌<◌}
use native.Mathlib.Omega.{arith}
use Rattle.std.proofs.Math.Bool.{true, false}
use mathlib.Core.List.{List, [], ◌++◌, append_assoc, append-nil}
use Rattle.std.proofs.Math.ListN.{length}
use Rattle.base.specs.Pick.{pick}
use Rattle.batch.specs.declared.Edge.{Edge}
use Rattle.batch.specs.Batch.{heading_size, edge_at, edges_at, edges_of, record_count, place}
use Rattle.refusal.specs.declared.Refusal.{Refusal}
use Rattle.frame.specs.Frame.{header_in, record_of}
use Rattle.reader.proofs.Laws.Look.{opened_holds}
use Rattle.full_check.specs.Full.{full_check}
use Rattle.full_check.specs.Checked.{fine_checked, checked_opened}
use Rattle.readout.specs.ReadOut.Laws.{length_batch, checked_size}
use Rattle.base.specs.Over.{length_part}
use Rattle.text.specs.Text.{refused_text}
use Rattle.text.specs.Text.Laws.{length_decimal, length_hex}
use Rattle.printing.specs.Printed.{life_end, newline, edge_line, edge_lines, forward_word, inverse_word, first_line, dead_in, ok_line, printed, line_at, lines_from, line_room, line_count, printed_by, printed_of, PartOf, Passed, BatchRoom, longest, batch_room}
use Rattle.refusal.specs.Check.{Check}

-- ---- there is room for any line

length_life : (dead : Bool) → length (life_end dead) ≡ 6
length_life true = refl
length_life false = refl

length_direction : (t : Bool) → length (pick t inverse_word forward_word) ≡ 23
length_direction true = refl
length_direction false = refl

pub edge_room : (e : Edge) → length (edge_line e) ≤ line_room
unfolding edge_line
edge_room e =
    let a = length_hex e.key.hi in
    let b = length_hex e.key.lo in
    let c = length_hex e.partner.hi in
    let d = length_hex e.partner.lo in
    let l = length_decimal 20 e.log in
    let z = length_life e.dead in
    simp length-append (omega arith)

pub first_room : (direction minor keys edges dead : ℕ) → length (first_line direction minor keys edges dead) ≤ line_room
unfolding first_line
first_room direction minor keys edges dead =
    let a = length_direction (eqb direction 1) in
    let b = length_decimal 20 minor in
    let c = length_decimal 20 keys in
    let d = length_decimal 20 edges in
    let e = length_decimal 20 dead in
    simp length-append (omega arith)

-- ---- the dead, edge by edge

module _ (s : List ℕ) where
  pub dead_more : (d e : ℕ) → dead_in (edges_at (suc d) s e) ≡ pick (edge_at s (place e)).dead 1 0 + dead_in (edges_at d s (e + 1))
  unfolding dead_in edges_at
  dead_more d e = refl

  pub dead_none : (e : ℕ) → dead_in (edges_at 0 s e) ≡ 0
  unfolding dead_in edges_at
  dead_none e = refl

  pub dead_all : dead_in (edges_at (record_count s) s 0) ≡ dead_in (edges_of s)
  unfolding edges_of
  dead_all = refl

-- ---- the lines

module _ (minor keys : ℕ) (s : List ℕ) where
  pub line_first : line_at minor keys s 0 ≡ first_line (get_or s 1 0) minor keys (record_count s) (dead_in (edges_of s))
  unfolding line_at
  line_first = refl

  pub line_edge : (e : ℕ) → e < record_count s → line_at minor keys s (suc e) ≡ edge_line (edge_at s (place e))
  unfolding line_at
  line_edge e h = rw (lt-ltb e (record_count s) h)

  pub line_ok : (e : ℕ) → record_count s ≤ e → line_at minor keys s (suc e) ≡ ok_line
  unfolding line_at
  line_ok e h = rw (le-ltb e (record_count s) h)

  pub line_room_lem : (k : ℕ) → length (line_at minor keys s k) ≤ line_room
  unfolding line_at
  line_room_lem zero = first_room (get_or s 1 0) minor keys (record_count s) (dead_in (edges_of s))
  line_room_lem (suc e) = go (ltb e (record_count s))
    where
      go : (t : Bool) → length (pick t (edge_line (edge_at s (place e))) ok_line) ≤ line_room
      go true = edge_room (edge_at s (place e))
      go false = omega arith

  pub lines_none : (k : ℕ) → lines_from minor keys s 0 k ≡ []
  unfolding lines_from
  lines_none k = refl

  -- one line more
  pub lines_more : (n k : ℕ) → lines_from minor keys s n k ++ line_at minor keys s (k + n) ≡ lines_from minor keys s (suc n) k
  unfolding lines_from
  lines_more zero k = ap (line_at minor keys s) (add-zero k) ∙ sym (append-nil (line_at minor keys s k))
  lines_more (suc n) k =
      let place : k + suc n ≡ suc k + n = omega arith in
      append_assoc (line_at minor keys s k) (lines_from minor keys s n (suc k)) (line_at minor keys s (k + suc n))
      ∙ ap (λ (t : List ℕ). line_at minor keys s k ++ t) (ap (λ (j : ℕ). lines_from minor keys s n (suc k) ++ line_at minor keys s j) place ∙ lines_more n (suc k))

  -- two runs of lines in a row
  pub lines_both : (m n k : ℕ) → lines_from minor keys s (m + n) k ≡ lines_from minor keys s m k ++ lines_from minor keys s n (k + m)
  unfolding lines_from
  lines_both zero n k = ap₂ (lines_from minor keys s) (zero-add n) (sym (add-zero k))
  lines_both (suc m) n k =
      let here : suc m + n ≡ suc (m + n) = omega arith in
      let there : suc k + m ≡ k + suc m = omega arith in
      ap (λ (j : ℕ). lines_from minor keys s j k) here
      ∙ ap (λ (t : List ℕ). line_at minor keys s k ++ t) (lines_both m n (suc k) ∙ ap (λ (j : ℕ). lines_from minor keys s m (suc k) ++ lines_from minor keys s n j) there)
      ∙ sym (append_assoc (line_at minor keys s k) (lines_from minor keys s m (suc k)) (lines_from minor keys s n (k + suc m)))

  -- the lines of d edges from edge e on, the last, and `ok`
  lines_edges : (d e : ℕ) → e + d ≡ record_count s → lines_from minor keys s (suc d) (suc e) ≡ edge_lines (edges_at d s e) ++ ok_line
  unfolding lines_from edge_lines edges_at
  lines_edges zero e h = ap (λ (t : List ℕ). t ++ []) (line_ok e (omega arith)) ∙ append-nil ok_line
  lines_edges (suc d) e h =
      ap₂ (λ (x y : List ℕ). x ++ y) (line_edge e (omega arith)) (lines_edges d (suc e) (omega arith) ∙ ap (λ (i : ℕ). edge_lines (edges_at d s i) ++ ok_line) (sym (add-one e)))
      ∙ sym (append_assoc (edge_line (edge_at s (place e))) (edge_lines (edges_at d s (e + 1))) ok_line)

  -- all lines are what is printed
  pub lines_all : lines_from minor keys s (line_count s) 0 ≡ printed minor keys s
  unfolding lines_from printed edges_of
  lines_all =
      let count : record_count s + 2 ≡ suc (suc (record_count s)) = omega arith in
      ap (λ (n : ℕ). lines_from minor keys s n 0) count
      ∙ ap₂ (λ (x y : List ℕ). x ++ y) line_first (lines_edges (record_count s) 0 (omega arith))

  -- lines from k up to the next are a part of what is printed
  pub lines_part : (k next : ℕ) → k ≤ next → next ≤ line_count s → PartOf (printed minor keys s) (lines_from minor keys s (next - k) k)
  lines_part k next h g =
      let rest : List ℕ = lines_from minor keys s (line_count s - next) next in
      let all : line_count s ≡ k + (next - k + (line_count s - next)) = omega arith in
      let here : k + (next - k) ≡ next = omega arith in
      record {
        before = lines_from minor keys s k 0;
        after = rest;
        whole = sym lines_all
            ∙ ap (λ (n : ℕ). lines_from minor keys s n 0) all
            ∙ lines_both k (next - k + (line_count s - next)) 0
            ∙ ap (λ (t : List ℕ). lines_from minor keys s k 0 ++ t)
            (ap (lines_from minor keys s (next - k + (line_count s - next))) (zero-add k)
            ∙ lines_both (next - k) (line_count s - next) k
            ∙ ap (λ (j : ℕ). lines_from minor keys s (next - k) k ++ lines_from minor keys s (line_count s - next) j) here);
      }

-- ---- a file

pub refused_printed : (f : List ℕ) (r : Refusal) → full_check f ≡ Err r → printed_of f ≡ refused_text r ++ newline
unfolding printed_by
refused_printed f r e = ap (λ (c : Check). printed_by c f) e

pub passed_printed : (f : List ℕ) (keys : ℕ) (batch : List ℕ) (minor : ℕ) → Passed f keys batch → minor ≡ get_or f 9 0 → printed_of f ≡ printed minor keys batch
unfolding printed_by header_in
passed_printed f keys batch minor p m =
    ap (λ (c : Check). printed_by c f) p.fine ∙ (λ i. printed (sym m i) (sym p.count i) (sym p.read i))

-- the same text and the same part by other names
pub part_of : {text same xs ys : List ℕ} → text ≡ same → xs ≡ ys → PartOf same ys → PartOf text xs
part_of e f p = rw (e, f) p

pub part_all : (text : List ℕ) → PartOf text text
part_all text = record { before = []; after = []; whole = sym (append-nil text) }

module _ (f : List ℕ) (keys : ℕ) (batch : List ℕ) (p : Passed f keys batch) where
  pub passed_heading : heading_size ≤ length batch
  passed_heading = let b = ap length p.read in let n = length_batch f p.fine in omega arith

  pub passed_size : 84 ≤ length f
  passed_size = checked_size f (record_of f) (fine_checked f p.fine)

-- a small file has few edges: each has a log number
pub small_enough : (f : List ℕ) (room : ℕ) → length f ≤ longest → batch_room ≤ room → BatchRoom f room
small_enough f room small big e =
    let opens = checked_opened f (record_of f) (fine_checked f e) in
    let h = opened_holds f (record_of f) opens in
    let l = length_part f (record_of f).logs.start ((record_of f).logs.start + (record_of f).logs.len) h.logs in
    let b = h.logbytes in
    omega arith
