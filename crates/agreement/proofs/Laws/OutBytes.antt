-- The bytes that a read-out leaves: they are a batch without fault, and its edges are the file's.
use Rattle.std.specs.Prelude.{◌≡◌, Bool, true, false, ◌&&◌, ◌||◌, length, get_or, ltb, leb, Ok, Err}
use Rattle.std.proofs.Math.Path.{refl, ap, ap₂}
use Rattle.std.proofs.Common.{sym, ◌∙◌, zero-add, length-append, eq-eqb, lt-ltb, le-leb, leb-true}
use Prim.Native.Nat.{ℕ, zero, suc, ◌+◌, ◌-◌, ◌*◌, ◌/◌, ◌^◌, ◌≤◌, ◌<◌}
use native.Mathlib.Omega.{arith}
use mathlib.Core.List.{List, [], ◌∷◌, ◌++◌, append_assoc, append-nil}
use Rattle.std.proofs.Math.Seq.{append_snoc, get_or-append_seam}
use Rattle.std.proofs.Math.Dec.{eqb}
use Rattle.base.specs.Pick.{pick}
use Rattle.base.specs.Bytes.{Bytes, bytes_part}
use Rattle.codes.specs.declared.ids.Id.{Id}
use Rattle.codes.specs.Little.{le_at, le_bytes}
use Rattle.codes.specs.Little.Laws.{le_at_back, le_at_lt}
use Rattle.codes.specs.Ids.{halves_at, id_number, id_bytes}
use Rattle.codes.specs.Ids.Laws.{be_at_lt, halves_back, length_id_bytes, number_halves}
use Rattle.refusal.specs.declared.Refusal.{Refusal}
use Rattle.refusal.proofs.Laws.Check.{fine_pick, and_parts, and_both}
use Rattle.index.specs.Order.{KeysRise}
use Rattle.frame.specs.Frame.{record_of}
use Rattle.frame.specs.Open.{known_of, bytes_at, key_at, offset_at}
use Rattle.frame.proofs.Laws.Cases.{one_edge}
use Rattle.degrees.specs.Degrees.{group_at}
use Rattle.group.specs.Group.{Decoded, good, bad, partners_of}
use Rattle.group.proofs.Laws.Group.{good_is}
use Rattle.group.proofs.Laws.Good as group
use Rattle.group.specs.Written.{Halves, Above}
use Rattle.batch.specs.declared.Edge.{Edge}
use Rattle.batch.specs.Batch.{Heading, before, in_order, is_edge, fault_from, headed, batch_check, kind_of, edge_at, edges_at, edges_of, place, heading_bytes, edge_bytes, records_of, batch_bytes}
use Rattle.batch.specs.Batch.Laws.{edge_is, length_edge, length_records, records_none}
use Rattle.full_check.specs.Full.{group_in, groups_from, full_check, checked_of}
use Rattle.full_check.specs.Checked.{checked_opened, fine_checked}
use Rattle.reader.proofs.Laws.Opened.{opened_keys}
use Rattle.frame.specs.declared.Range.{Range}
use Rattle.frame.specs.declared.Opened.{Opened}
use Rattle.readout.specs.Edges.{edge_of, edges_from, key_degree, key_edges, read_from}
use Rattle.readout.specs.Edges.{edges_in}
use Rattle.readout.specs.ReadOut.{heading_in, batch_in}
use Rattle.readout.specs.ReadOut.Laws.{checked_edges, checked_size, length_heading}
use Rattle.readout.specs.Cases.{cases_pass}
use Rattle.agreement.specs.SameEdges.{edges_of_file}
use Rattle.agreement.proofs.Laws.SameEdges.{each_good}
use Rattle.agreement.specs.OutBytes.{EdgeFits, EdgesFit, byted, Chain}

kind_dead : (b : Bool) → eqb (kind_of b) 2 ≡ b
kind_dead true = refl
kind_dead false = refl

module _ (p q : List ℕ) (e : Edge) (h : EdgeFits e) where
  abbrev key : List ℕ
  key = id_bytes e.key

  abbrev partner : List ℕ
  partner = id_bytes e.partner

  abbrev log : List ℕ
  log = le_bytes 8 e.log

  abbrev s : List ℕ
  s = p ++ (edge_bytes e ++ q)

  abbrev k : ℕ
  k = kind_of e.dead

  -- the record's parts, one after the other
  parts : s ≡ p ++ (k ∷ (key ++ (partner ++ (log ++ q))))
  parts =
      ap (λ (t : List ℕ). p ++ (t ++ q)) (edge_is e)
      ∙ ap (λ (t : List ℕ). p ++ (k ∷ t)) (append_assoc key (partner ++ log) q ∙ ap (λ (t : List ℕ). key ++ t) (append_assoc partner log q))

  key_at_lem : s ≡ (p ++ (k ∷ [])) ++ (key ++ (partner ++ (log ++ q)))
  key_at_lem = parts ∙ sym (append_snoc p k (key ++ (partner ++ (log ++ q))))

  partner_at : s ≡ ((p ++ (k ∷ [])) ++ key) ++ (partner ++ (log ++ q))
  partner_at = key_at_lem ∙ sym (append_assoc (p ++ (k ∷ [])) key (partner ++ (log ++ q)))

  log_at : s ≡ (((p ++ (k ∷ [])) ++ key) ++ partner) ++ (log ++ q)
  log_at = partner_at ∙ sym (append_assoc ((p ++ (k ∷ [])) ++ key) partner (log ++ q))

  l1 : length (p ++ (k ∷ [])) ≡ length p + 1
  l1 = length-append p (k ∷ [])

  l17 : length ((p ++ (k ∷ [])) ++ key) ≡ length p + 17
  l17 = length-append (p ++ (k ∷ [])) key ∙ omega (arith, l1, length_id_bytes e.key)

  l33 : length (((p ++ (k ∷ [])) ++ key) ++ partner) ≡ length p + 33
  l33 = length-append ((p ++ (k ∷ [])) ++ key) partner ∙ omega (arith, l17, length_id_bytes e.partner)

  record_back : edge_at s (length p) ≡ e
  unfolding edge_at
  record_back = λ i. record {
    key = (ap₂ halves_at key_at_lem (sym l1) ∙ halves_back (p ++ (k ∷ [])) (partner ++ (log ++ q)) e.key h.key_hi h.key_lo) i;
    partner = (ap₂ halves_at partner_at (sym l17) ∙ halves_back ((p ++ (k ∷ [])) ++ key) (log ++ q) e.partner h.partner_hi h.partner_lo) i;
    log = (ap₂ (λ (t : List ℕ) (j : ℕ). le_at t j 8) log_at (sym l33) ∙ le_at_back 8 (((p ++ (k ∷ [])) ++ key) ++ partner) q e.log h.log) i;
    dead = (ap (λ (t : List ℕ). eqb (get_or t (length p) 0) 2) parts ∙ ap (λ (t : ℕ). eqb t 2) (get_or-append_seam p k (key ++ (partner ++ (log ++ q))) 0) ∙ kind_dead e.dead) i;
  }

-- all of them, after p
records_back : (es : List Edge) (s p q : List ℕ) (i : ℕ) → s ≡ p ++ (records_of es ++ q) → length p ≡ place i → EdgesFit es → edges_at (length es) s i ≡ es
unfolding edges_at records_of EdgesFit
records_back [] s p q i e l f = refl
records_back (x ∷ es) s p q i e l f =
    let here : s ≡ p ++ (edge_bytes x ++ (records_of es ++ q)) = e ∙ ap (λ (t : List ℕ). p ++ t) (append_assoc (edge_bytes x) (records_of es) q) in
    let next : s ≡ (p ++ edge_bytes x) ++ (records_of es ++ q) = here ∙ sym (append_assoc p (edge_bytes x) (records_of es ++ q)) in
    let long : length (p ++ edge_bytes x) ≡ place (i + 1) = length-append p (edge_bytes x) ∙ omega (arith, length_edge x) in
    ap₂ (λ (u : Edge) (v : List Edge). u ∷ v) (ap₂ edge_at here (sym l) ∙ record_back p (records_of es ++ q) x f.0) (records_back es s (p ++ edge_bytes x) q (i + 1) next long f.1)

pub edges_of_batch : (h : Heading) (es : List Edge) → length (heading_bytes h) ≡ 50 → EdgesFit es → edges_of (batch_bytes h es) ≡ es
unfolding edges_of batch_bytes
edges_of_batch h es l f =
    let s : List ℕ = heading_bytes h ++ records_of es in
    let long : length s ≡ 50 + 41 * length es = length-append (heading_bytes h) (records_of es) ∙ omega (arith, length_records es) in
    let count : (length s - 50) / 41 ≡ length es = omega arith in
    ap (λ (n : ℕ). edges_at n s 0) count
    ∙ records_back es s (heading_bytes h) [] 0 (ap (λ (t : List ℕ). heading_bytes h ++ t) (sym (append-nil (records_of es)))) l f

pub bytes_are : (s : List ℕ) → byted s ≡ true → Bytes s
unfolding byted
bytes_are [] e j = omega arith
bytes_are (x ∷ xs) e zero = let h = leb-true x 255 (and_parts (leb x 255) (byted xs) e).0 in omega arith
bytes_are (x ∷ xs) e (suc j) = bytes_are xs (and_parts (leb x 255) (byted xs) e).1 j

fit_append : (xs ys : List Edge) → EdgesFit xs → EdgesFit ys → EdgesFit (xs ++ ys)
unfolding EdgesFit
fit_append [] ys a b = b
fit_append (x ∷ xs) ys a b = (a.0, fit_append xs ys a.1 b)

module _ (keys p o : List ℕ) (w : ℕ) (logs dead : List ℕ) (bk : Bytes keys) (bp : Bytes p) (bl : Bytes logs) where
  run_fits : (k : Id) → k.hi < 2 ^ 64 → k.lo < 2 ^ 64 → (ps : List Id) (e : ℕ) → Halves ps → EdgesFit (edges_from logs dead k e ps)
  unfolding EdgesFit edges_from Halves
  run_fits k a b [] e h = tt
  run_fits k a b (q ∷ ps) e h =
      (record { key_hi = a; key_lo = b; partner_hi = h.0; partner_lo = h.1; log = le_at_lt logs bl (8 * e) 8 }, run_fits k a b ps (e + 1) h.2)

  group_halves : (i : ℕ) → Halves (partners_of (group_in p o w i))
  unfolding partners_of Halves
  group_halves i = go (group_in p o w i) refl
    where
      go : (x : Decoded) → group_in p o w i ≡ x → Halves (partners_of x)
      go (good dense ps) q = group.partners_halves (group_at p o w i) dense ps q (bytes_part p bp (offset_at o w i) (offset_at o w (i + 1)))
      go (bad f) q = tt

  read_fits : (d i e : ℕ) → EdgesFit (read_from keys p o w logs dead d i e)
  unfolding read_from EdgesFit halves_at
  read_fits zero i e = tt
  read_fits (suc d) i e =
      fit_append (key_edges keys p o w logs dead i e) _
      (run_fits (halves_at keys (i * 16)) (be_at_lt keys bk (i * 16) 8) (be_at_lt keys bk (i * 16 + 8) 8) (partners_of (group_in p o w i)) e (group_halves i))
      (read_fits d (i + 1) (e + key_degree keys p o w logs dead i))

-- the first of them has a key above k
unfoldable HeadAbove : ℕ → List Edge → Type 0
HeadAbove k [] = Unit {0}
HeadAbove k (e ∷ es) = k < id_number e.key

by_key : (x y : Edge) → id_number x.key < id_number y.key → before x y ≡ true
unfolding before
by_key x y h = ap (λ (b : Bool). b || (eqb (id_number x.key) (id_number y.key) && ltb (id_number x.partner) (id_number y.partner))) (lt-ltb _ _ h)

by_partner : (x y : Edge) → id_number x.key ≡ id_number y.key → id_number x.partner < id_number y.partner → before x y ≡ true
unfolding before
by_partner x y e h =
    ap₂ (λ (b c : Bool). ltb (id_number x.key) (id_number y.key) || (b && c)) (eq-eqb _ _ e) (lt-ltb _ _ h) ∙ or_true (ltb (id_number x.key) (id_number y.key))
  where
    or_true : (b : Bool) → (b || true) ≡ true
    or_true true = refl
    or_true false = refl

-- an edge before edges of a greater key
chain_cons : (x : Edge) (rest : List Edge) → HeadAbove (id_number x.key) rest → Chain rest → Chain (x ∷ rest)
unfolding Chain HeadAbove
chain_cons x [] h c = tt
chain_cons x (y ∷ rest) h c = (by_key x y h, c)

-- the edges of one key, and then those of greater keys
chain_run : (logs dead : List ℕ) (k : Id) (ps : List Id) (floor e : ℕ) (rest : List Edge) → Above floor ps → HeadAbove (id_number k) rest → Chain rest
    → Chain (edges_from logs dead k e ps ++ rest)
unfolding edges_from Above Chain
chain_run logs dead k [] floor e rest a h c = c
chain_run logs dead k (p ∷ []) floor e rest a h c = chain_cons (edge_of logs dead k p e) rest h c
chain_run logs dead k (p ∷ q ∷ ps) floor e rest a h c = chain_more (chain_run logs dead k (q ∷ ps) (suc (id_number p)) (e + 1) rest a.1 h c)
  where
    chain_more : Chain (edges_from logs dead k (e + 1) (q ∷ ps) ++ rest) → Chain (edges_from logs dead k e (p ∷ q ∷ ps) ++ rest)
    chain_more t = linked (edge_of logs dead k p e) (edge_of logs dead k q (e + 1)) (edges_from logs dead k (e + 1 + 1) ps ++ rest) (by_partner (edge_of logs dead k p e) (edge_of logs dead k q (e + 1)) refl a.1.0) t
      where
        linked : (x y : Edge) (es : List Edge) → before x y ≡ true → Chain (y ∷ es) → Chain (x ∷ y ∷ es)
        linked x y es b t = (b, t)

module _ (keys p o : List ℕ) (w : ℕ) (logs dead : List ℕ) (n : ℕ) (rise : KeysRise keys n) (ok : groups_from p o w n 0 ≡ (Ok tt)) where
  -- the partners of a key: some, and rising
  partners_some : (i : ℕ) → i < n → (1 ≤ length (partners_of (group_in p o w i))) × Above 0 (partners_of (group_in p o w i))
  partners_some i h =
      let (dense, is) = good_is (group_in p o w i) (each_good keys p o w logs dead n 0 ok i (omega arith) (omega arith)) in
      ((group.degree_is (group_at p o w i) dense (partners_of (group_in p o w i)) is).0, group.partners_rise (group_at p o w i) dense (partners_of (group_in p o w i)) is)

  -- the first edge from key i on is of key i
  head_run : (k m e : ℕ) (ps : List Id) (rest : List Edge) → 1 ≤ length ps → k < key_at keys m → HeadAbove k (edges_from logs dead (halves_at keys (m * 16)) e ps ++ rest)
  unfolding HeadAbove edges_from
  head_run k m e [] rest some h = absurd (omega arith)
  head_run k m e (q ∷ ps) rest some h = let z = number_halves keys (m * 16) in omega arith

  head_read : (d i e k : ℕ) → i + d ≡ n → (0 < d → k < key_at keys i) → HeadAbove k (read_from keys p o w logs dead d i e)
  unfolding read_from HeadAbove
  head_read zero i e k q h = tt
  head_read (suc d) i e k q h = head_run k i e (partners_of (group_in p o w i)) _ (partners_some i (omega arith)).0 (h (omega arith))

  read_chain : (d i e : ℕ) → i + d ≡ n → Chain (read_from keys p o w logs dead d i e)
  unfolding read_from Chain
  read_chain zero i e q = tt
  read_chain (suc d) i e q =
      let next : ℕ = e + key_degree keys p o w logs dead i in
      let number = number_halves keys (i * 16) in
      let above = head_read d (i + 1) next (id_number (halves_at keys (i * 16))) (omega arith) (λ h. let up = rise i (i + 1) (omega arith) (omega arith) in omega arith) in
      chain_run logs dead (halves_at keys (i * 16)) (partners_of (group_in p o w i)) 0 e (read_from keys p o w logs dead d (i + 1) next) (partners_some i (omega arith)).1 above (read_chain d (i + 1) next (omega arith))

-- ---- a batch of edges that fit and are in order has no fault

order_suc : (s : List ℕ) (i : ℕ) → in_order s (suc i) ≡ before (edge_at s (place i)) (edge_at s (place (suc i)))
unfolding in_order
order_suc s i = refl

kind_edge : (b : Bool) → is_edge (kind_of b) ≡ true
kind_edge true = refl
kind_edge false = refl

-- the record at p's end: its kind, and its edge
module _ (x : Edge) (es : List Edge) (s p : List ℕ) (i : ℕ) (e : s ≡ p ++ records_of (x ∷ es)) (l : length p ≡ place i) (f : EdgeFits x) where
  here : s ≡ p ++ (edge_bytes x ++ records_of es)
  unfolding records_of
  here = e

  kind_here : is_edge (get_or s (place i) 0) ≡ true
  unfolding edge_bytes
  kind_here =
      ap₂ (λ (t : List ℕ) (j : ℕ). is_edge (get_or t j 0)) here (sym l) ∙ ap is_edge (get_or-append_seam p (kind_of x.dead) _ 0) ∙ kind_edge x.dead

  edge_here : edge_at s (place i) ≡ x
  edge_here = ap₂ edge_at here (sym l) ∙ record_back p (records_of es) x f

  after : s ≡ (p ++ edge_bytes x) ++ records_of es
  after = here ∙ sym (append_assoc p (edge_bytes x) (records_of es))

  after_long : length (p ++ edge_bytes x) ≡ place (i + 1)
  after_long = length-append p (edge_bytes x) ∙ omega (arith, length_edge x)

records_fine : (es : List Edge) (x : Edge) (s p : List ℕ) (i : ℕ) → edge_at s (place i) ≡ x → Chain (x ∷ es) → EdgesFit es → s ≡ p ++ records_of es → length p ≡ place (i + 1)
    → fault_from (length es) s (i + 1) ≡ (Ok tt)
unfolding fault_from Chain EdgesFit
records_fine [] x s p i prev c f e l = ap (λ (b : Bool). pick b (Ok tt) (Err (Refusal.Batch (place (i + 1))))) (eq-eqb (place (i + 1)) (length s) (sym (end_long s p e ∙ l)))
  where
    end_long : (s p : List ℕ) → s ≡ p ++ records_of [] → length s ≡ length p
    end_long s p e = ap length (e ∙ ap (λ (t : List ℕ). p ++ t) records_none ∙ append-nil p)
records_fine (y ∷ es) x s p i prev c f e l =
    let one : i + 1 ≡ suc i = omega arith in
    let ordered : in_order s (i + 1) ≡ true = order_at s i x y one prev (edge_here y es s p (i + 1) e l f.0) c.0 in
    fine_pick _ (kind_here y es s p (i + 1) e l f.0)
    (fine_pick _ ordered
    (records_fine es y s (p ++ edge_bytes y) (i + 1) (edge_here y es s p (i + 1) e l f.0) c.1 f.1 (after y es s p (i + 1) e l f.0) (after_long y es s p (i + 1) e l f.0)))
  where
    order_at : (s : List ℕ) (i : ℕ) (x y : Edge) → i + 1 ≡ suc i → edge_at s (place i) ≡ x → edge_at s (place (i + 1)) ≡ y → before x y ≡ true → in_order s (i + 1) ≡ true
    order_at s i x y one a b h = ap (in_order s) one ∙ order_suc s i ∙ ap₂ before a (ap (λ (t : ℕ). edge_at s (place t)) (sym one) ∙ b) ∙ h

none_fine : (s : List ℕ) → length s ≡ 50 → fault_from 0 s 0 ≡ (Ok tt)
unfolding fault_from
none_fine s l = ap (λ (b : Bool). pick b (Ok tt) (Err (Refusal.Batch (place 0)))) (eq-eqb (place 0) (length s) (sym l))

first_fine : (x : Edge) (es : List Edge) (s p : List ℕ) → s ≡ p ++ records_of (x ∷ es) → length p ≡ place 0 → EdgesFit (x ∷ es) → Chain (x ∷ es) → fault_from (suc (length es)) s 0 ≡ (Ok tt)
unfolding fault_from EdgesFit in_order
first_fine x es s p e l f c =
    fine_pick _ (kind_here x es s p 0 e l f.0)
    (records_fine es x s (p ++ edge_bytes x) 0 (edge_here x es s p 0 e l f.0) c f.1 (after x es s p 0 e l f.0) (after_long x es s p 0 e l f.0))

-- a heading of 50 bytes, direction 0 or 1, and such edges
batch_fine : (h : Heading) (es : List Edge) → length (heading_bytes h) ≡ 50 → h.direction ≤ 1 → EdgesFit es → Chain es → batch_check (batch_bytes h es) ≡ (Ok tt)
unfolding batch_check headed batch_bytes heading_bytes
batch_fine h es l way f c =
    let s : List ℕ = heading_bytes h ++ records_of es in
    let long : length s ≡ 50 + 41 * length es = length-append (heading_bytes h) (records_of es) ∙ omega (arith, length_records es) in
    let count : (length s - 50) / 41 ≡ length es = omega arith in
    fine_pick _ (and_both (le-leb 50 (length s) (omega arith)) (le-leb h.direction 1 way)) (ap (λ (n : ℕ). fault_from n s 0) count ∙ first es f c)
  where
    first : (es : List Edge) → EdgesFit es → Chain es → fault_from (length es) (heading_bytes h ++ records_of es) 0 ≡ (Ok tt)
    first [] f c = none_fine (heading_bytes h ++ records_of []) (length-append (heading_bytes h) (records_of []) ∙ omega (arith, l, ap length records_none))
    first (x ∷ es) f c = first_fine x es (heading_bytes h ++ records_of (x ∷ es)) (heading_bytes h) refl l f c

-- all edges of a file that the full check passes
module _ (f : List ℕ) (bytes : Bytes f) (pass : full_check f ≡ (Ok tt)) where
  abbrev o : Opened
  o = record_of f

  checked : checked_of f ≡ Ok o
  checked = fine_checked f pass

  bytes_in_lem : (r : Range) → Bytes (bytes_at f r)
  bytes_in_lem r = bytes_part f bytes r.start (r.start + r.len)

  -- their numbers fit in 64 bits
  pub fits : EdgesFit (edges_of_file f)
  unfolding edges_in known_of
  fits =
      read_fits (bytes_at f o.keys) (bytes_at f o.partners) (bytes_at f o.offsets) (o.bits / 8) (bytes_at f o.logs) (pick o.marked (bytes_at f o.dead) [])
      (bytes_in_lem o.keys) (bytes_in_lem o.partners) (bytes_in_lem o.logs) o.keycount 0 0

  chain : Chain (edges_of_file f)
  unfolding edges_in known_of
  chain =
      read_chain (bytes_at f o.keys) (bytes_at f o.partners) (bytes_at f o.offsets) (o.bits / 8) (bytes_at f o.logs) (pick o.marked (bytes_at f o.dead) []) o.keycount
      (opened_keys f o (checked_opened f o checked)) (checked_edges f o checked).0 o.keycount 0 0 (zero-add o.keycount)

  long : length (heading_bytes (heading_in f)) ≡ 50
  long = length_heading f (omega (arith, checked_size f o checked))

  -- the edges of the batch that the read-out leaves are the file's
  pub out_edges : edges_of (batch_in f) ≡ edges_of_file f
  unfolding batch_in
  out_edges = edges_of_batch (heading_in f) (edges_of_file f) long fits

  -- and has no fault; the writer takes it where it is within the bounds (26 is possible: a file that passes may be smaller than ours)
  pub out_fine : batch_check (batch_in f) ≡ (Ok tt)
  unfolding batch_in heading_in
  out_fine = batch_fine (heading_in f) (edges_of_file f) long (omega arith) fits chain

-- as the file of one edge, whose checksums have bytes of every size
pub one_edge_out : (edges_of (batch_in one_edge) ≡ edges_of_file one_edge) × (batch_check (batch_in one_edge) ≡ (Ok tt))
unfolding byted one_edge
one_edge_out = (out_edges one_edge (bytes_are one_edge refl) cases_pass.1, out_fine one_edge (bytes_are one_edge refl) cases_pass.1)
