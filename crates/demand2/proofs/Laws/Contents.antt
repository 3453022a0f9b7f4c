-- The contents of the writer's sections, read: keys, offsets, groups, edges. In each statement the groups are split, all ≡ gs ++
-- g ∷ hs, and the number of g is the length of gs.
use Rattle.std.specs.Prelude.{◌≡◌, ℕ, zero, suc, ◌+◌, ◌-◌, ◌*◌, ◌/◌, ◌%◌, ◌^◌, ◌≤◌, ◌<◌, Bool, true, false, not, ◌||◌, get_or, eqb, Ok, Err}
use Rattle.std.proofs.Math.Path.{refl, sym, ap, ap₂}
use Rattle.std.proofs.Common.{◌∙◌, zero-add, arith, lt-ltb, eq-eqb}
use Rattle.std.proofs.Math.Nat.{zero-div}
use mathlib.Core.List.{List, [], ◌∷◌, ◌++◌, append-nil}
use Rattle.std.proofs.Math.ListN.{length, length-append}
use Rattle.std.proofs.Math.Seq.{append_snoc}
use Rattle.batch.specs.Batch.{partners_in, logs_in, marks_in}
use Rattle.base.specs.Pick.{pick}
use Rattle.base.specs.Over.{part, part_mid}
use Rattle.codes.specs.declared.ids.Id.{Id}
use Rattle.codes.specs.Little.{le_at}
use Rattle.codes.specs.Ids.{halves_at, id_number}
use Rattle.codes.specs.Ids.Laws.{number_halves}
use Rattle.refusal.specs.declared.Refusal.{Refusal}
use Rattle.refusal.proofs.Laws.Check.{fine_both, fine_pick}
use Rattle.frame.specs.Open.{key_at, keys_from, offset_at, start_at}
use Rattle.group.specs.Group.{good, group_of, partners_of, bytes_of}
use Rattle.group.proofs.Laws.Group.{partners_good}
use Rattle.group.proofs.Laws.Written.{written_back}
use Rattle.lookup.specs.Lookup.{group_check, mark_at}
use Rattle.batch.specs.declared.Edge.{Edge}
use Rattle.batch_groups.specs.Groups.{any_dead, Group, flat, IdFits, Run, Grouped}
use Rattle.batch_groups.proofs.Laws.Groups.{flat_append}
use Rattle.write_image.specs.Image.{keys_in, is_dense, bytes_in, any_dense, key_bytes, partner_bytes, offsets_from, offset_bytes, log_bytes, tomb_bytes, start_bytes}
use Rattle.write_image.specs.Image.Laws.{length_partners, run_partners, group_is, group_some, length_keys_in, numbers_at, start_is}
use Rattle.full_check.specs.Full.{dense_of, group_in, groups_from, degrees_from, dense_from, stray_from}
use Rattle.readout.specs.Edges.{edges_from, key_edges, read_from}
use Rattle.demand2.proofs.Laws.Rows.{ids_mid, partners_append, length_offsets_from, offsets_at, keys_append, marks_at, logs_at, length_logs_in, mark_at_lem, bit_is, none_dead}

-- ---- where groups lie

module _ (all : List Group) (w : ℕ) (small : length (partner_bytes (length all) all) < 2 ^ (8 * w)) where
  abbrev n : ℕ
  n = length all

  abbrev offsets : List ℕ
  offsets = offset_bytes w n 0 all

  abbrev partners : List ℕ
  partners = partner_bytes n all

  pub offset_is : (gs hs : List Group) → all ≡ gs ++ hs → offset_at offsets w (length gs) ≡ length (partner_bytes n gs)
  offset_is gs hs e =
      let v : get_or (offsets_from n 0 all) (length gs) 0 ≡ length (partner_bytes n gs) = ap (λ (t : List Group). get_or (offsets_from n 0 t) (length gs) 0) e ∙ offsets_at n 0 gs hs ∙ zero-add _ in
      let l : length (partner_bytes n all) ≡ length (partner_bytes n gs) + length (partner_bytes n hs) =
      ap (λ (t : List Group). length (partner_bytes n t)) e ∙ ap length (partners_append n gs hs) ∙ length-append (partner_bytes n gs) (partner_bytes n hs) in
      let m : length all ≡ length gs + length hs = ap length e ∙ length-append gs hs in
      let c = length_offsets_from n 0 all in
      numbers_at w (offsets_from n 0 all) (length gs) (omega arith) (rw v (omega arith)) ∙ v

  module _ (gs : List Group) (g : Group) (hs : List Group) (e : all ≡ gs ++ g ∷ hs) where
    abbrev bytes : List ℕ
    bytes = bytes_in n g

    next : all ≡ (gs ++ (g ∷ [])) ++ hs
    next = e ∙ sym (append_snoc gs g hs)

    count : length (gs ++ (g ∷ [])) ≡ length gs + 1
    count = length-append gs (g ∷ [])

    -- it ends where the next one begins
    offset_next : offset_at offsets w (length gs + 1) ≡ length (partner_bytes n gs) + length bytes
    unfolding partner_bytes
    offset_next =
        ap (offset_at offsets w) (sym count) ∙ offset_is (gs ++ (g ∷ [])) hs next ∙ ap length (partners_append n gs (g ∷ [])) ∙ length-append (partner_bytes n gs) (bytes ++ [])
        ∙ ap (λ (t : List ℕ). length (partner_bytes n gs) + length t) (append-nil bytes)

    pub offset_rises : offset_at offsets w (length gs) < offset_at offsets w (length gs + 1)
    offset_rises = omega (arith, offset_is gs (g ∷ hs) e, offset_next, group_some n (partners_in g.edges))

    -- its bytes
    range_is : part partners (offset_at offsets w (length gs)) (offset_at offsets w (length gs + 1)) ≡ bytes
    unfolding partner_bytes
    range_is =
        let t : partners ≡ partner_bytes n gs ++ (bytes ++ partner_bytes n hs) = ap (partner_bytes n) e ∙ partners_append n gs (g ∷ hs) in
        ap (λ (u : List ℕ). part u (offset_at offsets w (length gs)) (offset_at offsets w (length gs + 1))) t
        ∙ part_mid (partner_bytes n gs) bytes (partner_bytes n hs) _ _ (offset_is gs (g ∷ hs) e) offset_next

    pub group_back : Run g.key 0 g.edges → (length g.edges ≡ 0 → ⊥) → length g.edges < 2 ^ 64
        → group_in partners offsets w (length gs) ≡ good (is_dense n (partners_in g.edges)) (partners_in g.edges)
    group_back r some fits =
        let ps : List Id = partners_in g.edges in
        let len = length_partners g.edges in
        let h = run_partners g.key 0 g.edges r in
        let full : length g.edges ≡ 0 → ⊥ = some in
        ap group_of (range_is ∙ group_is n ps) ∙ written_back ps (positive (length ps) (λ z. some (sym len ∙ z))) (omega arith) h.0 h.1 (is_dense n ps)
      where
        positive : (m : ℕ) → (m ≡ 0 → ⊥) → 1 ≤ m
        positive zero z = absurd (z refl)
        positive (suc m) z = omega arith

  pub offset_first : offset_at offsets w 0 ≡ 0
  unfolding partner_bytes
  offset_first = offset_is [] all refl

  pub offset_last : offset_at offsets w n ≡ length partners
  offset_last = offset_is all [] (sym (append-nil all))

-- ---- keys

pub key_back : (all gs : List Group) (g : Group) (hs : List Group) → all ≡ gs ++ g ∷ hs → IdFits g.key → halves_at (key_bytes all) (length gs * 16) ≡ g.key
unfolding keys_in
key_back all gs g hs e f =
    let k : keys_in all ≡ keys_in gs ++ g.key ∷ keys_in hs = ap keys_in e ∙ keys_append gs (g ∷ hs) in
    ap (λ (t : List Id). halves_at (bytes_of t) (length gs * 16)) k
    ∙ ap (λ (t : ℕ). halves_at (bytes_of (keys_in gs ++ g.key ∷ keys_in hs)) (t * 16)) (sym (length_keys_in gs)) ∙ ids_mid (keys_in gs) g.key (keys_in hs) f

pub group_key : (all gs : List Group) (g : Group) (hs : List Group) → all ≡ gs ++ g ∷ hs → IdFits g.key → key_at (key_bytes all) (length gs) ≡ id_number g.key
group_key all gs g hs e f = sym (number_halves (key_bytes all) (length gs * 16)) ∙ ap id_number (key_back all gs g hs e f)

-- each key is above the one before: the groups hs after g, which comes after gs
keys_rise : (all : List Group) (hs gs : List Group) (g : Group) (floor : ℕ) → all ≡ gs ++ g ∷ hs → Grouped floor (g ∷ hs) → keys_from (length hs) (key_bytes all) (length gs + 1) ≡ (Ok tt)
unfolding keys_from Grouped
keys_rise all [] gs g floor e o = refl
keys_rise all (h ∷ hs) gs g floor e o =
    let e' : all ≡ (gs ++ (g ∷ [])) ++ h ∷ hs = e ∙ sym (append_snoc gs g (h ∷ hs)) in
    let i : length (gs ++ (g ∷ [])) ≡ length gs + 1 = length-append gs (g ∷ []) in
    let back : length gs + 1 - 1 ≡ length gs = omega arith in
    let a : key_at (key_bytes all) (length gs + 1 - 1) ≡ id_number g.key = ap (key_at (key_bytes all)) back ∙ group_key all gs g (h ∷ hs) e o.1 in
    let b : key_at (key_bytes all) (length gs + 1) ≡ id_number h.key = ap (key_at (key_bytes all)) (sym i) ∙ group_key all (gs ++ (g ∷ [])) h hs e' o.4.1 in
    let low = o.4.0 in
    let up : key_at (key_bytes all) (length gs + 1 - 1) < key_at (key_bytes all) (length gs + 1) = omega arith in
    let ih = keys_rise all hs (gs ++ (g ∷ [])) h (suc (id_number g.key)) e' o.4 in
    let next : length (gs ++ (g ∷ [])) + 1 ≡ length gs + 1 + 1 = omega arith in
    fine_pick (Err (Refusal.Key (length gs + 1))) (lt-ltb (key_at (key_bytes all) (length gs + 1 - 1)) (key_at (key_bytes all) (length gs + 1)) up) (ap (keys_from (length hs) (key_bytes all)) (sym next) ∙ ih)

pub keys_fine : (all : List Group) → Grouped 0 all → keys_from (length all - 1) (key_bytes all) 1 ≡ (Ok tt)
unfolding keys_from
keys_fine [] o = refl
keys_fine (g ∷ hs) o =
    let z : suc (length hs) - 1 ≡ length hs = omega arith in
    ap (λ (t : ℕ). keys_from t (key_bytes (g ∷ hs)) 1) z ∙ keys_rise (g ∷ hs) hs [] g 0 refl o

-- ---- edges: log numbers and dead marks

module _ (es : List Edge) where
  -- no tombstones where no edge is dead
  abbrev pub tombs : List ℕ
  tombs = pick (any_dead es) (tomb_bytes es) []

  pub mark_is : (e : ℕ) → e < 8 * ((length es + 7) / 8) → eqb (mark_at tombs e) 1 ≡ get_or (marks_in es) e false
  mark_is e h = go (any_dead es) refl
    where
      go : (b : Bool) → any_dead es ≡ b → eqb (mark_at (pick b (tomb_bytes es) []) e) 1 ≡ get_or (marks_in es) e false
      go true q = ap (λ (t : ℕ). eqb t 1) (mark_at_lem ((length es + 7) / 8) (marks_in es) e h) ∙ bit_is (get_or (marks_in es) e false)
      go false q = ap (λ (t : ℕ). eqb (t % 2) 1) (zero-div (2 ^ (e % 8))) ∙ sym (none_dead es e q)

  module _ (xs : List Edge) (x : Edge) (ys : List Edge) (e : es ≡ xs ++ x ∷ ys) where
    inside : length xs < length es
    inside = omega (arith, ap length e ∙ length-append xs (x ∷ ys))

    log_is : x.log < 2 ^ 64 → le_at (log_bytes es) (8 * length xs) 8 ≡ x.log
    log_is b =
        let v : get_or (logs_in es) (length xs) 0 ≡ x.log = ap (λ (t : List Edge). get_or (logs_in t) (length xs) 0) e ∙ logs_at xs x ys in
        let c : 8 * length xs ≡ length xs * 8 = omega arith in
        let l = length_logs_in es in
        let lt = inside in
        ap (λ (t : ℕ). le_at (log_bytes es) t 8) c ∙ numbers_at 8 (logs_in es) (length xs) (omega arith) (rw v b) ∙ v

    dead_is : eqb (mark_at tombs (length xs)) 1 ≡ x.dead
    dead_is = let lt = inside in mark_is (length xs) (omega arith) ∙ ap (λ (t : List Edge). get_or (marks_in t) (length xs) false) e ∙ marks_at xs x ys

  -- a run of edges of one key, after xs
  pub run_back : (k : Id) (run : List Edge) (floor : ℕ) (xs ys : List Edge) → es ≡ xs ++ (run ++ ys) → Run k floor run
      → edges_from (log_bytes es) tombs k (length xs) (partners_in run) ≡ run
  unfolding edges_from partners_in Run
  run_back k [] floor xs ys e r = refl
  run_back k (x ∷ run) floor xs ys e r =
      let e' : es ≡ (xs ++ (x ∷ [])) ++ (run ++ ys) = e ∙ sym (append_snoc xs x (run ++ ys)) in
      let i : length (xs ++ (x ∷ [])) ≡ length xs + 1 = length-append xs (x ∷ []) in
      let ih : edges_from (log_bytes es) tombs k (length xs + 1) (partners_in run) ≡ run =
      ap (λ (t : ℕ). edges_from (log_bytes es) tombs k t (partners_in run)) (sym i) ∙ run_back k run (suc (id_number x.partner)) (xs ++ (x ∷ [])) ys e' r.4 in
      let l = log_is xs x (run ++ ys) e r.2 in
      let d = dead_is xs x (run ++ ys) e in
      (λ j. record { key = sym r.0 j; partner = x.partner; log = l j; dead = d j } ∷ ih j)

-- ---- all groups, after gs

module _ (all : List Group) (w : ℕ) (small : length (partner_bytes (length all) all) < 2 ^ (8 * w)) (es : List Edge) (f : es ≡ flat all) (b : length es < 2 ^ 64) where
  abbrev ps : List ℕ
  ps = partner_bytes (length all) all

  abbrev os : List ℕ
  os = offset_bytes w (length all) 0 all

  pub record Read (gs hs : List Group) : Type 0 where
    pub good : groups_from ps os w (length hs) (length gs) ≡ (Ok tt)
    pub degrees : degrees_from ps os w (length hs) (length gs) ≡ length (flat hs)
    pub dense : dense_from ps os w (length hs) (length gs) ≡ any_dense (length all) hs
    pub edges : read_from (key_bytes all) ps os w (log_bytes es) (tombs es) (length hs) (length gs) (length (flat gs)) ≡ flat hs
    -- the start index says how many edges stand before each
    pub starts : stray_from ps os w (start_bytes all) (length hs) (length gs) (length (flat gs)) ≡ false

  -- one group
  module _ (gs : List Group) (g : Group) (hs : List Group) (e : all ≡ gs ++ g ∷ hs) (r : Run g.key 0 g.edges) (some : length g.edges ≡ 0 → ⊥) (k : IdFits g.key) where
    place : es ≡ flat gs ++ (g.edges ++ flat hs)
    unfolding flat
    place = f ∙ ap flat e ∙ flat_append gs (g ∷ hs)

    few : length g.edges < 2 ^ 64
    few = omega (arith, ap length place ∙ length-append (flat gs) (g.edges ++ flat hs), length-append g.edges (flat hs))

    here : group_in ps os w (length gs) ≡ good (is_dense (length all) (partners_in g.edges)) (partners_in g.edges)
    here = group_back all w small gs g hs e r some few

    found : partners_of (group_in ps os w (length gs)) ≡ partners_in g.edges
    found = ap partners_of here ∙ partners_good _ _

    degree : length (partners_of (group_in ps os w (length gs))) ≡ length g.edges
    degree = ap length found ∙ length_partners g.edges

    fine : group_check (length gs) (group_in ps os w (length gs)) ≡ (Ok tt)
    unfolding group_check
    fine = ap (group_check (length gs)) here

    thick : dense_of (group_in ps os w (length gs)) ≡ is_dense (length all) (partners_in g.edges)
    unfolding dense_of
    thick = ap dense_of here

    edges_here : key_edges (key_bytes all) ps os w (log_bytes es) (tombs es) (length gs) (length (flat gs)) ≡ g.edges
    edges_here =
        ap₂ (λ (x : Id) (y : List Id). edges_from (log_bytes es) (tombs es) x (length (flat gs)) y) (key_back all gs g hs e k) found
        ∙ run_back es g.key g.edges 0 (flat gs) (flat hs) place r

  -- an entry of the start index
  starts_here : (gs hs : List Group) → all ≡ gs ++ hs → not (eqb (start_at (start_bytes all) (length gs)) (length (flat gs))) ≡ false
  starts_here gs hs e = let l = ap length f in ap not (eq-eqb _ _ (start_is all (omega arith) gs hs e))

  pub read_back : (hs gs : List Group) (floor : ℕ) → all ≡ gs ++ hs → Grouped floor hs → Read gs hs
  unfolding groups_from degrees_from dense_from read_from stray_from flat any_dense Grouped
  read_back [] gs floor e o = record { good = refl; degrees = refl; dense = refl; edges = refl; starts = starts_here gs [] e }
  read_back (g ∷ hs) gs floor e o =
      let e' : all ≡ (gs ++ (g ∷ [])) ++ hs = e ∙ sym (append_snoc gs g hs) in
      let i : length (gs ++ (g ∷ [])) ≡ length gs + 1 = length-append gs (g ∷ []) in
      let ih = read_back hs (gs ++ (g ∷ [])) (suc (id_number g.key)) e' o.4 in
      let d = degree gs g hs e o.3 o.2 o.1 in
      let c : length (flat (gs ++ (g ∷ []))) ≡ length (flat gs) + length (partners_of (group_in ps os w (length gs))) =
      ap length (flat_append gs (g ∷ [])) ∙ length-append (flat gs) (g.edges ++ []) ∙ ap (λ (t : ℕ). length (flat gs) + t) (ap length (append-nil g.edges) ∙ sym d) in
      record {
        good = fine_both (fine gs g hs e o.3 o.2 o.1) (ap (groups_from ps os w (length hs)) (sym i) ∙ ih.good);
        degrees = ap₂ (λ (x y : ℕ). x + y) d (ap (degrees_from ps os w (length hs)) (sym i) ∙ ih.degrees) ∙ sym (length-append g.edges (flat hs));
        dense = ap₂ (λ (x y : Bool). x || y) (thick gs g hs e o.3 o.2 o.1) (ap (dense_from ps os w (length hs)) (sym i) ∙ ih.dense);
        edges = ap₂ (λ (x y : List Edge). x ++ y) (edges_here gs g hs e o.3 o.2 o.1)
            (ap₂ (λ (x y : ℕ). read_from (key_bytes all) ps os w (log_bytes es) (tombs es) (length hs) x y) (sym i) (sym c) ∙ ih.edges);
        starts = ap₂ (λ (x y : Bool). x || y) (starts_here gs (g ∷ hs) e) (ap₂ (stray_from ps os w (start_bytes all) (length hs)) (sym i) (sym c) ∙ ih.starts);
      }
