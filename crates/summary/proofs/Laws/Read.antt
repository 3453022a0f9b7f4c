-- The summary of a file's edges, by its sections: what each pass gives is what the edges say.
use Rattle.std.specs.Prelude.{◌≡◌, ℕ, zero, suc, ◌+◌, ◌-◌, ◌*◌, ◌<◌, ◌≤◌, Bool, List, [], ◌∷◌, ◌++◌, length, Ok, Option, Some}
use Rattle.std.proofs.Math.Path.{refl, ap, ap₂}
use Rattle.std.proofs.Common.{sym, ◌∙◌, zero-add, add-zero, lt-ltb, le-ltb}
use native.Mathlib.Omega.{arith}
use Rattle.base.specs.Pick.{pick}
use Rattle.codes.specs.declared.ids.Id.{Id}
use Rattle.codes.specs.Little.{le_at}
use Rattle.codes.specs.Ids.{id_number, halves_at}
use Rattle.codes.specs.Ids.Laws.{number_halves}
use Rattle.frame.specs.Open.{key_at}
use Rattle.index.specs.Order.{KeysRise, key_once}
use Rattle.degrees.specs.Degrees.{group_at}
use Rattle.group.specs.Group.{degree_of, partners_of}
use Rattle.group.proofs.Laws.Group.{good_is}
use Rattle.group.proofs.Laws.Good as group
use Rattle.lookup.specs.Lookup.{logs_from}
use Rattle.batch.specs.declared.Edge.{Edge}
use Rattle.batch.specs.Batch.{logs_in}
use Rattle.batch_groups.specs.Groups.{groups_of}
use Rattle.batch_groups.proofs.Laws.Groups.{SameKey, OtherKey, groups_run}
use Rattle.full_check.specs.Full.{group_in, groups_from, degrees_from}
use Rattle.readout.specs.Edges.{edge_of, edges_from, read_from}
use Rattle.readout.specs.Edges.Laws.{length_edges}
use Rattle.agreement.specs.SameEdges.{of_key}
use Rattle.agreement.proofs.Laws.SameEdges.{mark_is, each_good, one_read}
use Rattle.summary.specs.declared.figures.Extremes.{Extremes}
use Rattle.summary.specs.Summary.{smallest, largest, smallest_key, largest_key, extremes_of, degrees_of, dead_in}
use Rattle.summary.specs.Bits.{count_dead}
use Rattle.summary.specs.Tally.{degree_told, degrees_at, AllTold}
use Rattle.summary.proofs.Laws.Tally.{told_is}

-- ---- the edges of a key, and others after them

module _ (logs dead : List ℕ) (key : Id) where
  abbrev run : ℕ → List Id → List Edge
  run e ps = edges_from logs dead key e ps

  run_logs : (ps : List Id) (e m : ℕ) (others : List Edge) → logs_in others ≡ logs_from m logs (e + length ps) → logs_in (run e ps ++ others) ≡ logs_from (length ps + m) logs e
  unfolding edges_from logs_in logs_from
  run_logs [] e m others h = h ∙ ap₂ (λ (x y : ℕ). logs_from x logs y) (sym (zero-add m)) (add-zero e)
  run_logs (p ∷ ps) e m others h =
      let n : suc (length ps) + m ≡ suc (length ps + m) = omega arith in
      let at : e + suc (length ps) ≡ e + 1 + length ps = omega arith in
      ap (λ (t : List ℕ). le_at logs (8 * e) 8 ∷ t) (run_logs ps (e + 1) m others (h ∙ ap (logs_from m logs) at))
      ∙ ap (λ (t : ℕ). logs_from t logs e) (sym n)

  run_dead : (ps : List Id) (e m : ℕ) (others : List Edge) → dead_in others ≡ count_dead m dead (e + length ps) → dead_in (run e ps ++ others) ≡ count_dead (length ps + m) dead e
  unfolding edges_from dead_in count_dead
  run_dead [] e m others h = h ∙ ap₂ (λ (x y : ℕ). count_dead x dead y) (sym (zero-add m)) (add-zero e)
  run_dead (p ∷ ps) e m others h =
      let n : suc (length ps) + m ≡ suc (length ps + m) = omega arith in
      let at : e + suc (length ps) ≡ e + 1 + length ps = omega arith in
      ap₂ (λ (x y : ℕ). x + y) (mark_is logs dead key _) (run_dead ps (e + 1) m others (h ∙ ap (count_dead m dead) at))
      ∙ ap (λ (t : ℕ). count_dead t dead e) (sym n)

  -- no smaller key comes
  run_smallest : (k : Id) → id_number k ≤ id_number key → (ps : List Id) (e : ℕ) (others : List Edge) → smallest_key k (run e ps ++ others) ≡ smallest_key k others
  unfolding edges_from smallest_key
  run_smallest k h [] e others = refl
  run_smallest k h (p ∷ ps) e others = ap (λ (b : Bool). smallest_key (pick b key k) (run (e + 1) ps ++ others)) (le-ltb (id_number key) (id_number k) h) ∙ run_smallest k h ps (e + 1) others

  -- the key itself, once more
  run_same : (ps : List Id) (e : ℕ) (others : List Edge) → largest_key key (run e ps ++ others) ≡ largest_key key others
  unfolding edges_from largest_key
  run_same [] e others = refl
  run_same (p ∷ ps) e others = ap (λ (b : Bool). largest_key (pick b key key) (run (e + 1) ps ++ others)) (le-ltb (id_number key) (id_number key) (omega arith)) ∙ run_same ps (e + 1) others

  -- a larger key
  run_largest : (k : Id) → id_number k < id_number key → (ps : List Id) → 1 ≤ length ps → (e : ℕ) (others : List Edge) → largest_key k (run e ps ++ others) ≡ largest_key key others
  unfolding edges_from largest_key
  run_largest k h [] some e others = absurd (omega arith)
  run_largest k h (p ∷ ps) some e others = ap (λ (b : Bool). largest_key (pick b key k) (run (e + 1) ps ++ others)) (lt-ltb (id_number k) (id_number key) h) ∙ run_same ps (e + 1) others

  same_run : (ps : List Id) (e : ℕ) → SameKey (id_number key) (run e ps)
  unfolding edges_from SameKey
  same_run [] e = tt
  same_run (p ∷ ps) e = (refl, same_run ps (e + 1))

  -- one group, of as many edges
  run_group : (ps : List Id) → 1 ≤ length ps → (e : ℕ) (others : List Edge) → OtherKey (id_number key) others
      → degrees_of (groups_of (run e ps ++ others)) ≡ length ps ∷ degrees_of (groups_of others)
  unfolding edges_from degrees_of
  run_group [] some e others o = absurd (omega arith)
  run_group (p ∷ ps) some e others o =
      ap degrees_of (groups_run (edge_of logs dead key p e) (run (e + 1) ps) others (same_run ps (e + 1)) o)
      ∙ ap (λ (t : ℕ). suc t ∷ degrees_of (groups_of others)) (length_edges logs dead key (e + 1) ps)

-- ---- the edges of keys; p the partners, o the offsets of w bytes each

module _ (keys p o : List ℕ) (w : ℕ) (logs dead : List ℕ) where
  abbrev key : ℕ → Id
  key i = halves_at keys (i * 16)

  abbrev partners : ℕ → List Id
  partners i = partners_of (group_in p o w i)

  abbrev read : ℕ → ℕ → ℕ → List Edge
  read d i e = read_from keys p o w logs dead d i e

  pub read_logs : (d i e : ℕ) → logs_in (read_from keys p o w logs dead d i e) ≡ logs_from (degrees_from p o w d i) logs e
  unfolding read_from degrees_from logs_in logs_from
  read_logs zero i e = refl
  read_logs (suc d) i e = run_logs logs dead (key i) (partners i) e (degrees_from p o w d (i + 1)) (read d (i + 1) (e + length (partners i))) (read_logs d (i + 1) (e + length (partners i)))

  pub read_dead : (d i e : ℕ) → dead_in (read_from keys p o w logs dead d i e) ≡ count_dead (degrees_from p o w d i) dead e
  unfolding read_from degrees_from dead_in count_dead
  read_dead zero i e = refl
  read_dead (suc d) i e = run_dead logs dead (key i) (partners i) e (degrees_from p o w d (i + 1)) (read d (i + 1) (e + length (partners i))) (read_dead d (i + 1) (e + length (partners i)))

  module _ (n : ℕ) (rise : KeysRise keys n) (ok : groups_from p o w n 0 ≡ (Ok tt)) where
    -- a key's group begins with its degree, which is not 0
    begins : (i : ℕ) → i < n → (1 ≤ length (partners i)) × ((next : ℕ) × (degree_of (group_at p o w i) ≡ Ok (length (partners i), next)))
    begins i h =
        let (dense, is) = good_is (group_in p o w i) (each_good keys p o w logs dead n 0 ok i (omega arith) (omega arith)) in
        group.degree_is (group_at p o w i) dense (partners i) is

    some : (i : ℕ) → i < n → 1 ≤ length (partners i)
    some i h = (begins i h).0

    degree_read : (i : ℕ) → i < n → degree_told (degree_of (group_at p o w i)) ≡ length (partners i)
    degree_read i h = let b = (begins i h).1 in sym (told_is _ _ _ b.1)

    pub all_told : AllTold p o w n
    all_told i h = let s = some i h in let d = degree_read i h in omega arith

    -- it is the number of the key's own edges among all
    pub key_degree_lem : (i : ℕ) → i < n → degree_told (degree_of (group_at p o w i)) ≡ length (of_key (key_at keys i) (read_from keys p o w logs dead n 0 0))
    key_degree_lem i h =
        degree_read i h
        ∙ sym (ap length (one_read keys p o w logs dead (key_at keys i) n 0 0 i (omega arith) (omega arith) refl (λ m a b q. key_once keys n rise m i (omega arith) h q))
        ∙ length_edges logs dead (key i) _ (partners i))

    key_rises : (i : ℕ) → i + 1 < n → id_number (key i) < id_number (key (i + 1))
    key_rises i h =
        let up = rise i (i + 1) (omega arith) h in
        let a = number_halves keys (i * 16) in
        let b = number_halves keys ((i + 1) * 16) in
        omega arith

    other_run : (k j e : ℕ) (ps : List Id) (others : List Edge) → 1 ≤ length ps → k < id_number (key j) → OtherKey k (edges_from logs dead (key j) e ps ++ others)
    unfolding edges_from OtherKey
    other_run k j e [] others some h = absurd (omega arith)
    other_run k j e (q ∷ ps) others some h = λ z. omega arith

    other_read : (d i e : ℕ) → i + 1 + d ≤ n → OtherKey (id_number (key i)) (read d (i + 1) e)
    unfolding read_from OtherKey
    other_read zero i e h = tt
    other_read (suc d) i e h =
        other_run (id_number (key i)) (i + 1) e (partners (i + 1)) (read d (i + 1 + 1) (e + length (partners (i + 1)))) (some (i + 1) (omega arith)) (key_rises i (omega arith))

    -- one group for each key
    pub read_degrees : (d i e : ℕ) → i + d ≤ n → degrees_of (groups_of (read_from keys p o w logs dead d i e)) ≡ degrees_at p o w d i
    unfolding read_from degrees_of groups_of degrees_at
    read_degrees zero i e h = refl
    read_degrees (suc d) i e h =
        let next : ℕ = e + length (partners i) in
        run_group logs dead (key i) (partners i) (some i (omega arith)) e (read d (i + 1) next) (other_read d i next (omega arith))
        ∙ ap₂ (λ (x : ℕ) (y : List ℕ). x ∷ y) (sym (degree_read i (omega arith))) (read_degrees d (i + 1) next (omega arith))

    -- after a key come larger ones: the first is the smallest, the last the largest
    read_smallest : (k : Id) (d i e : ℕ) → i + d ≤ n → ((j : ℕ) → i ≤ j → j < n → id_number k ≤ id_number (key j)) → smallest_key k (read d i e) ≡ k
    unfolding read_from smallest_key
    read_smallest k zero i e h least = refl
    read_smallest k (suc d) i e h least =
        let next : ℕ = e + length (partners i) in
        run_smallest logs dead (key i) k (least i (omega arith) (omega arith)) (partners i) e (read d (i + 1) next)
        ∙ read_smallest k d (i + 1) next (omega arith) (λ j a b. least j (omega arith) b)

    read_largest : (d i e : ℕ) → i + 1 + d ≤ n → largest_key (key i) (read d (i + 1) e) ≡ key (i + d)
    unfolding read_from largest_key
    read_largest zero i e h = ap key (sym (add-zero i))
    read_largest (suc d) i e h =
        let next : ℕ = e + length (partners (i + 1)) in
        let at : i + 1 + d ≡ i + suc d = omega arith in
        run_largest logs dead (key (i + 1)) (key i) (key_rises i (omega arith)) (partners (i + 1)) (some (i + 1) (omega arith)) e (read d (i + 1 + 1) next)
        ∙ read_largest d (i + 1) next (omega arith) ∙ ap key at

    first_least : (j : ℕ) → 0 ≤ j → j < n → id_number (key 0) ≤ id_number (key j)
    first_least zero a b = omega arith
    first_least (suc j) a b =
        let up = rise 0 (suc j) (omega arith) b in
        let x = number_halves keys (0 * 16) in
        let y = number_halves keys (suc j * 16) in
        omega arith

    abbrev log_extremes : ℕ → Option Extremes
    log_extremes m = Some (record {
      smallestkey = key 0;
      largestkey = key (n - 1);
      smallestlog = smallest (le_at logs 0 8) (logs_from (m - 1) logs 1);
      largestlog = largest (le_at logs 0 8) (logs_from (m - 1) logs 1);
    })

    -- of edges that begin with key 0 and go on with keys that rise
    run_extremes : (ps : List Id) (d m : ℕ) → 1 ≤ length ps → 1 + d ≡ n → m ≡ length ps + degrees_from p o w d 1
        → extremes_of (edges_from logs dead (key 0) 0 ps ++ read d 1 (length ps)) ≡ log_extremes m
    unfolding edges_from extremes_of
    run_extremes [] d m h q t = absurd (omega arith)
    run_extremes (x ∷ ps) d m h q t =
        let others : List Edge = read d 1 (suc (length ps)) in
        let last : 0 + d ≡ n - 1 = omega arith in
        let count : length ps + degrees_from p o w d 1 ≡ m - 1 = omega arith in
        let one : 0 + 1 + length ps ≡ suc (length ps) = omega arith in
        let small : smallest_key (key 0) (edges_from logs dead (key 0) (0 + 1) ps ++ others) ≡ key 0 =
        run_smallest logs dead (key 0) (key 0) (omega arith) ps (0 + 1) others
        ∙ read_smallest (key 0) d 1 (suc (length ps)) (omega arith) (λ j a b. first_least j (omega arith) b) in
        let large : largest_key (key 0) (edges_from logs dead (key 0) (0 + 1) ps ++ others) ≡ key (n - 1) =
        run_same logs dead (key 0) ps (0 + 1) others ∙ read_largest d 0 (suc (length ps)) (omega arith) ∙ ap key last in
        let numbers : logs_in (edges_from logs dead (key 0) (0 + 1) ps ++ others) ≡ logs_from (m - 1) logs 1 =
        run_logs logs dead (key 0) ps (0 + 1) (degrees_from p o w d 1) others (read_logs d 1 (suc (length ps)) ∙ ap (logs_from (degrees_from p o w d 1) logs) (sym one))
        ∙ ap (λ (t : ℕ). logs_from t logs 1) count in
        λ j. Some (record { smallestkey = small j; largestkey = large j; smallestlog = smallest (le_at logs 0 8) (numbers j); largestlog = largest (le_at logs 0 8) (numbers j) })

    pub read_extremes : 1 ≤ n → extremes_of (read_from keys p o w logs dead n 0 0) ≡ log_extremes (degrees_from p o w n 0)
    unfolding read_from degrees_from
    read_extremes h =
        let more : n ≡ suc (n - 1) = omega arith in
        let total : degrees_from p o w n 0 ≡ length (partners 0) + degrees_from p o w (n - 1) 1 = ap (λ (t : ℕ). degrees_from p o w t 0) more in
        ap (λ (t : ℕ). extremes_of (read_from keys p o w logs dead t 0 0)) more
        ∙ ap (λ (t : ℕ). extremes_of (edges_from logs dead (key 0) 0 (partners 0) ++ read (n - 1) 1 t)) (zero-add (length (partners 0)))
        ∙ run_extremes (partners 0) (n - 1) (degrees_from p o w n 0) (some 0 (omega arith)) (omega arith) total
