-- Edges written one after the other: of a group, of all groups.
use Rattle.std.specs.Prelude.{◌≡◌, Bool, true, Ok, Err}
use Rattle.std.proofs.Math.Path.{refl, ap, ap₂}
use Rattle.std.proofs.Common.{sym, ◌∙◌, add-zero, zero-add}
use Prim.Native.Nat.{ℕ, zero, suc, ◌+◌, ◌-◌, ◌*◌, ◌≤◌, ◌<◌}
use Rattle.std.proofs.Math.Nat.{sub-zero}
use native.Mathlib.Omega.{arith}
use Rattle.std.proofs.Math.Decide.{ℕ_discrete}
use mathlib.Core.List.{List, [], ◌∷◌, ◌++◌}
use Rattle.std.proofs.Math.ListN.{length, length-append}
use Rattle.std.proofs.Math.Seq.{sets}
use Rattle.base.specs.Over.{part}
use Rattle.base.specs.Put.{Put, Left, start, is, put, room, end}
use Rattle.codes.specs.declared.ids.Id.{Id}
use Rattle.codes.specs.Ids.{id_number, halves_at}
use Rattle.frame.specs.Open.{offset_at}
use Rattle.index.specs.Order.{OffsetsRise}
use Rattle.group.specs.declared.fault.Fault.{Fault}
use Rattle.group.specs.Group.{Decoded, good, step_at, walk_from, group_of, is_good, partners_of}
use Rattle.group.proofs.Laws.Group.{same_step, walk_end, walk_over, walk_bad, good_turn, good_is, good_good, partners_good, not_bad}
use Rattle.batch.specs.declared.Edge.{Edge}
use Rattle.batch.specs.Batch.{place, edge_bytes, records_of}
use Rattle.batch.specs.Batch.Laws.{length_edge, length_records, records_append}
use Rattle.refusal.proofs.Laws.Check.{fine_parts}
use Rattle.lookup.specs.Lookup.{group_check}
use Rattle.lookup.proofs.Laws.Groups.{check_good}
use Rattle.full_check.specs.Full.{group_in, groups_from, degrees_from}
use Rattle.readout.specs.Edges.{edge_of, edges_from, key_degree, key_edges, read_from}

-- ---- counts

pub length_edges : (logs dead : List ℕ) (key : Id) (e : ℕ) (ps : List Id) → length (edges_from logs dead key e ps) ≡ length ps
unfolding edges_from
length_edges logs dead key e [] = refl
length_edges logs dead key e (p ∷ ps) = ap suc (length_edges logs dead key (e + 1) ps)

-- ---- a good walk of partners, step by step

module _ (dense : Bool) (g : List ℕ) (i hi floor d : ℕ) (ok : is_good (walk_from dense (suc d) g i hi floor) ≡ true) where
  pub walk_turn : (p : Id) (n : ℕ) → step_at dense g i hi ≡ Ok (p, n)
      → (is_good (walk_from dense d g n p.hi (suc (id_number p))) ≡ true)
      × (partners_of (walk_from dense (suc d) g i hi floor) ≡ p ∷ partners_of (walk_from dense d g n p.hi (suc (id_number p))))
  walk_turn p n q =
      let (b, is) = good_is (walk_from dense (suc d) g i hi floor) ok in
      let t = good_turn dense g i hi floor b (partners_of (walk_from dense (suc d) g i hi floor)) d is in
      let (who, next) = same_step t.partner p t.next n (sym t.step ∙ q) in
      let rest : walk_from dense d g n p.hi (suc (id_number p)) ≡ good b t.others =
      sym (ap₂ (λ (x : Id) (y : ℕ). walk_from dense d g y x.hi (suc (id_number x))) who next) ∙ t.rest in
      (ap is_good rest ∙ good_good b t.others, t.all ∙ ap₂ (λ (x : Id) (y : List Id). x ∷ y) who (sym (ap partners_of rest ∙ partners_good b t.others)))

  pub walk_not_bad : (f : Fault) → step_at dense g i hi ≡ Err f → ⊥
  walk_not_bad f q = not_bad ok (walk_bad dense g i hi floor d f q)

pub walk_none : (dense : Bool) (g : List ℕ) (i hi floor : ℕ) → partners_of (walk_from dense 0 g i hi floor) ≡ []
unfolding partners_of
walk_none dense g i hi floor =
    elim (ℕ_discrete i (length g)) [
      | yes h ↦ rw (walk_end dense g i hi floor h)
      | no h ↦ rw (walk_over dense g i hi floor h)
    ]

-- ---- writing the edges of a group: k of d are written, the next partner is at i after the upper half hi

module _ (dense : Bool) (g : List ℕ) (at d : ℕ) (key : Id) (logs dead : List ℕ) (first : ℕ) (o : List ℕ) where
  abbrev pub group_records : List ℕ
  group_records = records_of (edges_from logs dead key first (partners_of (walk_from dense d g at 0 0)))

  abbrev rest : ℕ → ℕ → ℕ → ℕ → List ℕ
  rest i k hi floor = records_of (edges_from logs dead key (first + k) (partners_of (walk_from dense (d - k) g i hi floor)))

  pub record Giving (out : List ℕ) (i k hi : ℕ) : Type 0 where
    pub most : k ≤ d
    pub floor : ℕ
    pub good : is_good (walk_from dense (d - k) g i hi floor) ≡ true
    pub left : Left out (place (first + k)) (rest i k hi floor) o (place first) group_records

  pub giving_start : is_good (walk_from dense d g at 0 0) ≡ true → Giving o at 0 0
  giving_start h = record {
    most = omega arith;
    floor = 0;
    good = rw sub-zero h;
    left = rw (sub-zero, add-zero) (start o (place first) group_records);
  }

  module _ (out : List ℕ) (i k hi : ℕ) (h : Giving out i k hi) where
    module _ (lt : k < d) where
      more : d - k ≡ suc (d - (k + 1))
      more = omega arith

      ok : is_good (walk_from dense (suc (d - (k + 1))) g i hi h.floor) ≡ true
      ok = rw more at h.good

      pub giving_not_bad : (f : Fault) → step_at dense g i hi ≡ Err f → ⊥
      giving_not_bad f q = walk_not_bad dense g i hi h.floor (d - (k + 1)) ok f q

      module _ (p : Id) (n : ℕ) (q : step_at dense g i hi ≡ Ok (p, n)) where
        this : Edge
        this = edge_of logs dead key p (first + k)

        abbrev after : List ℕ
        after = rest n (k + 1) p.hi (suc (id_number p))

        todo : Left out (place (first + k)) (edge_bytes this ++ after) o (place first) group_records
        unfolding edges_from records_of this
        todo =
            let t = walk_turn dense g i hi h.floor (d - (k + 1)) ok p n q in
            let next : first + k + 1 ≡ first + (k + 1) = omega arith in
            is
            (ap (λ (x : ℕ). records_of (edges_from logs dead key (first + k) (partners_of (walk_from dense x g i hi h.floor)))) more
            ∙ ap (λ (x : List Id). records_of (edges_from logs dead key (first + k) x)) t.1
            ∙ ap (λ (x : ℕ). edge_bytes (edge_of logs dead key p (first + k)) ++ records_of (edges_from logs dead key x (partners_of (walk_from dense (d - (k + 1)) g n p.hi (suc (id_number p)))))) next)
            h.left

        pub giving_room : place first + length group_records ≤ length o → place (first + k) + 41 ≤ length out
        giving_room r = omega (arith, room (edge_bytes this) after todo r, length_edge this)

        pub giving_on : {e : Edge} {out' : List ℕ} → e ≡ edge_of logs dead key p (first + k) → out' ≡ sets out (place (first + k)) (edge_bytes e) → Giving out' n (k + 1) p.hi
        unfolding this
        giving_on {out' = out'} e w =
            let t = walk_turn dense g i hi h.floor (d - (k + 1)) ok p n q in
            let len = length_edge this in
            let write : Put out out' (place (first + k)) (place (first + (k + 1))) (edge_bytes this) =
            record { place = omega arith; bytes = w ∙ ap (λ (x : Edge). sets out (place (first + k)) (edge_bytes x)) e } in
            record {
              most = omega arith;
              floor = suc (id_number p);
              good = t.0;
              left = put todo write;
            }

    pub giving_end : d ≤ k → out ≡ sets o (place first) group_records
    unfolding edges_from records_of
    giving_end le =
        let none : d - k ≡ 0 = omega arith in
        (end
        (ap (λ (x : ℕ). records_of (edges_from logs dead key (first + k) (partners_of (walk_from dense x g i hi h.floor)))) none
        ∙ ap (λ (x : List Id). records_of (edges_from logs dead key (first + k) x)) (walk_none dense g i hi h.floor))
        h.left).bytes

-- what is asked of the sections of a file whose edges are read
pub record Readable (keys p o : List ℕ) (w : ℕ) (logs : List ℕ) (n : ℕ) : Type 0 where
  pub narrow : 3 ≤ w
  pub wide : w ≤ 6
  pub few : n ≤ 16777216
  pub keybytes : n * 16 ≤ length keys
  pub offsetbytes : (n + 1) * w ≤ length o
  pub rises : OffsetsRise o w n (length p)
  pub good : groups_from p o w n 0 ≡ (Ok tt)
  pub edges : degrees_from p o w n 0 ≤ 67108864
  pub logbytes : 8 * degrees_from p o w n 0 ≤ length logs

-- ---- writing the edges of all groups: i of n are passed, the next begins at a and its first edge is `first`

module _ (keys p o : List ℕ) (w : ℕ) (logs dead : List ℕ) where
  -- as many edges as the degrees say
  pub length_read : (d i e : ℕ) → length (read_from keys p o w logs dead d i e) ≡ degrees_from p o w d i
  unfolding read_from degrees_from
  length_read zero i e = refl
  length_read (suc d) i e =
      length-append (key_edges keys p o w logs dead i e) (read_from keys p o w logs dead d (i + 1) (e + key_degree keys p o w logs dead i))
      ∙ ap₂ (λ (x y : ℕ). x + y) (length_edges logs dead (halves_at keys (i * 16)) e (partners_of (group_in p o w i))) (length_read d (i + 1) (e + key_degree keys p o w logs dead i))

  module _ (n : ℕ) (out₀ : List ℕ) where
    abbrev pub all_records : List ℕ
    all_records = records_of (read_from keys p o w logs dead n 0 0)

    pub record Reading (out : List ℕ) (i a first : ℕ) : Type 0 where
      pub most : i ≤ n
      pub place_is : a ≡ offset_at o w i
      pub good : groups_from p o w (n - i) i ≡ (Ok tt)
      pub sum : first + degrees_from p o w (n - i) i ≡ degrees_from p o w n 0
      pub left : Left out (place first) (records_of (read_from keys p o w logs dead (n - i) i first)) out₀ 50 all_records

    pub reading_start : groups_from p o w n 0 ≡ (Ok tt) → offset_at o w 0 ≡ 0 → Reading out₀ 0 0 0
    reading_start g z = record {
      most = omega arith;
      place_is = sym z;
      good = rw sub-zero g;
      sum = zero-add _ ∙ ap (λ (t : ℕ). degrees_from p o w t 0) (sub-zero n);
      left = rw sub-zero (start out₀ 50 all_records);
    }

    module _ (out : List ℕ) (i a first : ℕ) (h : Reading out i a first) where
      module _ (lt : i < n) where
        now_left : n - i ≡ suc (n - (i + 1))
        now_left = omega arith

        good_parts : (group_check i (group_in p o w i) ≡ (Ok tt)) × (groups_from p o w (n - (i + 1)) (i + 1) ≡ (Ok tt))
        unfolding groups_from
        good_parts = fine_parts (group_check i (group_in p o w i)) _ (rw now_left at h.good)

        sums : first + (key_degree keys p o w logs dead i + degrees_from p o w (n - (i + 1)) (i + 1)) ≡ degrees_from p o w n 0
        unfolding degrees_from
        sums = rw now_left at h.sum

        module _ {e : ℕ} (q : e ≡ offset_at o w (i + 1)) where
          this_group : group_in p o w i ≡ group_of (part p a e)
          this_group = ap₂ (λ (x y : ℕ). group_of (part p x y)) (sym h.place_is) (sym q)

          pub reading_good : is_good (group_of (part p a e)) ≡ true
          reading_good = rw this_group at (check_good i (group_in p o w i) good_parts.0)

          pub reading_few : first + length (partners_of (group_of (part p a e))) ≤ degrees_from p o w n 0
          reading_few = let s = sums in let z : key_degree keys p o w logs dead i ≡ length (partners_of (group_of (part p a e))) = ap (λ (x : Decoded). length (partners_of x)) this_group in omega arith

          module _ {key : Id} (k : key ≡ halves_at keys (i * 16)) where
            abbrev these : List Edge
            these = edges_from logs dead key first (partners_of (group_of (part p a e)))

            abbrev others : List ℕ
            others = records_of (read_from keys p o w logs dead (n - (i + 1)) (i + 1) (first + length (partners_of (group_of (part p a e)))))

            todo_group : Left out (place first) (records_of these ++ others) out₀ 50 all_records
            unfolding read_from
            todo_group =
                is
                (ap (λ (x : ℕ). records_of (read_from keys p o w logs dead x i first)) now_left
                ∙ ap₂ (λ (x : Decoded) (y : Id). records_of (edges_from logs dead y first (partners_of x) ++ read_from keys p o w logs dead (n - (i + 1)) (i + 1) (first + length (partners_of x)))) this_group (sym k)
                ∙ records_append these (read_from keys p o w logs dead (n - (i + 1)) (i + 1) (first + length (partners_of (group_of (part p a e))))))
                h.left

            pub reading_room : 50 + length all_records ≤ length out₀ → place first + length (records_of these) ≤ length out
            reading_room r = omega (arith, room (records_of these) others todo_group r)

            pub reading_on : {out' : List ℕ} {next : ℕ} → next ≡ first + length (partners_of (group_of (part p a e))) → out' ≡ sets out (place first) (records_of these) → Reading out' (i + 1) e next
            reading_on {out'} {next} m v =
                let s = sums in
                let z : key_degree keys p o w logs dead i ≡ length (partners_of (group_of (part p a e))) = ap (λ (x : Decoded). length (partners_of x)) this_group in
                let len = length_records these in
                let count = length_edges logs dead key first (partners_of (group_of (part p a e))) in
                let write : Put out out' (place first) (place next) (records_of these) = record { place = omega arith; bytes = v } in
                record {
                  most = omega arith;
                  place_is = q;
                  good = good_parts.1;
                  sum = omega arith;
                  left = is (ap (λ (x : ℕ). records_of (read_from keys p o w logs dead (n - (i + 1)) (i + 1) x)) (sym m)) (put todo_group write);
                }

      pub reading_end : n ≤ i → out ≡ sets out₀ 50 all_records
      unfolding read_from records_of
      reading_end le =
          let none : n - i ≡ 0 = omega arith in
          (end (ap (λ (x : ℕ). records_of (read_from keys p o w logs dead x i first)) none) h.left).bytes
