-- What the pass notes is what rules 9 to 11 and 36 ask.
use Rattle.std.specs.Prelude.{◌≡◌, Bool, ◌&&◌, ◌||◌, set, replicate, leb, Ok, Err, Option, Some, None}
use Rattle.std.proofs.Math.Path.{refl, sym, ap, ap₂}
use Rattle.std.proofs.Common.{◌∙◌, add-zero, length-set, get_or-set_same, get_or-set_other}
use Prim.Native.Nat.{ℕ, suc, ◌+◌, ◌-◌, ◌*◌, ◌≤◌, ◌<◌}
use Rattle.std.proofs.Math.Decide.{ℕ_discrete}
use Rattle.std.proofs.Math.Nat.{zero-add, sub-zero}
use native.Mathlib.Omega.{arith}
use mathlib.Core.List.{List, [], ◌∷◌}
use Rattle.std.proofs.Math.Bool.{true, false, not}
use Rattle.std.proofs.Math.ListN.{length, get_or-replicate}
use Rattle.std.proofs.Math.Dec.{eqb}
use borrow.Author.Tests.{le-leb, lt-leb, lt-ltb, le-ltb, eqb-true, eq-eqb, ne_eqb, not-true}
use Rattle.base.specs.Pick.{pick}
use Rattle.refusal.specs.declared.Refusal.{Refusal}
use Rattle.refusal.specs.Check.{◌⊳◌, refuse, Check}
use Rattle.refusal.proofs.Laws.Check.{and_parts}
use Rattle.frame.specs.declared.Row.{Row}
use Rattle.frame.specs.declared.Range.{Range}
use Rattle.frame.specs.Kind as kind
use Rattle.frame.proofs.Laws.Kind.{number_in, number_at, slot_found, slot_of_lem}
use Rattle.frame.specs.Frame.{row_at, rows_from, end_from, entry_count, rows_of, end_of, range_of, nowhere, has, repeated, section_of, all, name_good, once_good, kinds_good, fills, table_good, each_row, kind_good, codec_good, range_good, ranges, key_count, edge_count, bits_of, record_from, framed_from, table_check, reserved_check, codec_check, range_check, rows_check}
use Rattle.frame.proofs.Laws.Frame.{fixed_unreserved, name_unread, each_good, rows_on, end_on, row_room, rows_none, end_none}
use Rattle.frame.specs.Open.{framing}
use Rattle.open_table.specs.declared.Seen.{Seen}
use Rattle.open_table.specs.Pass.{first_bad, told_bad, unseen, coded, unread, ranged, met_at, place_at, needed_from, required_seen, framed_seen, passed}
use Rattle.frame.specs.Opening.{Framing}

and_no : (a : Bool) {b : Bool} → b ≡ false → (a && b) ≡ false
and_no true e = e
and_no false e = refl

or_assoc : (a b c : Bool) → ((a || b) || c) ≡ (a || (b || c))
or_assoc true b c = refl
or_assoc false b c = refl

or_false : (a : Bool) → (a || false) ≡ a
or_false true = refl
or_false false = refl

then_fine : (a : Check) → a ⊳ (Ok tt) ≡ a
then_fine (Ok _) = refl
then_fine (Err r) = refl

-- ---- the first bad entry

-- entry k is good or not, and rest is what the entries after it say
first_told : (r : ℕ → Refusal) (bad : Option ℕ) (k : ℕ) (good : Bool) (rest : Check)
    → told_bad r bad ⊳ pick good rest (Err (r k)) ≡ told_bad r (first_bad bad good k) ⊳ rest
unfolding told_bad first_bad
first_told r bad k true rest = refl
first_told r None k false rest = refl
first_told r (Some b) k false rest = refl

-- ---- one kind

-- of all the rows, rest is still to come: whether kind q was met, and where
pub record Met (q : ℕ) (rows rest : List Row) (met : Bool) (place : Range) : Type 0 where
  pub there : has q rows ≡ (met || has q rest)
  pub again : repeated q rows ≡ pick met (has q rest) (repeated q rest)
  pub range : section_of q rows ≡ pick met place (section_of q rest)
  pub alone : pick met place nowhere ≡ place

module _ (q : ℕ) (rows : List Row) where
  met_start : Met q rows rows false nowhere
  met_start = record { there = refl; again = refl; range = refl; alone = refl }

  module _ (r : Row) (rest : List Row) where
    met_other : {met : Bool} {place : Range} → eqb r.kind q ≡ false → Met q rows (r ∷ rest) met place → Met q rows rest met place
    unfolding has repeated section_of
    met_other {met} {place} e m = record {
      there = m.there ∙ ap (λ (t : Bool). met || (t || has q rest)) e;
      again = m.again ∙ ap (λ (t : Bool). pick met (t || has q rest) (pick t (has q rest) (repeated q rest))) e;
      range = m.range ∙ ap (λ (t : Bool). pick met place (pick t (range_of r) (section_of q rest))) e;
      alone = m.alone;
    }

    module _ (e : eqb r.kind q ≡ true) where
      met_here : {place : Range} → Met q rows (r ∷ rest) false place → Met q rows rest true (range_of r)
      unfolding has repeated section_of
      met_here m = record {
        there = m.there ∙ ap (λ (t : Bool). t || has q rest) e;
        again = m.again ∙ ap (λ (t : Bool). pick t (has q rest) (repeated q rest)) e;
        range = m.range ∙ ap (λ (t : Bool). pick t (range_of r) (section_of q rest)) e;
        alone = refl;
      }

      met_twice : {place : Range} → Met q rows (r ∷ rest) true place → repeated q rows ≡ true
      unfolding has
      met_twice m = m.again ∙ ap (λ (t : Bool). t || has q rest) e

  met_end : {met : Bool} {place : Range} → Met q rows [] met place → (has q rows ≡ met) × (repeated q rows ≡ false) × (section_of q rows ≡ place)
  unfolding has repeated section_of
  met_end {met} m = (m.there ∙ or_false met, m.again ∙ go met, m.range ∙ m.alone)
    where
      go : (t : Bool) → pick t false false ≡ false
      go true = refl
      go false = refl

-- ---- all that is noted when k rows are passed

pub record Noted (limit : ℕ) (rows rest : List Row) (k : ℕ) (s : Seen) (places : List (Option Range)) : Type 0 where
  pub names : all name_good rows ≡ all name_good rest
  pub reserved_are : reserved_check rows ≡ told_bad Refusal.Reserved s.reserved ⊳ each_row kind_good Refusal.Reserved rest k
  pub codecs_are : codec_check rows ≡ told_bad Refusal.Codec s.codec ⊳ each_row codec_good Refusal.Codec rest k
  pub ranges_are : ranges limit rows kind.header_size 0 ≡ told_bad Refusal.Range s.range ⊳ ranges limit rest s.floor k
  pub streams_are : has kind.properties rows ≡ (s.streams || has kind.properties rest)
  pub kinds_are : (i : ℕ) → i < length kind.kinds → Met (number_at i) rows rest (met_at places i) (place_at places i)

module _ (limit : ℕ) (rows : List Row) where
  noted_start : Noted limit rows rows 0 unseen (replicate (length kind.kinds) None)
  unfolding told_bad
  noted_start = record {
    names = refl;
    reserved_are = refl;
    codecs_are = refl;
    ranges_are = refl;
    streams_are = refl;
    kinds_are = λ i h. rw (get_or-replicate {A = Option Range} (length kind.kinds) i None None h) (met_start (number_at i) rows);
  }

  module _ (r : Row) (rest : List Row) (k : ℕ) (s : Seen) where
    ranges_on : ranges limit rows kind.header_size 0 ≡ told_bad Refusal.Range s.range ⊳ ranges limit (r ∷ rest) s.floor k
        → ranges limit rows kind.header_size 0 ≡ told_bad Refusal.Range (ranged limit k s r).range ⊳ ranges limit rest (ranged limit k s r).floor (k + 1)
    unfolding ranges ranged
    ranges_on e = e ∙ go (range_good limit s.floor r)
      where
        go : (t : Bool) → told_bad Refusal.Range s.range ⊳ pick t (ranges limit rest (r.start + r.len) (k + 1)) (Err (Refusal.Range k))
            ≡ told_bad Refusal.Range (first_bad s.range t k) ⊳ ranges limit rest (pick t (r.start + r.len) s.floor) (k + 1)
        go true = first_told Refusal.Range s.range k true (ranges limit rest (r.start + r.len) (k + 1))
        go false = first_told Refusal.Range s.range k false (ranges limit rest s.floor (k + 1))

    names_on : name_good r ≡ true → all name_good rows ≡ all name_good (r ∷ rest) → all name_good rows ≡ all name_good rest
    unfolding all
    names_on g e = e ∙ ap (λ (t : Bool). t && all name_good rest) g

    -- of what is asked of each entry: bad is the first bad entry so far
    each_on : (good : Row → Bool) (told : ℕ → Refusal) (bad : Option ℕ) (g : Bool) → good r ≡ g → each_row good told rows 0 ≡ told_bad told bad ⊳ each_row good told (r ∷ rest) k
        → each_row good told rows 0 ≡ told_bad told (first_bad bad g k) ⊳ each_row good told rest (k + 1)
    unfolding each_row
    each_on good told bad g is e =
        e ∙ ap (λ (t : Bool). told_bad told bad ⊳ pick t (each_row good told rest (k + 1)) (Err (told k))) is
        ∙ first_told told bad k g (each_row good told rest (k + 1))

    -- an entry that is good by itself
    each_past : (good : Row → Bool) (told : ℕ → Refusal) (c : Check) → good r ≡ true → each_row good told rows 0 ≡ c ⊳ each_row good told (r ∷ rest) k → each_row good told rows 0 ≡ c ⊳ each_row good told rest (k + 1)
    each_past good told c g e = e ∙ ap (λ (x : Check). c ⊳ x) (each_good good told r rest k g)

    -- r is of a kind that is read, and not met before
    module _ (slot : ℕ) (at : kind.slot_of r.kind ≡ slot) (read : slot < length kind.kinds) where
      kind_is : number_at slot ≡ r.kind
      kind_is = rw (← at) (slot_found r.kind kind.kinds (omega arith))

      fixed_is : kind.fixed r.kind ≡ true
      fixed_is = lt-ltb (kind.slot_of r.kind) (length kind.kinds) (omega arith)

      no_stream : eqb r.kind kind.properties ≡ false
      no_stream = ne_eqb r.kind kind.properties (λ e. let d = ap kind.slot_of e in omega arith)

      pub codec_read : codec_good r ≡ eqb r.codec 0
      codec_read = rw (lt-ltb (kind.slot_of r.kind) (length kind.kinds) (omega arith))

      kind_on : (places : List (Option Range)) → Met (number_at slot) rows (r ∷ rest) false (place_at places slot) → slot < length places → (i : ℕ) → i < length kind.kinds
          → Met (number_at i) rows (r ∷ rest) (met_at places i) (place_at places i)
          → Met (number_at i) rows rest (met_at (set places slot (Some (range_of r))) i) (place_at (set places slot (Some (range_of r))) i)
      kind_on places m q i h n = elim (ℕ_discrete i slot) [
        | yes e ↦
            rw (e, get_or-set_same places slot (Some (range_of r)) None q)
            (met_here (number_at slot) rows r rest (eq-eqb r.kind (number_at slot) (sym kind_is)) m)
        | no e ↦
            rw (get_or-set_other places slot i (Some (range_of r)) None e)
            (met_other (number_at i) rows r rest (ne_eqb r.kind (number_at i) (λ z. e (sym (slot_of_lem i h) ∙ ap kind.slot_of (sym z) ∙ at))) n)
      ]

      pub noted_read : (places : List (Option Range)) → name_good r ≡ true → met_at places slot ≡ false → slot < length places → Noted limit rows (r ∷ rest) k s places
          → Noted limit rows rest (k + 1) (ranged limit k (coded k s r.codec) r) (set places slot (Some (range_of r)))
      unfolding coded ranged has
      noted_read places g f q n = record {
        names = names_on g n.names;
        reserved_are = each_past kind_good Refusal.Reserved (told_bad Refusal.Reserved s.reserved) (ap not (fixed_unreserved r.kind fixed_is)) n.reserved_are;
        codecs_are = each_on codec_good Refusal.Codec s.codec (eqb r.codec 0) codec_read n.codecs_are;
        ranges_are = ranges_on n.ranges_are;
        streams_are = n.streams_are ∙ ap (λ (t : Bool). s.streams || (t || has kind.properties rest)) no_stream;
        kinds_are = λ i h. kind_on places (rw f at (n.kinds_are slot read)) q i h (n.kinds_are i h);
      }

      pub noted_twice : (places : List (Option Range)) → met_at places slot ≡ true → Noted limit rows (r ∷ rest) k s places → repeated r.kind rows ≡ true
      noted_twice places f n = ap (λ (q : ℕ). repeated q rows) (sym kind_is) ∙ met_twice (number_at slot) rows r rest (eq-eqb r.kind (number_at slot) (sym kind_is)) (rw f at (n.kinds_are slot read))

    -- r is of another kind
    module _ (past : length kind.kinds ≤ kind.slot_of r.kind) where
      codec_unread : codec_good r ≡ true
      codec_unread = rw (le-ltb (kind.slot_of r.kind) (length kind.kinds) past)

      pub noted_unread : {places : List (Option Range)} → name_good r ≡ true → Noted limit rows (r ∷ rest) k s places
          → Noted limit rows rest (k + 1) (ranged limit k (unread k s r.kind) r) places
      unfolding unread ranged has
      noted_unread g n = record {
        names = names_on g n.names;
        reserved_are = each_on kind_good Refusal.Reserved s.reserved (kind_good r) refl n.reserved_are;
        codecs_are = each_past codec_good Refusal.Codec (told_bad Refusal.Codec s.codec) codec_unread n.codecs_are;
        ranges_are = ranges_on n.ranges_are;
        streams_are = n.streams_are ∙ sym (or_assoc s.streams (eqb r.kind kind.properties) (has kind.properties rest));
        kinds_are = λ i h. met_other (number_at i) rows r rest (ne_eqb r.kind (number_at i) (λ z. let e = slot_of_lem i h in let d = ap kind.slot_of z in omega arith)) (n.kinds_are i h);
      }

    -- a bad name
    pub noted_unnamed : {places : List (Option Range)} → name_good r ≡ false → Noted limit rows (r ∷ rest) k s places → all name_good rows ≡ false
    unfolding all
    noted_unnamed g n = n.names ∙ ap (λ (t : Bool). t && all name_good rest) g

  -- ---- kinds

  kinds_twice : (qs : List kind.Kind) (k : ℕ) → kind.slot_in k qs < length qs → repeated k rows ≡ true → all (once_good rows) qs ≡ false
  unfolding all
  kinds_twice [] k h e = absurd (omega arith)
  kinds_twice (q ∷ qs) k h e = go (eqb k q.number) refl h (kinds_twice qs k)
    where
      go : (t : Bool) → eqb k q.number ≡ t → pick t 0 (suc (kind.slot_in k qs)) < suc (length qs)
          → (kind.slot_in k qs < length qs → repeated k rows ≡ true → all (once_good rows) qs ≡ false) → (once_good rows q && all (once_good rows) qs) ≡ false
      go true p h ih = let d : repeated q.number rows ≡ true = ap (λ (x : ℕ). repeated x rows) (sym (eqb-true k q.number p)) ∙ e in rw d
      go false p h ih = and_no (once_good rows q) (ih (omega arith) e)

  pub kinds_doubled : (k : ℕ) → kind.slot_of k < length kind.kinds → repeated k rows ≡ true → kinds_good rows ≡ false
  unfolding kinds_good
  kinds_doubled k h e = kinds_twice kind.kinds k h e

  kinds_once : (qs : List kind.Kind) (places : List (Option Range)) (i : ℕ)
      → ((j : ℕ) → j < length qs → (has (number_in qs j) rows ≡ met_at places (i + j)) × (repeated (number_in qs j) rows ≡ false))
      → all (once_good rows) qs ≡ needed_from qs places i
  unfolding all needed_from
  kinds_once [] places i h = refl
  kinds_once (q ∷ qs) places i h =
      let here = h 0 (omega arith) in
      ap₂ (λ (x y : Bool). x && y)
      (ap₂ (λ (x y : Bool). not x && (not q.needed || y)) here.1 (here.0 ∙ ap (met_at places) (add-zero i)))
      (kinds_once qs places (suc i) (λ j l. let e : i + suc j ≡ suc i + j = omega arith in rw (← e) (h (suc j) (omega arith))))

  -- ---- a table that was passed to its end

  module _ (k : ℕ) (s : Seen) (places : List (Option Range)) (n : Noted limit rows [] k s places) where
    end_kinds : kinds_good rows ≡ required_seen kind.kinds places
    unfolding kinds_good
    end_kinds = kinds_once kind.kinds places 0 (λ j h. let m = met_end (number_at j) rows (n.kinds_are j h) in rw zero-add (m.0, m.1))

    end_reserved : reserved_check rows ≡ told_bad Refusal.Reserved s.reserved
    unfolding each_row
    end_reserved = n.reserved_are ∙ then_fine _

    end_codecs : codec_check rows ≡ told_bad Refusal.Codec s.codec
    unfolding each_row
    end_codecs = n.codecs_are ∙ then_fine _

    end_ranges : ranges limit rows kind.header_size 0 ≡ told_bad Refusal.Range s.range
    unfolding ranges
    end_ranges = n.ranges_are ∙ then_fine _

    end_framed : (b : List ℕ) → framed_seen b places s.streams ≡ framed_from b rows
    unfolding framed_seen framed_from record_from has
    end_framed b =
        let at : (i : ℕ) → i < length kind.kinds → (has (number_at i) rows ≡ met_at places i) × (repeated (number_at i) rows ≡ false) × (section_of (number_at i) rows ≡ place_at places i) =
        λ i h. met_end (number_at i) rows (n.kinds_are i h) in
        let keys = at (kind.slot_of kind.keys) (omega arith) in
        let offsets = at (kind.slot_of kind.offsets) (omega arith) in
        let partners = at (kind.slot_of kind.partners) (omega arith) in
        let logs = at (kind.slot_of kind.logs) (omega arith) in
        let dead = at (kind.slot_of kind.tombstones) (omega arith) in
        let starts = at (kind.slot_of kind.starts) (omega arith) in
        let fences = at (kind.slot_of kind.fences) (omega arith) in
        λ j. record {
          opened = record {
            keys = sym keys.2 j;
            offsets = sym offsets.2 j;
            partners = sym partners.2 j;
            logs = sym logs.2 j;
            marked = sym dead.0 j;
            dead = sym dead.2 j;
            indexed = sym starts.0 j;
            starts = sym starts.2 j;
            keycount = key_count b;
            edgecount = edge_count b;
            bits = bits_of b;
          };
          fenced = sym fences.0 j;
          fences = sym fences.2 j;
          streams = sym (n.streams_are ∙ or_false s.streams) j;
        }

-- ---- the tests of an entry, by their cases

module _ (r : Row) where
  pub name_long : kind.longest_name < r.namelen → name_good r ≡ false
  name_long h = simp (lt-leb r.namelen kind.longest_name h)

  module _ (short : r.namelen ≤ kind.longest_name) where
    pub name_read : kind.slot_of r.kind < length kind.kinds → name_good r ≡ eqb r.namelen 0
    name_read e = rw (lt-ltb (kind.slot_of r.kind) (length kind.kinds) e, le-leb r.namelen kind.longest_name short)

-- ---- rules 9 to 11, with 36, of a body, as the code goes through them

module _ (b : List ℕ) (limit : ℕ) where
  abbrev pub answer : Framing
  answer = framing (rows_check limit b) (framed_from b (rows_of b))

  untabled : table_good b ≡ false → answer ≡ Err Refusal.Table
  unfolding rows_check framing
  untabled e = rw e

  module _ (count : ℕ) (c : count ≡ entry_count b) where
    pub pass_few : count < 1 → answer ≡ Err Refusal.Table
    unfolding table_good
    pass_few h = untabled (rw (← c) (simp (lt-leb 1 count h)))

    pub pass_many : kind.most_sections < count → answer ≡ Err Refusal.Table
    unfolding table_good
    pass_many h = untabled (rw (← c) (simp (le-leb 1 count (omega arith), lt-leb count kind.most_sections h)))

    pub pass_unfilled : (end_from count b 2 + kind.counts_size ≡ length b → ⊥) → answer ≡ Err Refusal.Table
    unfolding table_good end_of
    pass_unfilled h =
        let no : fills b ≡ false = rw (← c) (ne_eqb (end_from count b 2 + kind.counts_size) (length b) h) in
        untabled (and_no (leb 1 (entry_count b)) (and_no (leb (entry_count b) kind.most_sections) (rw no)))

    -- a bad name
    pub pass_unnamed : all name_good (rows_from count b 2) ≡ false → answer ≡ Err Refusal.Table
    unfolding table_good rows_of
    pass_unnamed h =
        let no : all name_good (rows_of b) ≡ false = rw (← c) h in
        untabled (and_no (leb 1 (entry_count b)) (and_no (leb (entry_count b) kind.most_sections) (and_no (fills b) (rw no))))

    -- a kind that is read stands there again
    pub pass_doubled : kinds_good (rows_from count b 2) ≡ false → answer ≡ Err Refusal.Table
    unfolding table_good rows_of
    pass_doubled h =
        let no : kinds_good (rows_of b) ≡ false = rw (← c) h in
        untabled (and_no (leb 1 (entry_count b)) (and_no (leb (entry_count b) kind.most_sections) (and_no (fills b) (and_no (all name_good (rows_of b)) no))))

    -- all entries are passed
    module _ (some : 1 ≤ count) (most : count ≤ kind.most_sections) (filled : end_from count b 2 + kind.counts_size ≡ length b) where
      table_is : {k : ℕ} {s : Seen} {places : List (Option Range)} → Noted limit (rows_from count b 2) [] k s places → table_good b ≡ required_seen kind.kinds places
      unfolding table_good end_of rows_of all
      table_is {k} {s} {places} n =
          let names : all name_good (rows_from count b 2) ≡ true = n.names in
          rw (← c) (simp (le-leb 1 count some, le-leb count kind.most_sections most, eq-eqb (end_from count b 2 + kind.counts_size) (length b) filled, names)
          (end_kinds limit (rows_from count b 2) k s places n))

      pub pass_ended : (k : ℕ) (s : Seen) (places : List (Option Range)) → Noted limit (rows_from count b 2) [] k s places
          → framing (passed places s) (framed_seen b places s.streams) ≡ answer
      unfolding passed rows_check rows_of
      pass_ended k s places n =
          let rows : rows_of b ≡ rows_from count b 2 = rw (← c) in
          let check : passed places s ≡ rows_check limit b =
          (λ j.
          refuse Refusal.Table (not (sym (table_is n) j)) ⊳ sym (end_reserved limit (rows_from count b 2) k s places n) j ⊳ sym (end_codecs limit (rows_from count b 2) k s places n) j
          ⊳ sym (end_ranges limit (rows_from count b 2) k s places n) j)
          ∙ ap (λ (t : List Row). table_check b ⊳ reserved_check t ⊳ codec_check t ⊳ range_check limit t) (sym rows) in
          ap₂ framing check (end_framed limit (rows_from count b 2) k s places n b ∙ ap (framed_from b) (sym rows))

-- ---- the pass under way: k entries are passed, the next is at i

module _ (b : List ℕ) (limit count : ℕ) where
  pub record Passing (k i : ℕ) (s : Seen) (places : List (Option Range)) : Type 0 where
    pub upto : k ≤ count
    pub near : i ≤ 2 + (kind.entry_size + kind.longest_name) * k
    pub ends : end_from (count - k) b i ≡ end_from count b 2
    pub places_of : length places ≡ length kind.kinds
    pub noted : Noted limit (rows_from count b 2) (rows_from (count - k) b i) k s places

  pub passing_start : Passing 0 2 unseen (replicate (length kind.kinds) None)
  passing_start = record {
    upto = omega arith;
    near = omega arith;
    ends = rw sub-zero;
    places_of = refl;
    noted = rw sub-zero (noted_start limit (rows_from count b 2));
  }

  module _ (k i : ℕ) (s : Seen) (places : List (Option Range)) (n : Passing k i s places) (lt : k < count) where
    -- the next entry would end after the body
    pub passing_cut : length b < i + kind.entry_size → count ≡ entry_count b → answer b limit ≡ Err Refusal.Table
    passing_cut h c =
        let room = row_room b count i k lt in
        let end = n.ends in
        pass_unfilled b limit count c (λ e. omega arith)

    module _ (r : Row) (e : r ≡ row_at b i) where
      abbrev rest : List Row
      rest = rows_from (count - (k + 1)) b (i + kind.entry_size + r.namelen)

      here : Noted limit (rows_from count b 2) (r ∷ rest) k s places
      here = rw (rows_on b count i k lt r e) at n.noted

      pub passing_long : kind.longest_name < r.namelen → count ≡ entry_count b → answer b limit ≡ Err Refusal.Table
      passing_long h c = pass_unnamed b limit count c (noted_unnamed limit (rows_from count b 2) r rest k s (name_long r h) here)

      module _ (short : r.namelen ≤ kind.longest_name) where
        passing_on : {s' : Seen} {places' : List (Option Range)} → length places' ≡ length places → Noted limit (rows_from count b 2) rest (k + 1) s' places'
            → Passing (k + 1) (i + kind.entry_size + r.namelen) s' places'
        passing_on q m =
            let near = n.near in
            record { upto = omega arith; near = omega arith; ends = sym (end_on b count i k lt r e) ∙ n.ends; places_of = q ∙ n.places_of; noted = m }

        pub passing_unread : length kind.kinds ≤ kind.slot_of r.kind → Passing (k + 1) (i + kind.entry_size + r.namelen) (ranged limit k (unread k s r.kind) r) places
        passing_unread past = passing_on refl (noted_unread limit (rows_from count b 2) r rest k s past (name_unread r (le-ltb (kind.slot_of r.kind) (length kind.kinds) past) short) here)

        module _ (slot : ℕ) (at : slot ≡ kind.slot_of r.kind) (read : slot < length kind.kinds) where
          named : name_good r ≡ eqb r.namelen 0
          named = name_read r short (omega arith)

          pub passing_read : (eqb r.namelen 0 && not (met_at places slot)) ≡ true
              → Passing (k + 1) (i + kind.entry_size + r.namelen) (ranged limit k (coded k s r.codec) r) (set places slot (Some (range_of r)))
          passing_read f =
              let q = n.places_of in
              let g = and_parts (eqb r.namelen 0) (not (met_at places slot)) f in
              passing_on (length-set places slot (Some (range_of r))) (noted_read limit (rows_from count b 2) r rest k s slot (sym at) read places (named ∙ g.0) (not-true _ g.1) (omega arith) here)

          -- it has a name, or was met
          pub passing_stale : (eqb r.namelen 0 && not (met_at places slot)) ≡ false → count ≡ entry_count b → answer b limit ≡ Err Refusal.Table
          passing_stale f c = go (eqb r.namelen 0) refl (met_at places slot) refl f
            where
              go : (x : Bool) → eqb r.namelen 0 ≡ x → (y : Bool) → met_at places slot ≡ y → (x && not y) ≡ false → answer b limit ≡ Err Refusal.Table
              go false g y m f = pass_unnamed b limit count c (noted_unnamed limit (rows_from count b 2) r rest k s (named ∙ g) here)
              go true g true m f =
                  pass_doubled b limit count c
                  (kinds_doubled limit (rows_from count b 2) r.kind (omega arith) (noted_twice limit (rows_from count b 2) r rest k s slot (sym at) read places m here))
              go true g false m f = let z : ◌≡◌ {A = ℕ} 0 1 = cc in absurd (omega arith)

  -- all entries are passed
  module _ (k i : ℕ) (s : Seen) (places : List (Option Range)) (n : Passing k i s places) (all : count ≤ k) (c : count ≡ entry_count b) where
    end_is : i ≡ end_from count b 2
    end_is = sym (end_none b count i k all) ∙ n.ends

    pub passing_unfilled : (i + kind.counts_size ≡ length b → ⊥) → answer b limit ≡ Err Refusal.Table
    passing_unfilled h = let e = end_is in pass_unfilled b limit count c (λ q. h (omega arith))

    pub passing_ended : 1 ≤ count → count ≤ kind.most_sections → i + kind.counts_size ≡ length b → framing (passed places s) (framed_seen b places s.streams) ≡ answer b limit
    passing_ended some most filled =
        let e = end_is in pass_ended b limit count c some most (omega arith) k s places (rw (rows_none b count i k all) at n.noted)
