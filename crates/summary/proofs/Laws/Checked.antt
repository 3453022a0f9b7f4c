-- The summary of a file that the full check passes, from what its passes give.
use Rattle.std.specs.Prelude.{◌≡◌, ℕ, ◌+◌, ◌-◌, ◌*◌, ◌/◌, ◌<◌, ◌≤◌, Bool, true, false, List, [], ◌∷◌, length, slice_index, Result, Ok, Option, Some, None, Err}
use Rattle.std.proofs.Math.Path.{refl, sym, ap}
use Rattle.std.proofs.Common.{ap₂, ◌∙◌}
use native.Mathlib.Omega.{arith}
use Rattle.std.proofs.Math.Decide.{dec_lt}
use Rattle.base.specs.Pick.{pick}
use Rattle.codes.specs.declared.ids.Id.{Id}
use Rattle.codes.specs.Little.{le_at}
use Rattle.codes.specs.Ids.{halves_at}
use Rattle.refusal.specs.declared.Refusal.{Refusal}
use Rattle.frame.specs.declared.Opened.{Opened}
use Rattle.frame.specs.Frame.{record_of}
use Rattle.frame.specs.Open.{known_of, bytes_at, key_at, open_of}
use Rattle.degrees.specs.Degrees.{group_at}
use Rattle.group.specs.Group.{degree_of}
use Rattle.frame.proofs.Laws.Open.{opens_record}
use Rattle.index.specs.Order.{KeysRise, OffsetsRise}
use Rattle.lookup.specs.Lookup.{logs_from}
use Rattle.lookup.specs.Record.{Holds}
use Rattle.reader.proofs.Laws.Opened.{opened_keys, opened_offsets}
use Rattle.reader.proofs.Laws.Look.{opened_holds}
use Rattle.batch.specs.declared.Edge.{Edge}
use Rattle.batch_groups.specs.Groups.{groups_of}
use Rattle.full_check.specs.Full.{groups_from, degrees_from, checked_of}
use Rattle.full_check.specs.Checked.{checked_opened, checked_refused, checked_fine}
use Rattle.readout.specs.Edges.{read_from, edges_in}
use Rattle.readout.specs.ReadOut.Laws.{checked_edges, checked_unused, length_edges_in}
use Rattle.agreement.specs.SameEdges.{of_key, edges_of_file}
use Rattle.summary.specs.declared.figures.Extremes.{Extremes}
use Rattle.summary.specs.declared.figures.Summary.{Summary}
use Rattle.summary.specs.declared.logs.Span.{Span}
use Rattle.summary.specs.declared.tally.Tally.{Tally}
use Rattle.summary.specs.Summary.{extremes_of, degrees_of, dead_in, summary_of, summarised, summarised_of}
use Rattle.summary.proofs.Laws.Summary.{length_degrees}
use Rattle.summary.specs.Bits.{count_dead}
use Rattle.summary.proofs.Laws.Marked.{unused_none, unmarked}
use Rattle.summary.specs.Tally.{degree_told, degrees_at, AllTold, tally_of}
use Rattle.summary.proofs.Laws.Tally.{length_degrees_at, degrees_at_at}
use Rattle.summary.specs.Logs.{span_of}
use Rattle.summary.proofs.Laws.Read.{all_told, key_degree_lem, read_dead, read_degrees, read_extremes}
use Rattle.refusal.specs.Check.{Check}

module _ (f : List ℕ) (o : Opened) (e : checked_of f ≡ Ok o) where
  abbrev es : List Edge
  es = edges_in (known_of f o)

  opens : open_of f ≡ Ok o
  opens = checked_opened f o e

  pub checked_holds : Holds f o
  checked_holds = opened_holds f o opens

  abbrev keys : List ℕ
  keys = bytes_at f o.keys

  abbrev ps : List ℕ
  ps = bytes_at f o.partners

  abbrev os : List ℕ
  os = bytes_at f o.offsets

  abbrev w : ℕ
  w = o.bits / 8

  abbrev n : ℕ
  n = o.keycount

  abbrev logs : List ℕ
  logs = bytes_at f o.logs

  abbrev dead : List ℕ
  dead = pick o.marked (bytes_at f o.dead) []

  rise : KeysRise keys n
  rise = opened_keys f o opens

  checked_offsets : OffsetsRise os w n (length ps)
  checked_offsets = opened_offsets f o opens

  good : groups_from ps os w n 0 ≡ (Ok tt)
  good = (checked_edges f o e).0

  total : degrees_from ps os w n 0 ≡ o.edgecount
  total = (checked_edges f o e).1

  -- ---- groups

  checked_told : AllTold ps os w n
  checked_told = all_told keys ps os w logs dead n rise good

  degrees_are : degrees_at ps os w n 0 ≡ degrees_of (groups_of es)
  unfolding edges_in known_of
  degrees_are = sym (read_degrees keys ps os w logs dead n rise good n 0 0 (omega arith))

  -- what the pass over the groups asks of the sections that are lent to it, and what it gives
  module _ {x y : List ℕ} (p : x ≡ bytes_at f o.partners) (q : y ≡ bytes_at f o.offsets) where
    pub tally_asks : (3 ≤ o.bits / 8) × (o.bits / 8 ≤ 6) × (o.keycount ≤ 16777216) × ((o.keycount + 1) * (o.bits / 8) ≤ length y)
        × OffsetsRise y (o.bits / 8) o.keycount (length x) × AllTold x y (o.bits / 8) o.keycount
    tally_asks =
        let h = checked_holds in
        let long = h.offsetbytes in
        rw (p, q) (h.narrow, h.wide, h.few, omega arith, checked_offsets, checked_told)

    pub tally_gives : {t : Tally} → t ≡ tally_of (degrees_at x y (o.bits / 8) o.keycount 0) → t ≡ tally_of (degrees_of (groups_of (edges_in (known_of f o))))
    tally_gives r = r ∙ ap₂ (λ (a b : List ℕ). tally_of (degrees_at a b w n 0)) p q ∙ ap tally_of degrees_are

  -- as many keys as groups
  pub keys_are : o.keycount ≡ length (groups_of (edges_in (known_of f o)))
  keys_are = sym (sym (length_degrees (groups_of es)) ∙ ap length (sym degrees_are) ∙ length_degrees_at ps os w n 0)

  -- the degrees, key by key
  pub degrees_by_key : (i : ℕ) → i < o.keycount → slice_index (degrees_of (groups_of (edges_in (known_of f o)))) i ≡ length (of_key (key_at (bytes_at f o.keys) i) (edges_in (known_of f o)))
  unfolding edges_in known_of
  degrees_by_key i h =
      let z : 0 + i ≡ i = omega arith in
      ap (λ (t : List ℕ). slice_index t i) (sym degrees_are) ∙ degrees_at_at ps os w n 0 i h ∙ ap (λ (t : ℕ). degree_told (degree_of (group_at ps os w t))) z
      ∙ key_degree_lem keys ps os w logs dead n rise good i h

  -- ---- tombstones

  dead_are : count_dead (8 * length dead) dead 0 ≡ dead_in es
  unfolding edges_in known_of
  dead_are = whole o.marked refl ∙ sym (read_dead keys ps os w logs dead n 0 0 ∙ ap (λ (t : ℕ). count_dead t dead 0) total)
    where
      -- the bytes of as many bits as there are edges, or none
      whole : (b : Bool) → o.marked ≡ b → count_dead (8 * length dead) dead 0 ≡ count_dead o.edgecount dead 0
      whole true m =
          let long : length dead ≡ (o.edgecount + 7) / 8 = ap (λ (b : Bool). length (pick b (bytes_at f o.dead) [])) m ∙ checked_holds.deadbytes m in
          unused_none dead o.edgecount (omega arith) (checked_unused f o e)
      whole false m =
          let none : dead ≡ [] = ap (λ (b : Bool). pick b (bytes_at f o.dead) []) m in
          ap (λ (t : List ℕ). count_dead (8 * length t) t 0) none ∙ unmarked (8 * 0) 0 ∙ sym (ap (λ (t : List ℕ). count_dead o.edgecount t 0) none ∙ unmarked o.edgecount 0)

  few_bytes : length dead ≤ 67108864
  few_bytes = go o.marked refl
    where
      go : (b : Bool) → o.marked ≡ b → length dead ≤ 67108864
      go true m =
          let long : length dead ≡ (o.edgecount + 7) / 8 = ap (λ (b : Bool). length (pick b (bytes_at f o.dead) [])) m ∙ checked_holds.deadbytes m in
          let few = checked_holds.edges in
          omega arith
      go false m = let none : length dead ≡ 0 = ap (λ (b : Bool). length (pick b (bytes_at f o.dead) [])) m in omega arith

  module _ {x : List ℕ} (p : x ≡ pick o.marked (bytes_at f o.dead) []) where
    pub dead_asks : length x ≤ 67108864
    dead_asks = rw p few_bytes

    pub dead_gives : {d : ℕ} → d ≡ count_dead (8 * length x) x 0 → d ≡ dead_in (edges_in (known_of f o))
    dead_gives r = r ∙ ap (λ (t : List ℕ). count_dead (8 * length t) t 0) p ∙ dead_are

  -- ---- the smallest and largest

  pub extremes_none : o.edgecount ≡ 0 → None ≡ extremes_of es
  unfolding extremes_of
  extremes_none q = sym (go es (length_edges_in f o e ∙ q))
    where
      go : (xs : List Edge) → length xs ≡ 0 → extremes_of xs ≡ None
      go [] h = refl
      go (x ∷ xs) h = absurd (omega arith)

  -- where there are edges there are keys
  pub some_keys : 1 ≤ o.edgecount → 1 ≤ o.keycount
  unfolding degrees_from
  some_keys h = elim (dec_lt 0 o.keycount) [
    | yes l ↦ omega arith
    | no l ↦ let none : o.keycount ≡ 0 = omega arith in let sum = total in absurd (omega (arith, ap (λ (t : ℕ). degrees_from ps os w t 0) none))
  ]

  module _ (some : 1 ≤ o.edgecount) {x y : List ℕ} (p : x ≡ bytes_at f o.keys) (q : y ≡ bytes_at f o.logs) where
    pub keys_long : o.keycount * 16 ≤ length x
    keys_long = let long = checked_holds.keybytes in rw p (omega arith)

    pub logs_long : 8 * o.edgecount ≤ length y
    logs_long = let long = checked_holds.logbytes in rw q (omega arith)

    pub extremes_some : {a b : Id} {s : Span} → a ≡ halves_at x (0 * 16) → b ≡ halves_at x ((o.keycount - 1) * 16) → s ≡ span_of (le_at y 0 8) (logs_from (o.edgecount - 1) y 1)
        → Some (record { smallestkey = a; largestkey = b; smallestlog = s.smallest; largestlog = s.largest }) ≡ extremes_of (edges_in (known_of f o))
    unfolding edges_in known_of span_of
    extremes_some u v r =
        let span : List ℕ → ℕ → Span = λ l m. span_of (le_at l 0 8) (logs_from (m - 1) l 1) in
        let is : extremes_of (read_from keys ps os w logs dead n 0 0) ≡ Some (record { smallestkey = (halves_at keys (0 * 16)); largestkey = (halves_at keys ((n - 1) * 16)); smallestlog = (span logs o.edgecount).smallest; largestlog = (span logs o.edgecount).largest }) =
        read_extremes keys ps os w logs dead n rise good (some_keys some)
        ∙ ap (λ (t : ℕ). Some (record { smallestkey = (halves_at keys (0 * 16)); largestkey = (halves_at keys ((n - 1) * 16)); smallestlog = (span logs t).smallest; largestlog = (span logs t).largest })) total in
        (λ i. Some (record { smallestkey = (u i); largestkey = (v i); smallestlog = (r i).smallest; largestlog = (r i).largest }))
        ∙ (λ i. Some (record { smallestkey = (halves_at (p i) (0 * 16)); largestkey = (halves_at (p i) ((n - 1) * 16)); smallestlog = (span (q i) o.edgecount).smallest; largestlog = (span (q i) o.edgecount).largest }))
        ∙ sym is

  -- ---- all of it

  pub summary_is : {t : Tally} {d : ℕ} {x : Option Extremes} → t ≡ tally_of (degrees_of (groups_of es)) → d ≡ dead_in es → x ≡ extremes_of es
      → record { keycount = o.keycount; edgecount = o.edgecount; tombstones = d; largestdegree = t.largest; extremes = x; buckets = t.buckets } ≡ summary_of es
  unfolding summary_of tally_of
  summary_is p q r = λ i. record {
    keycount = keys_are i;
    edgecount = sym (length_edges_in f o e) i;
    tombstones = q i;
    largestdegree = (p i).largest;
    extremes = r i;
    buckets = (p i).buckets;
  }

  pub summarised_fine : {s : Summary} → s ≡ summary_of es → ◌≡◌ {A = Result Summary Refusal} (Ok s) (summarised_of f)
  unfolding summarised_of summarised
  summarised_fine q =
      let same : record_of f ≡ o = opens_record f o opens in
      (λ i. Ok (q i))
      ∙ ap (λ (t : Opened). summarised (Ok tt) (summary_of (edges_in (known_of f t)))) (sym same)
      ∙ ap (λ (c : Check). summarised c (summary_of (edges_of_file f))) (sym (checked_fine f o e))

pub summarised_bad : (f : List ℕ) (r : Refusal) → checked_of f ≡ Err r → ◌≡◌ {A = Result Summary Refusal} (Err r) (summarised_of f)
unfolding summarised_of summarised
summarised_bad f r e = ap (λ (c : Check). summarised c (summary_of (edges_of_file f))) (sym (checked_refused f r e))
