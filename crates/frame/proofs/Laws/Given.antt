-- Which refusals opening gives: the order of checks in parts, and the numbers of each.
use Rattle.std.specs.Prelude.{◌≡◌, Bool, true, not, ◌&&◌, ◌||◌, length, get_or, ltb, eqb, Ok, Err}
use Rattle.std.proofs.Math.Path.{refl, ap}
use Rattle.std.proofs.Common.{sym, ◌∙◌}
use Prim.Native.Nat.{ℕ, zero, suc, ◌+◌, ◌-◌, ◌/◌}
use mathlib.Core.List.{List, [], ◌∷◌, ◌++◌}
use Rattle.codes.specs.Little.{le_at}
use Rattle.xxh3_spec.specs.Xxh3.{xxh3}
use Rattle.refusal.specs.declared.Refusal.{Refusal}
use Rattle.refusal.specs.Refusal.{number_of}
use Rattle.refusal.specs.Check.{◌⊳◌, refuse, Check}
use Rattle.refusal.proofs.Laws.Check.{then_assoc, listed, Numbers, numbers_fine, numbers_bad, numbers_refuse, numbers_then, numbers_pick, numbers_more}
use Rattle.frame.specs.declared.Row.{Row}
use Rattle.frame.specs.Kind as kind
use Rattle.frame.specs.Frame.{each_row, kind_good, codec_good, range_good, ranges, table_good, counts_good, record_of, framed_of, rows_of, body_of, foot_len, flags_of, size_check, head_check, tail_check, sum_check, table_check, reserved_check, codec_check, range_check, counts_check, ends_check, rows_check, footer_check, shape_check, frame_check}
use Rattle.frame.specs.Open.{Known, known_of, bytes_at, key_at, keys_from, offset_good, rising_from, offsets_check, fences_good, indexed_check, content_check, file_check}
use Rattle.frame.specs.Given.{head_numbers, foot_numbers, remaining_numbers, rest_numbers, early_numbers, opening_numbers}

-- ---- the tests of rules 2 to 8

module _ (f : List ℕ) where
  abbrev pub other_magic : Bool
  other_magic = not (eqb (le_at f 0 8) kind.magic)

  abbrev pub other_major : Bool
  other_major = not (eqb (get_or f 8 0) 1)

  abbrev pub other_size : Bool
  other_size = not (eqb (le_at f 10 2) kind.header_size)

  abbrev pub more_flags : Bool
  more_flags = ltb 15 (flags_of f)

  abbrev pub other_tail : Bool
  other_tail = not (eqb (le_at f (length f - 8) 8) kind.magic)

  abbrev pub other_foot : Bool
  other_foot = ltb (foot_len f) kind.least_footer || ltb (length f - kind.header_size) (foot_len f)

  abbrev pub other_sum : Bool
  other_sum = not (eqb (xxh3 (body_of f)) (le_at f (length f - 20) 8))

pub size_numbers : (n : ℕ) → Numbers (1 ∷ []) (size_check n)
unfolding size_check
size_numbers n = numbers_refuse (1 ∷ []) Refusal.Size (ltb n 84 || ltb kind.most_bytes n) refl

each_numbers : (ns : List ℕ) (good : Row → Bool) (told : ℕ → Refusal) → ((k : ℕ) → listed (number_of (told k)) ns ≡ true) → (rs : List Row) (k : ℕ) → Numbers ns (each_row good told rs k)
unfolding each_row
each_numbers ns good told h [] k = numbers_fine ns
each_numbers ns good told h (r ∷ rs) k = numbers_pick ns (good r) _ _ (each_numbers ns good told h rs (k + 1)) (numbers_bad ns (told k) (h k))

ranges_numbers : (limit : ℕ) (rs : List Row) (floor k : ℕ) → Numbers remaining_numbers (ranges limit rs floor k)
unfolding ranges
ranges_numbers limit [] floor k = numbers_fine remaining_numbers
ranges_numbers limit (r ∷ rs) floor k =
    numbers_pick remaining_numbers (range_good limit floor r) _ _ (ranges_numbers limit rs (r.start + r.len) (k + 1)) (numbers_bad remaining_numbers (Refusal.Range k) refl)

keys_numbers : (d : ℕ) (s : List ℕ) (k : ℕ) → Numbers remaining_numbers (keys_from d s k)
unfolding keys_from
keys_numbers zero s k = numbers_fine remaining_numbers
keys_numbers (suc d) s k =
    numbers_pick remaining_numbers (ltb (key_at s (k - 1)) (key_at s k)) _ _ (keys_numbers d s (k + 1)) (numbers_bad remaining_numbers (Refusal.Key k) refl)

rising_numbers : (ns : List ℕ) (told : ℕ → Refusal) → ((i : ℕ) → listed (number_of (told i)) ns ≡ true) → (d : ℕ) (o : List ℕ) (w n len i : ℕ) → Numbers ns (rising_from told d o w n len i)
unfolding rising_from
rising_numbers ns told h zero o w n len i = numbers_fine ns
rising_numbers ns told h (suc d) o w n len i =
    numbers_pick ns (offset_good o w n len i) _ _ (rising_numbers ns told h d o w n len (i + 1)) (numbers_bad ns (told i) (h i))

-- 13 to 15
abbrev inner_check : Known → Bool → List ℕ → Check
inner_check k fenced fences =
    keys_from (k.keycount - 1) k.keys 1
    ⊳ offsets_check k.offsets (k.bits / 8) k.keycount (length k.partners)
    ⊳ refuse Refusal.Fences (fenced && not (fences_good fences k.keys k.keycount))

-- then 37
inner_then : (k : Known) (fenced : Bool) (fences : List ℕ) → content_check k fenced fences ≡ inner_check k fenced fences ⊳ indexed_check k
unfolding content_check
inner_then k fenced fences =
    let keys : Check = keys_from (k.keycount - 1) k.keys 1 in
    let offsets : Check = offsets_check k.offsets (k.bits / 8) k.keycount (length k.partners) in
    let third : Check = refuse Refusal.Fences (fenced && not (fences_good fences k.keys k.keycount)) in
    sym (then_assoc keys (offsets ⊳ third) (indexed_check k) ∙ ap (λ (c : Check). keys ⊳ c) (then_assoc offsets third (indexed_check k)))

inner_numbers : (k : Known) (fenced : Bool) (fences : List ℕ) → Numbers remaining_numbers (inner_check k fenced fences)
inner_numbers k fenced fences =
    numbers_then remaining_numbers _ _ (keys_numbers (k.keycount - 1) k.keys 1)
    (numbers_then remaining_numbers _ _ (rising_numbers remaining_numbers Refusal.Offset (λ i. refl) (k.keycount + 1) k.offsets (k.bits / 8) k.keycount (length k.partners) 0)
    (numbers_refuse remaining_numbers Refusal.Fences (fenced && not (fences_good fences k.keys k.keycount)) refl))

-- ---- the order of checks in parts: size, header, 6 to 9, 36, 10 to 15, and 37

module _ (f : List ℕ) where
  abbrev pub rows : List Row
  rows = rows_of (body_of f)

  abbrev inner : Check
  inner = inner_check (known_of f (record_of f)) (framed_of f).fenced (bytes_at f (framed_of f).fences)

  -- 37
  abbrev pub starts_rule : Check
  starts_rule = indexed_check (known_of f (record_of f))

  unfoldable pub foot : Check
  foot = tail_check (length f) f ⊳ sum_check f ⊳ table_check (body_of f)

  unfoldable pub remaining : Check
  remaining = codec_check rows ⊳ range_check (length f - foot_len f) rows ⊳ counts_check (flags_of f) (framed_of f) ⊳ inner

  pub head_numbers_lem : Numbers head_numbers (head_check f)
  unfolding head_check
  head_numbers_lem =
      numbers_then head_numbers _ _ (numbers_refuse head_numbers Refusal.Magic (other_magic f) refl)
      (numbers_then head_numbers _ _ (numbers_refuse head_numbers Refusal.Major (other_major f) refl)
      (numbers_then head_numbers _ _ (numbers_refuse head_numbers Refusal.HeaderSize (other_size f) refl) (numbers_refuse head_numbers Refusal.Flags (more_flags f) refl)))

  pub foot_numbers_lem : Numbers foot_numbers foot
  unfolding foot tail_check sum_check
  foot_numbers_lem =
      numbers_then foot_numbers _ _
      (numbers_then foot_numbers _ _ (numbers_refuse foot_numbers Refusal.TailMagic (other_tail f) refl) (numbers_refuse foot_numbers Refusal.FooterLength (other_foot f) refl))
      (numbers_then foot_numbers _ _ (numbers_refuse foot_numbers Refusal.FooterSum (other_sum f) refl) (numbers_refuse foot_numbers Refusal.Table (not (table_good (body_of f))) refl))

  pub reserved_numbers : Numbers (36 ∷ []) (reserved_check rows)
  reserved_numbers = each_numbers (36 ∷ []) kind_good Refusal.Reserved (λ k. refl) rows 0

  pub remaining_numbers_lem : Numbers remaining_numbers remaining
  unfolding remaining
  remaining_numbers_lem =
      numbers_then remaining_numbers _ _ (each_numbers remaining_numbers codec_good Refusal.Codec (λ k. refl) rows 0)
      (numbers_then remaining_numbers _ _ (ranges_numbers (length f - foot_len f) rows kind.header_size 0)
      (numbers_then remaining_numbers _ _ (numbers_refuse remaining_numbers Refusal.Counts (not (counts_good (flags_of f) (framed_of f))) refl)
      (inner_numbers (known_of f (record_of f)) (framed_of f).fenced (bytes_at f (framed_of f).fences))))

  pub starts_numbers : Numbers (37 ∷ []) starts_rule
  starts_numbers =
      let k : Known = known_of f (record_of f) in
      numbers_pick (37 ∷ []) k.indexed _ _ (rising_numbers (37 ∷ []) Refusal.Start (λ i. refl) (k.keycount + 1) k.starts kind.start_size k.keycount k.edgecount 0) (numbers_fine (37 ∷ []))

  pub rest_numbers_lem : Numbers rest_numbers (remaining ⊳ starts_rule)
  rest_numbers_lem = numbers_then rest_numbers _ _ (numbers_more remaining_numbers rest_numbers refl remaining_numbers_lem) (numbers_more (37 ∷ []) rest_numbers refl starts_numbers)

-- parts of the order, one after the other
flat : (a b c d e r x y z w v : Check) → ((a ⊳ ((b ⊳ c) ⊳ (d ⊳ (e ⊳ (r ⊳ (x ⊳ y)))))) ⊳ z) ⊳ (w ⊳ v) ≡ a ⊳ (b ⊳ ((c ⊳ (d ⊳ e)) ⊳ (r ⊳ ((x ⊳ (y ⊳ (z ⊳ w))) ⊳ v))))
flat (Err q) b c d e r x y z w v = refl
flat (Ok _) (Err q) c d e r x y z w v = refl
flat (Ok _) (Ok _) (Err q) d e r x y z w v = refl
flat (Ok _) (Ok _) (Ok _) (Err q) e r x y z w v = refl
flat (Ok _) (Ok _) (Ok _) (Ok _) (Err q) r x y z w v = refl
flat (Ok _) (Ok _) (Ok _) (Ok _) (Ok _) (Err q) x y z w v = refl
flat (Ok _) (Ok _) (Ok _) (Ok _) (Ok _) (Ok _) (Err q) y z w v = refl
flat (Ok _) (Ok _) (Ok _) (Ok _) (Ok _) (Ok _) (Ok _) (Err q) z w v = refl
flat (Ok _) (Ok _) (Ok _) (Ok _) (Ok _) (Ok _) (Ok _) (Ok _) z w v = sym (then_assoc z w v)

module _ (f : List ℕ) where
  pub chain : file_check f ≡ size_check (length f) ⊳ head_check f ⊳ foot f ⊳ reserved_check (rows f) ⊳ remaining f ⊳ starts_rule f
  unfolding file_check frame_check shape_check ends_check footer_check rows_check foot remaining
  chain =
      ap (λ (c : Check). frame_check (length f) f f ⊳ c) (inner_then (known_of f (record_of f)) (framed_of f).fenced (bytes_at f (framed_of f).fences))
      ∙ flat (size_check (length f)) (head_check f) (tail_check (length f) f) (sum_check f) (table_check (body_of f)) (reserved_check (rows f)) (codec_check (rows f))
      (range_check (length f - foot_len f) (rows f)) (counts_check (flags_of f) (framed_of f)) (inner f) (starts_rule f)

  -- all but 37
  unfoldable pub other_rules : Check
  other_rules = size_check (length f) ⊳ head_check f ⊳ foot f ⊳ reserved_check (rows f) ⊳ remaining f

  pub chain_starts : file_check f ≡ other_rules ⊳ starts_rule f
  unfolding other_rules
  chain_starts = chain ∙ regroup (size_check (length f)) (head_check f) (foot f) (reserved_check (rows f)) (remaining f) (starts_rule f)
    where
      regroup : (a b c d e v : Check) → a ⊳ (b ⊳ (c ⊳ (d ⊳ (e ⊳ v)))) ≡ (a ⊳ (b ⊳ (c ⊳ (d ⊳ e)))) ⊳ v
      regroup (Err q) b c d e v = refl
      regroup (Ok _) (Err q) c d e v = refl
      regroup (Ok _) (Ok _) (Err q) d e v = refl
      regroup (Ok _) (Ok _) (Ok _) (Err q) e v = refl
      regroup (Ok _) (Ok _) (Ok _) (Ok _) e v = refl

  pub others_numbers : Numbers (early_numbers ++ (36 ∷ remaining_numbers)) other_rules
  unfolding other_rules
  others_numbers =
      let ns : List ℕ = early_numbers ++ (36 ∷ remaining_numbers) in
      numbers_then ns _ _ (numbers_more (1 ∷ []) ns refl (size_numbers (length f)))
      (numbers_then ns _ _ (numbers_more head_numbers ns refl (head_numbers_lem f))
      (numbers_then ns _ _ (numbers_more foot_numbers ns refl (foot_numbers_lem f))
      (numbers_then ns _ _ (numbers_more (36 ∷ []) ns refl (reserved_numbers f)) (numbers_more remaining_numbers ns refl (remaining_numbers_lem f)))))

  -- opening gives no number but these
  pub opening_numbers_lem : Numbers opening_numbers (file_check f)
  opening_numbers_lem r e =
      numbers_then opening_numbers _ _ (numbers_more (early_numbers ++ (36 ∷ remaining_numbers)) opening_numbers refl others_numbers) (numbers_more (37 ∷ []) opening_numbers refl (starts_numbers f))
      r (sym chain_starts ∙ e)
