-- The start index: when opening gives 37, exactly.
use Rattle.std.proofs.Math.Path.{◌≡◌, refl}
use Rattle.std.proofs.Common.{sym, ap, ◌∙◌}
use Rattle.std.specs.Prelude.{◌↔◌, ◌⊎◌, List, [], ◌∷◌, ◌++◌, Bool, not, ◌&&◌, ◌||◌, eqb, ltb, leb, Ok, Err}
use Rattle.std.proofs.Math.Logic.{inl, inr, ⊎_elim}
use Prim.Native.Nat.{ℕ, zero, suc, ◌+◌, ◌-◌, ◌*◌, ◌/◌, ◌≤◌, ◌<◌}
use Rattle.std.proofs.Math.Decide.{ℕ_discrete, dec_lt}
use native.Mathlib.Omega.{arith}
use Rattle.std.proofs.Math.Bool.{true, false}
use borrow.Author.Tests.{eqb-true, eqb-false, ltb-true, eq-eqb, ne_eqb, lt-ltb}
use Rattle.base.specs.Pick.{pick}
use Rattle.codes.specs.Little.{le_at}
use Rattle.refusal.specs.declared.Refusal.{Refusal}
use Rattle.refusal.proofs.Laws.Check.{by_second, and_parts, not_given}
use Rattle.frame.specs.Kind as kind
use Rattle.frame.specs.declared.Row.{Row}
use Rattle.frame.specs.declared.Opened.{Opened}
use Rattle.frame.specs.declared.Framed.{Framed}
use Rattle.frame.specs.Frame.{rows_of, body_of, has, section_of, nowhere, name_good, codec_good, sizes_good, presence_good, record_from, record_of}
use Rattle.frame.proofs.Laws.Frame.{ReadKind, fixed_kinds}
use Rattle.frame.specs.Open.{known_of, bytes_at, start_at, offset_good, rising_from, starts_check, file_check}
use Rattle.frame.specs.Given.{early_numbers, remaining_numbers}
use Rattle.frame.proofs.Laws.Given.{starts_rule, other_rules, others_numbers, chain_starts}
use Rattle.refusal.specs.Check.{Check}

-- "key count plus one u64": where entry i stands, and how many bytes there are, for every count
pub entry_bytes : (s : List ℕ) (i : ℕ) → start_at s i ≡ le_at s (i * 8) 8
entry_bytes s i = refl

pub starts_bytes : (n : ℕ) → kind.starts_len n ≡ (n + 1) * 8
starts_bytes n = refl

-- a section of a kind that is read, so of 0x0200 too, is "raw, unnamed": codec 0 and no name, and no other
pub raw_alone : (r : Row) → ReadKind r.kind → codec_good r ≡ eqb r.codec 0
raw_alone r h = rw ((fixed_kinds r.kind).1 h)

pub unnamed_alone : (r : Row) → ReadKind r.kind → name_good r ≡ eqb r.namelen 0
unnamed_alone r h = rw ((fixed_kinds r.kind).1 h) (go r.namelen)
  where
    go : (n : ℕ) → (leb n 63 && eqb n 0) ≡ eqb n 0
    go zero = refl
    go (suc n) = rw (ne_eqb (suc n) 0 (λ e. omega arith)) (both (leb (suc n) 63))
      where
        both : (b : Bool) → (b && false) ≡ false
        both true = refl
        both false = refl

-- whether it is there is the table's word, and where it lies too; the rules of presence do not see it: "lawful at any minor version and any
-- key count"
pub starts_there : (f : List ℕ) → ((record_of f).indexed ≡ has 0x0200 (rows_of (body_of f))) × ((record_of f).starts ≡ section_of 0x0200 (rows_of (body_of f)))
unfolding record_of record_from
starts_there f = (refl, refl)

abbrev without : Framed → Framed
without x = record {
  opened = record {
    keys = x.opened.keys;
    offsets = x.opened.offsets;
    partners = x.opened.partners;
    logs = x.opened.logs;
    marked = x.opened.marked;
    dead = x.opened.dead;
    indexed = false;
    starts = nowhere;
    keycount = x.opened.keycount;
    edgecount = x.opened.edgecount;
    bits = x.opened.bits;
  };
  fenced = x.fenced;
  fences = x.fences;
  streams = x.streams;
}

pub presence_same : (flags : ℕ) (x : Framed) → presence_good flags x ≡ presence_good flags (without x)
unfolding presence_good
presence_same flags x = refl

-- 12 and 21 ask its length and no more of it
pub long_alone : (o : Opened) → o.indexed ≡ true → sizes_good o ≡ (sizes_good (without (record { opened = o; fenced = false; fences = nowhere; streams = false })).opened && eqb o.starts.len ((o.keycount + 1) * 8))
unfolding sizes_good
long_alone o m = rw m (go (leb o.keycount kind.most_keys) (leb o.edgecount kind.most_edges) (eqb o.keys.len (kind.keys_len o.keycount)) (eqb o.offsets.len (kind.offsets_len o.keycount (o.bits / 8))) (eqb o.logs.len (kind.logs_len o.edgecount)) (not o.marked || eqb o.dead.len (kind.tombstones_len o.edgecount)) (eqb o.starts.len ((o.keycount + 1) * 8)))
  where
    go : (a b c d e f g : Bool) → (a && (b && (c && (d && (e && (f && g)))))) ≡ ((a && (b && (c && (d && (e && (f && true)))))) && g)
    go true true true true true true g = refl
    go true true true true true false g = refl
    go true true true true false f g = refl
    go true true true false e f g = refl
    go true true false d e f g = refl
    go true false c d e f g = refl
    go false b c d e f g = refl

-- s holds the start index of n keys and e edges
module _ (s : List ℕ) (n e : ℕ) where
  -- "entry 0 not 0; entry i not above entry i - 1; entry n not the edge count"
  abbrev pub BadEntry : ℕ → Type 0
  BadEntry i = ((i ≡ 0) × (start_at s 0 ≡ 0 → ⊥)) ⊎ (((1 ≤ i) × (start_at s i ≤ start_at s (i - 1))) ⊎ ((i ≡ n) × (start_at s n ≡ e → ⊥)))

  -- entry i is "the first bad entry"
  pub record FirstEntry (i : ℕ) : Type 0 where
    pub within : i ≤ n
    pub here : BadEntry i
    pub before : (j : ℕ) → j < i → BadEntry j → ⊥

  abbrev good : ℕ → Bool
  good = offset_good s kind.start_size n e

  abbrev rises : ℕ → Bool
  rises i = pick (eqb i 0) (eqb (start_at s i) 0) (ltb (start_at s (i - 1)) (start_at s i))

  abbrev ends : ℕ → Bool
  ends i = not (eqb i n) || eqb (start_at s i) e

  ends_at : (i : ℕ) → ends i ≡ true → i ≡ n → start_at s n ≡ e
  ends_at i q z = ap (start_at s) (sym z) ∙ eqb-true (start_at s i) e (rw (eq-eqb i n z) at q)

  good_entry : (i : ℕ) → good i ≡ true → BadEntry i → ⊥
  unfolding offset_good
  good_entry i g =
      let p = and_parts (rises i) (ends i) g in
      ⊎_elim
      (λ x. x.1 (ap (start_at s) (sym x.0) ∙ eqb-true (start_at s i) 0 (rw (eq-eqb i 0 x.0) at p.0)))
      (⊎_elim
      (λ x. let up = ltb-true (start_at s (i - 1)) (start_at s i) (rw (ne_eqb i 0 (λ z. omega (arith, x.0))) at p.0) in omega (arith, x.1))
      (λ x. x.1 (ends_at i p.1 x.0)))

  clash : {t : Bool} → t ≡ true → t ≡ false → ⊥
  clash a b = let q : ◌≡◌ {A = ℕ} 0 1 = cc in omega arith

  -- a bad end: the last entry, and it is not the edge count
  ends_bad : (i : ℕ) → ends i ≡ false → BadEntry i
  ends_bad i q = go (eqb i n) refl (eqb (start_at s i) e) refl q
    where
      go : (x : Bool) → eqb i n ≡ x → (y : Bool) → eqb (start_at s i) e ≡ y → (not x || y) ≡ false → BadEntry i
      go true u true v q = absurd (clash refl q)
      go true u false v q = let z = eqb-true i n u in inr (inr (z, λ w. eqb-false (start_at s i) e v (ap (start_at s) z ∙ w)))
      go false u y v q = absurd (clash refl q)

  bad_entry : (i : ℕ) → good i ≡ false → BadEntry i
  unfolding offset_good
  bad_entry i g =
      elim (ℕ_discrete i 0) [
        | yes z ↦ elim (ℕ_discrete (start_at s 0) 0) [
          | yes a ↦ ends_bad i (rest (rises i) (rw (eq-eqb i 0 z, eq-eqb (start_at s i) 0 (ap (start_at s) z ∙ a))) g)
          | no a ↦ inl (z, a)
        ]
        | no z ↦ elim (dec_lt (start_at s (i - 1)) (start_at s i)) [
          | yes a ↦ ends_bad i (rest (rises i) (rw (ne_eqb i 0 z, lt-ltb (start_at s (i - 1)) (start_at s i) a)) g)
          | no a ↦ inr (inl (omega arith, omega arith))
        ]
      ]
    where
      rest : (x : Bool) {y : Bool} → x ≡ true → (x && y) ≡ false → y ≡ false
      rest true e q = q
      rest false e q = absurd (clash e refl)

  -- of d entries from b on, entry i is the first bad one
  pub record FirstFrom (d b i : ℕ) : Type 0 where
    pub least : b ≤ i
    pub within : i < b + d
    pub here : BadEntry i
    pub before : (j : ℕ) → b ≤ j → j < i → BadEntry j → ⊥

  abbrev rule : ℕ → ℕ → Check
  rule d b = rising_from Refusal.Start d s kind.start_size n e b

  told_from : (d b i : ℕ) → (rule d b ≡ Err (Refusal.Start i)) ↔ FirstFrom d b i
  unfolding rising_from
  told_from zero b i = (λ q. let z : ◌≡◌ {A = ℕ} 0 1 = cc in absurd (omega arith), λ t. let l = t.least in let h = t.within in absurd (omega arith))
  told_from (suc d) b i = (there (good b) refl (told_from d (b + 1) i).0, λ t. back t (told_from d (b + 1) i).1)
    where
      there : (x : Bool) → good b ≡ x → (rule d (b + 1) ≡ Err (Refusal.Start i) → FirstFrom d (b + 1) i)
          → pick x (rule d (b + 1)) (Err (Refusal.Start b)) ≡ Err (Refusal.Start i) → FirstFrom (suc d) b i
      there true g ih q =
          let t = ih q in
          let least = t.least in
          let within = t.within in record {
            least = omega arith;
            within = omega arith;
            here = t.here;
            before = λ j l h.
                elim (ℕ_discrete b j) [
                  | yes z ↦ good_entry j (rw z at g)
                  | no z ↦ t.before j (omega arith) h
                ];
          }
      there false g ih q =
          let same : b ≡ i = cc in record {
            least = omega arith;
            within = omega arith;
            here = rw same at (bad_entry b g);
            before = λ j l h. absurd (omega arith);
          }

      back : FirstFrom (suc d) b i → (FirstFrom d (b + 1) i → rule d (b + 1) ≡ Err (Refusal.Start i)) → pick (good b) (rule d (b + 1)) (Err (Refusal.Start b)) ≡ Err (Refusal.Start i)
      back t ih = go (good b) refl
        where
          go : (x : Bool) → good b ≡ x → pick x (rule d (b + 1)) (Err (Refusal.Start b)) ≡ Err (Refusal.Start i)
          go true g =
              let least = t.least in
              let within = t.within in
              elim (ℕ_discrete b i) [
                | yes z ↦ absurd (good_entry b g (rw z t.here))
                | no z ↦ ih (record { least = omega arith; within = omega arith; here = t.here; before = λ j l h. t.before j (omega arith) h })
              ]
          go false g =
              let least = t.least in
              elim (ℕ_discrete b i) [
                | yes z ↦ ap (λ (x : ℕ). Err (Refusal.Start x)) z
                | no z ↦ absurd (t.before b (omega arith) (omega arith) (bad_entry b g))
              ]

  -- rule 37: entry i is told exactly if it is the first bad one
  pub starts_told : (i : ℕ) → (starts_check s n e ≡ Err (Refusal.Start i)) ↔ FirstEntry i
  starts_told i =
      let t = told_from (n + 1) 0 i in (
        λ q. let x = t.0 q in let within = x.within in record { within = omega arith; here = x.here; before = λ j h. x.before j (omega arith) h },
        λ x. let within = x.within in t.1 (record { least = omega arith; within = omega arith; here = x.here; before = λ j l h. x.before j h }),
      )

-- ---- a file

-- "37, place the first bad entry, after 15": every other rule passes, there is a start index, and entry i is its first bad one
pub record StartAt (f : List ℕ) (i : ℕ) : Type 0 where
  pub others : other_rules f ≡ (Ok tt)
  pub there : (record_of f).indexed ≡ true
  pub first : FirstEntry (bytes_at f (record_of f).starts) (record_of f).keycount (record_of f).edgecount i

module _ (f : List ℕ) where
  rule_there : (record_of f).indexed ≡ true → starts_rule f ≡ starts_check (bytes_at f (record_of f).starts) (record_of f).keycount (record_of f).edgecount
  unfolding known_of
  rule_there m = rw m

  rule_needs : (i : ℕ) → starts_rule f ≡ Err (Refusal.Start i) → (record_of f).indexed ≡ true
  unfolding known_of
  rule_needs i = go (record_of f).indexed
    where
      go : (b : Bool) → pick b (starts_check (pick b (bytes_at f (record_of f).starts) []) (record_of f).keycount (record_of f).edgecount) (Ok tt) ≡ Err (Refusal.Start i) → b ≡ true
      go true q = refl
      go false q = let z : ◌≡◌ {A = ℕ} 0 1 = cc in absurd (omega arith)

  -- 37 at i, exactly
  pub starts_exactly : (i : ℕ) → (file_check f ≡ Err (Refusal.Start i)) ↔ StartAt f i
  starts_exactly i =
      let r : Refusal = Refusal.Start i in
      let a = by_second (other_rules f) (starts_rule f) r (not_given (early_numbers ++ (36 ∷ remaining_numbers)) (others_numbers f) r refl) in
      let t = starts_told (bytes_at f (record_of f).starts) (record_of f).keycount (record_of f).edgecount i in (
        λ q.
            let x = a.0 (sym (chain_starts f) ∙ q) in
            let m = rule_needs i x.1 in
            record { others = x.0; there = m; first = t.0 (sym (rule_there m) ∙ x.1) },
        λ x. chain_starts f ∙ a.1 (x.others, rule_there x.there ∙ t.1 x.first),
      )
