-- Sections of the reserved range: when opening gives 36, exactly, and that no file with such a section opens.
use Rattle.std.specs.Prelude.{◌≡◌, ◌↔◌, ◌⊎◌, ℕ, zero, suc, ◌+◌, ◌<◌, List, [], ◌∷◌, Bool, true, false, not, length, eqb, Ok, Err}
use Rattle.std.proofs.Math.Path.{refl, sym, ap}
use Rattle.std.proofs.Common.{subst, ◌∙◌, inl, inr, ⊎_elim, zero-add, arith, ne_eqb}
use Rattle.std.proofs.Math.Decide.{dec_lt}
use Rattle.codes.specs.Little.{le_at}
use Rattle.refusal.specs.declared.Refusal.{Refusal}
use Rattle.refusal.specs.Refusal.{number_of}
use Rattle.refusal.specs.Check.{◌⊳◌, Check}
use Rattle.refusal.proofs.Laws.Check.{fine_parts, fine_both, bad_then, then_assoc, by_first, by_second, good_parts, good_fine, listed, Numbers, numbers_then, numbers_more, not_given}
use Rattle.frame.specs.declared.Row.{Row}
use Rattle.frame.specs.Kind as kind
use Rattle.frame.specs.Frame.{row_at, next_at, rows_from, end_from, entry_count, rows_of, end_of, body_of, has, repeated, all, name_good, each_row, kind_good, reserved_check, size_check, head_check, tail_check, sum_check}
use Rattle.frame.specs.Frame.Laws.{Table, ReservedKind}
use Rattle.frame.proofs.Laws.Frame.{kinds_alike, table_parts, table_made, reserved_kinds, each_good, each_bad}
use Rattle.frame.specs.Open.{file_check}
use Rattle.frame.specs.Given.{head_numbers, foot_numbers, rest_numbers, early_numbers}
use Rattle.frame.proofs.Laws.Given.{size_numbers, head_numbers_lem, foot_numbers_lem, rest_numbers_lem, rows, foot, remaining, starts_rule, chain}
use Rattle.frame.specs.Reserved.{kind_at, FirstReserved, ButUnread, none, same, other, Tabled, ReservedAt}

-- it is the two bytes where the entry begins, which is where the j entries before it end
pub kind_bytes : (b : List ℕ) (d i j : ℕ) → j < d → kind_at (rows_from d b i) j ≡ le_at b (end_from j b i) 2
unfolding kind_at rows_from end_from row_at
kind_bytes b zero i j h = absurd (omega arith)
kind_bytes b (suc d) i zero h = refl
kind_bytes b (suc d) i (suc j) h = kind_bytes b d (next_at b i) j (omega arith)

pub kind_table : (b : List ℕ) (j : ℕ) → j < entry_count b → kind_at (rows_of b) j ≡ le_at b (end_from j b 2) 2
unfolding rows_of
kind_table b j h = kind_bytes b (entry_count b) 2 j h

abbrev rule : List Row → ℕ → Check
rule = each_row kind_good Refusal.Reserved

kind_bad : (r : Row) → ReservedKind r.kind → kind_good r ≡ false
kind_bad r h = ap not ((reserved_kinds r.kind).1 h)

kind_good_lem : (r : Row) → kind_good r ≡ true → ReservedKind r.kind → ⊥
kind_good_lem r g h = let q : ◌≡◌ {A = ℕ} 0 1 = cc (g, kind_bad r h) in omega arith

kind_found : (r : Row) → kind_good r ≡ false → ReservedKind r.kind
kind_found r e = (reserved_kinds r.kind).0 (go (kind.reserved r.kind) e)
  where
    go : (x : Bool) → not x ≡ false → x ≡ true
    go true e = refl
    go false e = let q : ◌≡◌ {A = ℕ} 0 1 = cc in absurd (omega arith)

-- rows the first of which is entry k: there is no such entry and they are fine, or there is a first and it is told
abbrev Scanned : List Row → ℕ → Type 0
Scanned rs k =
    (((i : ℕ) → ReservedKind (kind_at rs i) → ⊥) × (rule rs k ≡ (Ok tt))) ⊎ ((j : ℕ) × FirstReserved rs j × (rule rs k ≡ Err (Refusal.Reserved (k + j))))

scan : (rs : List Row) (k : ℕ) → Scanned rs k
unfolding kind_at each_row
scan [] k = inl (λ i h. omega (arith, h.0), refl)
scan (r ∷ rs) k = go (kind_good r) refl (scan rs (k + 1))
  where
    at : {i j : ℕ} → i ≡ j → ◌≡◌ {A = Check} (Err (Refusal.Reserved i)) (Err (Refusal.Reserved j))
    at e = ap (λ (i : ℕ). Err (Refusal.Reserved i)) e

    none : kind_good r ≡ true → ((i : ℕ) → ReservedKind (kind_at rs i) → ⊥) → (i : ℕ) → ReservedKind (kind_at (r ∷ rs) i) → ⊥
    none g n zero h = kind_good_lem r g h
    none g n (suc i) h = n i h

    first : kind_good r ≡ true → (j : ℕ) → FirstReserved rs j → (i : ℕ) → i < suc j → ReservedKind (kind_at (r ∷ rs) i) → ⊥
    first g j t zero l h = kind_good_lem r g h
    first g j t (suc i) l h = t.before i (omega arith) h

    go : (t : Bool) → kind_good r ≡ t → Scanned rs (k + 1) → Scanned (r ∷ rs) k
    go true g s =
        let on : rule (r ∷ rs) k ≡ rule rs (k + 1) = each_good kind_good Refusal.Reserved r rs k g in
        ⊎_elim (λ x. inl (none g x.0, on ∙ x.1)) (λ x. inr (suc x.0, record { here = x.1.here; before = first g x.0 x.1 }, on ∙ x.2 ∙ at (omega arith))) s
    go false g s = inr (0, record { here = kind_found r g; before = λ i l. absurd (omega arith) }, each_bad kind_good Refusal.Reserved r rs k g ∙ at (omega arith))

-- there is one first
first_once : (rs : List Row) (i j : ℕ) → FirstReserved rs i → FirstReserved rs j → i ≡ j
first_once rs i j s t =
    elim (dec_lt i j) [
      | yes h ↦ absurd (t.before i h s.here)
      | no h ↦ elim (dec_lt j i) [
        | yes g ↦ absurd (s.before j g t.here)
        | no g ↦ omega arith
      ]
    ]

-- rule 36: entry j is told exactly if it is the first
module _ (rs : List Row) where
  rule_told : (j : ℕ) → (reserved_check rs ≡ Err (Refusal.Reserved j)) ↔ FirstReserved rs j
  rule_told j = (
    λ e. ⊎_elim (λ x. let z : ◌≡◌ {A = ℕ} 0 1 = cc (x.1, e) in absurd (omega arith)) (λ x. let same : 0 + x.0 ≡ j = cc (x.2, e) in subst (FirstReserved rs) (sym (zero-add x.0) ∙ same) x.1) (scan rs 0),
    λ t.
        ⊎_elim (λ x. absurd (x.0 j t.here))
        (λ x. x.2 ∙ ap (λ (i : ℕ). Err (Refusal.Reserved i)) (zero-add x.0 ∙ first_once rs x.0 j x.1 t)) (scan rs 0),
  )

  -- a first, of any
  some_first : (i : ℕ) → ReservedKind (kind_at rs i) → (j : ℕ) × FirstReserved rs j
  some_first i h = ⊎_elim (λ x. absurd (x.0 i h)) (λ x. (x.0, x.1)) (scan rs 0)

module _ (k : ℕ) (h : kind.fixed k ≡ true) where
  unlike : (r : Row) → kind.fixed r.kind ≡ false → eqb r.kind k ≡ false
  unlike r e = ne_eqb r.kind k (λ q. let v : kind.fixed k ≡ false = (rw q at e) in let w : true ≡ false = sym h ∙ v in let z : ◌≡◌ {A = ℕ} 0 1 = cc in omega arith)

  has_same : {rs ts : List Row} → ButUnread rs ts → has k ts ≡ has k rs
  unfolding has
  has_same none = refl
  has_same (same e l d) = rw (e, has_same d)
  has_same (other {r} {t} u v l d) = rw (unlike r u, unlike t v, has_same d)

  twice_same : {rs ts : List Row} → ButUnread rs ts → repeated k ts ≡ repeated k rs
  unfolding repeated
  twice_same none = refl
  twice_same (same e l d) = rw (e, has_same d, twice_same d)
  twice_same (other {r} {t} u v l d) = rw (unlike r u, unlike t v, twice_same d)

names_same : {rs ts : List Row} → ButUnread rs ts → all name_good ts ≡ all name_good rs
unfolding all
names_same none = refl
names_same (same e l d) = rw (e, l, names_same d)
names_same (other u v l d) = rw (u, v, l, names_same d)

pub table_unread : (b c : List ℕ) → Table b → entry_count c ≡ entry_count b → end_of c + kind.counts_size ≡ length c → ButUnread (rows_of b) (rows_of c) → Table c
table_unread b c t n e d =
    let some = t.some in
    let most = t.most in record {
      some = omega arith;
      most = omega arith;
      filled = e;
      names = names_same d ∙ t.names;
      kinds = kinds_alike (rows_of b) (rows_of c) (λ k h. (has_same k h d, twice_same k h d)) ∙ t.kinds;
    }

module _ (f : List ℕ) where
  early : Check
  early = size_check (length f) ⊳ head_check f ⊳ foot f

  tabled_parts : early ≡ (Ok tt) → Tabled f
  unfolding early foot
  tabled_parts e =
      let a = fine_parts (size_check (length f)) _ e in
      let b = fine_parts (head_check f) _ a.1 in
      let c = fine_parts (tail_check (length f) f) _ b.1 in
      let d = fine_parts (sum_check f) _ c.1 in
      record { size = a.0; head = b.0; tail = c.0; sum = d.0; table = table_parts (body_of f) (good_parts Refusal.Table _ d.1) }

  tabled_made : Tabled f → early ≡ (Ok tt)
  unfolding early foot
  tabled_made t = fine_both t.size (fine_both t.head (fine_both t.tail (fine_both t.sum (good_fine Refusal.Table (table_made (body_of f) t.table)))))

  early_numbers_lem : Numbers early_numbers early
  unfolding early
  early_numbers_lem =
      numbers_then early_numbers _ _ (numbers_more (1 ∷ []) early_numbers refl (size_numbers (length f)))
      (numbers_then early_numbers _ _ (numbers_more head_numbers early_numbers refl (head_numbers_lem f)) (numbers_more foot_numbers early_numbers refl (foot_numbers_lem f)))

  parts_order : file_check f ≡ early ⊳ reserved_check (rows f) ⊳ remaining f ⊳ starts_rule f
  unfolding early
  parts_order =
      chain f ∙ sym (then_assoc (size_check (length f)) (head_check f ⊳ foot f) _ ∙ ap (λ (c : Check). size_check (length f) ⊳ c) (then_assoc (head_check f) (foot f) (reserved_check (rows f) ⊳ remaining f ⊳ starts_rule f)))

  -- 36 at j, exactly
  pub reserved_exactly : (j : ℕ) → (file_check f ≡ Err (Refusal.Reserved j)) ↔ ReservedAt f j
  reserved_exactly j =
      let a = by_second early _ (Refusal.Reserved j) (not_given early_numbers early_numbers_lem (Refusal.Reserved j) refl) in
      let b = by_first (reserved_check (rows f)) (remaining f ⊳ starts_rule f) (Refusal.Reserved j) (not_given rest_numbers (rest_numbers_lem f) (Refusal.Reserved j) refl) in (
        λ e. let x = a.0 (sym parts_order ∙ e) in record { tabled = tabled_parts x.0; first = (rule_told (rows f) j).0 (b.0 x.1) },
        λ t. parts_order ∙ a.1 (tabled_made t.tabled, b.1 ((rule_told (rows f) j).1 t.first)),
      )

  -- a file with a section of the range is refused: by one of rules 1 to 9, or by 36 at the first such section
  pub reserved_refused : (i : ℕ) → ReservedKind (kind_at (rows_of (body_of f)) i)
      → (r : Refusal) × (file_check f ≡ Err r) × ((listed (number_of r) early_numbers ≡ true) ⊎ ((j : ℕ) × ReservedAt f j × (r ≡ Refusal.Reserved j)))
  reserved_refused i h = go early refl
    where
      go : (c : Check) → early ≡ c → (r : Refusal) × (file_check f ≡ Err r) × ((listed (number_of r) early_numbers ≡ true) ⊎ ((j : ℕ) × ReservedAt f j × (r ≡ Refusal.Reserved j)))
      go (Err r) e = (r, parts_order ∙ bad_then _ e, inl (early_numbers_lem r e))
      go (Ok tt) e =
          let (j, t) = some_first (rows f) i h in
          let at : ReservedAt f j = record { tabled = tabled_parts e; first = t } in
          (Refusal.Reserved j, (reserved_exactly j).1 at, inr (j, at, refl))
