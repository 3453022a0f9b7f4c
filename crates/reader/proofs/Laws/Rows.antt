-- An entry of a file's section table, by its number.
use Rattle.std.specs.Prelude.{◌≡◌, List, Bool, ◌&&◌, get_or, ltb, Some, None}
use Rattle.std.proofs.Math.Path.{refl, sym, ap}
use Rattle.std.proofs.Common.{◌∙◌}
use Prim.Native.Nat.{ℕ, zero, suc, ◌+◌, ◌-◌, ◌≤◌, ◌<◌}
use native.Mathlib.Omega.{arith}
use Rattle.std.proofs.Math.Bool.{true, false}
use Rattle.std.proofs.Math.ListN.{length}
use Rattle.std.proofs.Math.Dec.{leb}
use borrow.Author.Tests.{le-leb, lt-leb, lt-ltb, le-ltb}
use Rattle.base.specs.Pick.{pick}
use Rattle.frame.specs.declared.Row.{Row}
use Rattle.frame.specs.Kind as kind
use Rattle.frame.specs.Frame.{row_at, next_at, end_from, entry_count, foot_len, body_of}
use Rattle.frame.proofs.Laws.Frame.{end_room, end_none}
use Rattle.reader.specs.Rows.{moved, row_in, row_of}

-- ---- laws

-- the last entry's end is the place after it
end_last : (d : ℕ) (b : List ℕ) (i : ℕ) → end_from (suc d) b i ≡ next_at b (end_from d b i)
unfolding end_from
end_last zero b i = refl
end_last (suc d) b i = end_last d b (next_at b i)

-- walking to entry i: k entries are passed, the next is at p
module _ (at : ℕ) (b : List ℕ) (i : ℕ) where
  pub row_few : entry_count b ≤ i → row_in at b i ≡ None
  unfolding row_in
  row_few h = simp (le-ltb i (entry_count b) h)

  module _ (k p : ℕ) (e : end_from (i - k) b p ≡ end_from i b 2) (l : k ≤ i) where
    ends : end_from (suc i) b 2 ≡ end_from (suc (i - k)) b p
    ends = end_last i b 2 ∙ ap (next_at b) (sym e) ∙ sym (end_last (i - k) b p)

    pub row_cut : length b < p + 28 → row_in at b i ≡ None
    unfolding row_in
    row_cut h =
        let room = end_room (suc (i - k)) b p in
        let q = ends in
        let past : length b < end_from (suc i) b 2 + kind.counts_size = omega arith in
        go (ltb i (entry_count b)) past
      where
        go : (t : Bool) → length b < end_from (suc i) b 2 + kind.counts_size → pick (t && leb (end_from (suc i) b 2 + kind.counts_size) (length b)) (Some (moved at (row_at b (end_from i b 2)))) None ≡ None
        go true h = simp (lt-leb (end_from (suc i) b 2 + kind.counts_size) (length b) h)
        go false h = refl

    pub row_on : k < i → (name : ℕ) → name ≡ get_or b (p + 3) 0 → end_from (i - (k + 1)) b (p + 28 + name) ≡ end_from i b 2
    unfolding end_from
    row_on lt name q =
        let d : i - k ≡ suc (i - (k + 1)) = omega arith in
        ap (λ (t : ℕ). end_from (i - (k + 1)) b (p + 28 + t)) q ∙ sym (ap (λ (t : ℕ). end_from t b p) d) ∙ e

  -- entry i is at p
  module _ (p : ℕ) (e : p ≡ end_from i b 2) (h : i < entry_count b) where
    last : (name : ℕ) → name ≡ get_or b (p + 3) 0 → end_from (suc i) b 2 ≡ p + 28 + name
    last name q = end_last i b 2 ∙ ap (next_at b) (sym e) ∙ ap (λ (t : ℕ). p + 28 + t) (sym q)

    pub row_past : (name : ℕ) → name ≡ get_or b (p + 3) 0 → length b < p + 28 + name + kind.counts_size → row_in at b i ≡ None
    unfolding row_in
    row_past name q g =
        let z = last name q in
        simp (lt-ltb i (entry_count b) h, lt-leb (end_from (suc i) b 2 + kind.counts_size) (length b) (omega arith))

    pub row_here : (name : ℕ) → name ≡ get_or b (p + 3) 0 → p + 28 + name + kind.counts_size ≤ length b → (r : Row) → r ≡ row_at b p → row_in at b i ≡ Some (moved at r)
    unfolding row_in
    row_here name q g r d =
        let z = last name q in
        simp (lt-ltb i (entry_count b) h, le-leb (end_from (suc i) b 2 + kind.counts_size) (length b) (omega arith))
        (ap (λ (t : Row). Some (moved at t)) (sym (d ∙ ap (row_at b) e)))

pub row_name : (b : List ℕ) (p : ℕ) (r : Row) → r ≡ row_at b p → r.nameat ≡ p + 28
unfolding row_at
row_name b p r e = ap (λ (t : Row). t.nameat) e

-- a file with a footer, and one without
module _ (f : List ℕ) (i : ℕ) where
  pub row_small : length f < 84 → row_of f i ≡ None
  unfolding row_of
  row_small h = simp (lt-leb 84 (length f) h)

  module _ (low : 84 ≤ length f) where
    pub row_large : kind.most_bytes < length f → row_of f i ≡ None
    unfolding row_of
    row_large h = simp (le-leb 84 (length f) low, lt-leb (length f) (kind.most_bytes) h)

    module _ (high : length f ≤ kind.most_bytes) (foot : ℕ) (e : foot ≡ foot_len f) where
      pub row_short : foot < 39 → row_of f i ≡ None
      unfolding row_of
      row_short h = simp (le-leb 84 (length f) low, le-leb (length f) (kind.most_bytes) high, lt-leb 39 (foot_len f) (omega arith))

      module _ (some : 39 ≤ foot) where
        pub row_over : length f - 64 < foot → row_of f i ≡ None
        unfolding row_of
        row_over h =
            simp (le-leb 84 (length f) low, le-leb (length f) (kind.most_bytes) high, le-leb 39 (foot_len f) (omega arith), lt-leb (foot_len f) (length f - 64) (omega arith))

        pub row_footed : foot ≤ length f - kind.header_size → {at : ℕ} {b : List ℕ} → at ≡ length f - foot_len f → b ≡ body_of f → row_of f i ≡ row_in at b i
        unfolding row_of
        row_footed h p q =
            simp (le-leb 84 (length f) low, le-leb (length f) kind.most_bytes high, le-leb 39 (foot_len f) (omega arith), le-leb (foot_len f) (length f - 64) (omega arith))
            (λ j. row_in (sym p j) (sym q j) i)

-- where nothing is left to pass, the next entry is entry i
pub end_here : (b : List ℕ) (i k p : ℕ) → i ≤ k → end_from (i - k) b p ≡ end_from i b 2 → p ≡ end_from i b 2
end_here b i k p h e = sym (end_none b i p k h) ∙ e
