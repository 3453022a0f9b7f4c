-- What the caller's table holds after the call: for a file that opens, the entries of the section table in their order,
-- and past them what it held before.
use Rattle.std.specs.Prelude.{◌≡◌, length, set, drop, get_or, Ok}
use Rattle.std.proofs.Math.Path.{refl, sym, ap}
use Rattle.std.proofs.Common.{◌∙◌, zero-add, length-append}
use Prim.Native.Nat.{ℕ, zero, suc, ◌+◌, ◌-◌, ◌≤◌, ◌<◌}
use Rattle.std.proofs.Math.Decide.{dec_le}
use native.Mathlib.Omega.{arith}
use mathlib.Core.List.{List, [], ◌∷◌, ◌++◌, map, map-append}
use Rattle.std.proofs.Math.ListN.{get_or-append}
use Rattle.std.proofs.lemmas.List.Edits.{sets}
use Rattle.std.proofs.lemmas.List.{get_or_at}
use Rattle.base.specs.Over.{sets_append, sets_over}
use Rattle.frame.specs.declared.Row.{Row}
use Rattle.frame.specs.declared.Opened.{Opened}
use Rattle.frame.specs.Kind as kind
use Rattle.frame.specs.Frame.{row_at, next_at, rows_from, end_from, rows_of, end_of, foot_len, body_of}
use Rattle.frame.proofs.Laws.Frame.{end_room}
use Rattle.frame.specs.Open.{open_of}
use Rattle.frame.specs.Open.Laws.{Frames}
use Rattle.frame.proofs.Laws.Open.{opens_parts, size_parts, tail_parts}
use Rattle.reader.specs.Rows.{moved}
use Rattle.reader.proofs.Laws.Rows.{row_here, row_footed}
use Rattle.listing.specs.List.{rows_needed, row_of_section, row_is, listed}
use Rattle.listing.specs.Table.{rows_to, body_at}

pub length_rows_to : (f : List ℕ) (n : ℕ) → length (rows_to f n) ≡ n
unfolding rows_to
length_rows_to f zero = refl
length_rows_to f (suc n) = simp length-append (let e = length_rows_to f n in omega arith)

-- row i of them
pub rows_to_at : (f : List ℕ) (n i : ℕ) (d : Row) → i < n → get_or (rows_to f n) i d ≡ row_is f i
unfolding rows_to
rows_to_at f zero i d h = absurd (omega arith)
rows_to_at f (suc n) i d h =
    let l = length_rows_to f n in
    elim (dec_le n i) [
      | yes g ↦
          let e : i ≡ n = omega arith in
          rw e (get_or_at (rows_to f n) (row_is f n) [] d n l)
      | no g ↦ get_or-append (rows_to f n) (row_is f n ∷ []) d i (omega arith) ∙ rows_to_at f n i d (omega arith)
    ]

listed_sets : (f : List ℕ) (n : ℕ) (ys : List Row) → listed f n ys ≡ sets ys 0 (rows_to f n)
unfolding listed rows_to
listed_sets f zero ys = refl
listed_sets f (suc n) ys =
    ap (λ (t : List Row). set t n (row_is f n)) (listed_sets f n ys)
    ∙ ap (λ (k : ℕ). set (sets ys 0 (rows_to f n)) k (row_is f n)) (sym (zero-add (length (rows_to f n)) ∙ length_rows_to f n))
    ∙ sym (sets_append (rows_to f n) (row_is f n ∷ []) ys 0)

-- the table: the first n rows, and then what lies past them
pub listed_is : (f : List ℕ) (n : ℕ) (ys : List Row) → n ≤ length ys → listed f n ys ≡ rows_to f n ++ drop n ys
listed_is f n ys h =
    listed_sets f n ys ∙ sets_over (rows_to f n) ys (rw (length_rows_to f n) h)
    ∙ ap (λ (k : ℕ). rows_to f n ++ drop k ys) (length_rows_to f n)

-- ---- a file's entries

-- the last of several entries, and the place after it
rows_last : (d : ℕ) (b : List ℕ) (p : ℕ) → rows_from (suc d) b p ≡ rows_from d b p ++ (row_at b (end_from d b p) ∷ [])
unfolding rows_from end_from
rows_last zero b p = refl
rows_last (suc d) b p = ap (λ (t : List Row). row_at b p ∷ t) (rows_last d b (next_at b p))

end_last : (d : ℕ) (b : List ℕ) (p : ℕ) → end_from (suc d) b p ≡ next_at b (end_from d b p)
unfolding end_from
end_last zero b p = refl
end_last (suc d) b p = end_last d b (next_at b p)

end_split : (d k : ℕ) (b : List ℕ) (p : ℕ) → end_from (d + k) b p ≡ end_from k b (end_from d b p)
unfolding end_from
end_split zero k b p = ap (λ (n : ℕ). end_from n b p) (zero-add k)
end_split (suc d) k b p =
    let e : suc d + k ≡ suc (d + k) = omega arith in
    ap (λ (n : ℕ). end_from n b p) e ∙ end_split d k b (next_at b p)

module _ (f : List ℕ) (s : Frames f) where
  abbrev b : List ℕ
  b = body_of f

  -- entry i ends before the counts do
  entry_room : (i : ℕ) → i < rows_needed f → next_at b (end_from i b 2) + kind.counts_size ≤ length b
  unfolding end_of
  entry_room i h =
      let rest : ℕ = rows_needed f - suc i in
      let all : suc i + rest ≡ rows_needed f = omega arith in
      let a : end_from rest b (next_at b (end_from i b 2)) ≡ end_from (rows_needed f) b 2 =
      ap (end_from rest b) (sym (end_last i b 2)) ∙ sym (end_split (suc i) rest b 2) ∙ ap (λ (n : ℕ). end_from n b 2) all in
      let room = end_room rest b (next_at b (end_from i b 2)) in
      let filled = s.table.filled in
      omega arith

  -- row i is entry i of the table, with its name's place counted from the file's first byte
  pub row_is_lem : (i : ℕ) → i < rows_needed f → row_is f i ≡ moved (body_at f) (row_at b (end_from i b 2))
  unfolding row_is row_of_section body_of
  row_is_lem i h =
      let z = size_parts (length f) s.size in
      let t = tail_parts (length f) f s.tail in
      ap row_of_section (row_footed f i z.0 z.1 (foot_len f) refl t.0 t.1 refl refl
      ∙ row_here (body_at f) b i (end_from i b 2) refl h (get_or b (end_from i b 2 + 3) 0) refl (entry_room i h) (row_at b (end_from i b 2)) refl)

  rows_to_is : (n : ℕ) → n ≤ rows_needed f → rows_to f n ≡ map (moved (body_at f)) (rows_from n b 2)
  unfolding rows_to rows_from
  rows_to_is zero h = refl
  rows_to_is (suc n) h =
      ap (λ (t : List Row). t ++ (row_is f n ∷ [])) (rows_to_is n (omega arith))
      ∙ ap (λ (r : Row). map (moved (body_at f)) (rows_from n b 2) ++ (r ∷ [])) (row_is_lem n (omega arith))
      ∙ sym (map-append (moved (body_at f)) (rows_from n b 2) (row_at b (end_from n b 2) ∷ []))
      ∙ ap (map (moved (body_at f))) (sym (rows_last n b 2))

-- a file that opens, and a table with room for its sections: they stand there "in table order", and "rows past the count
-- stay"
pub table_is : (f : List ℕ) (o : Opened) → open_of f ≡ Ok o → (ys : List Row) → rows_needed f ≤ length ys
    → listed f (rows_needed f) ys ≡ map (moved (body_at f)) (rows_of (body_of f)) ++ drop (rows_needed f) ys
unfolding rows_of
table_is f o e ys h =
    listed_is f (rows_needed f) ys h
    ∙ ap (λ (t : List Row). t ++ drop (rows_needed f) ys) (rows_to_is f (opens_parts f o e).frames (rows_needed f) (omega arith))

-- it has at most 64 of them
pub needed_most : (f : List ℕ) (o : Opened) → open_of f ≡ Ok o → rows_needed f ≤ 64
needed_most f o e = (opens_parts f o e).frames.table.most
