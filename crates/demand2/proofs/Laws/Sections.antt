-- Sections without a name, raw, with their checksums, as the writer lays them out: what their table says.
use Rattle.std.specs.Prelude.{◌≡◌, refl, ℕ, ◌+◌, ◌^◌, ◌≤◌, ◌<◌, List, [], ◌∷◌, ◌++◌, Bool, true, false, not, ◌&&◌, ◌||◌, length, leb, eqb, Ok, Err}
use Rattle.std.proofs.Common.{sym, ap, ap₂, ◌∙◌, ⊎_elim, arith, append_assoc, length-append, eq-eqb}
use Rattle.base.specs.Pick.{pick}
use Rattle.xxh3_spec.specs.Xxh3.{xxh3}
use Rattle.refusal.specs.declared.Refusal.{Refusal}
use Rattle.refusal.proofs.Laws.Check.{fine_pick, and_both}
use Rattle.frame.specs.declared.Row.{Row}
use Rattle.frame.specs.Kind as kind
use Rattle.frame.specs.Frame.{has, repeated, section_of, all, name_good, once_good, each_row, kind_good, codec_good, reserved_check, codec_check}
use Rattle.frame.proofs.Laws.Frame.{fixed_kinds, fixed_unreserved}
use Rattle.frame.specs.Open.{bytes_at}
use Rattle.frame.specs.Layout.{Section, raw_section, payload}
use Rattle.laid_out.proofs.Laws.Sum.{xxh3_lt}
use Rattle.laid_out.specs.Rows.{rows_in, AllNumbers}
use Rattle.laid_out.proofs.Laws.Laid.{bytes_first}
use Rattle.full_check.specs.Full.{sums_from}
use Rattle.demand2.specs.Sections.{Raw, AllRaw, content_of, has_kind, twice_kind, once_in}

pub raw_is : (k : ℕ) (bytes : List ℕ) → kind.fixed k ≡ true → Raw (raw_section k bytes)
raw_is k bytes h = record { known = h; codec = refl; name = refl; sum = refl }

-- ---- of the table

pub has_is : (k : ℕ) (ss : List Section) (at i : ℕ) → has k (rows_in at i ss) ≡ has_kind k ss
unfolding has rows_in has_kind
has_is k [] at i = refl
has_is k (s ∷ ss) at i = ap (λ (t : Bool). eqb s.kind k || t) (has_is k ss _ _)

pub twice_is : (k : ℕ) (ss : List Section) (at i : ℕ) → repeated k (rows_in at i ss) ≡ twice_kind k ss
unfolding repeated rows_in twice_kind
twice_is k [] at i = refl
twice_is k (s ∷ ss) at i = ap₂ (λ (t u : Bool). pick (eqb s.kind k) t u) (has_is k ss _ _) (twice_is k ss _ _)

pub kinds_is : (ss : List Section) (at i : ℕ) (qs : List kind.Kind) → all (once_good (rows_in at i ss)) qs ≡ all (once_in ss) qs
unfolding all
kinds_is ss at i [] = refl
kinds_is ss at i (q ∷ qs) = λ j. (not (twice_is q.number ss at i j) && (not q.needed || has_is q.number ss at i j)) && kinds_is ss at i qs j

pub names_fine : (ss : List Section) (at i : ℕ) → AllRaw ss → all name_good (rows_in at i ss) ≡ true
unfolding all rows_in AllRaw
names_fine [] at i r = refl
names_fine (s ∷ ss) at i r =
    let z : length s.name ≡ 0 = ap length r.0.name in
    and_both (short s.kind (length s.name) z) (names_fine ss _ _ r.1)
  where
    short : (k n : ℕ) → n ≡ 0 → (leb n kind.longest_name && (not (kind.fixed k) || eqb n 0)) ≡ true
    short k n z = rw z (go (kind.fixed k))
      where
        go : (b : Bool) → (not b || true) ≡ true
        go true = refl
        go false = refl

-- what is asked of each entry, where the sections written are good
each_fine : (good : Row → Bool) (told : ℕ → Refusal) → ((r : Row) → kind.fixed r.kind ≡ true → r.codec ≡ 0 → good r ≡ true)
    → (ss : List Section) (at i k : ℕ) → AllRaw ss → each_row good told (rows_in at i ss) k ≡ (Ok tt)
unfolding each_row rows_in AllRaw
each_fine good told is [] at i k r = refl
each_fine good told is (s ∷ ss) at i k r = fine_pick (Err (told k)) (is _ r.0.known r.0.codec) (each_fine good told is ss _ _ (k + 1) r.1)

pub reserved_fine : (ss : List Section) (at i : ℕ) → AllRaw ss → reserved_check (rows_in at i ss) ≡ (Ok tt)
reserved_fine ss at i = each_fine kind_good Refusal.Reserved (λ r f c. ap not (fixed_unreserved r.kind f)) ss at i 0

pub codecs_fine : (ss : List Section) (at i : ℕ) → AllRaw ss → codec_check (rows_in at i ss) ≡ (Ok tt)
codecs_fine ss at i = each_fine codec_good Refusal.Codec (λ r f c. rw f (eq-eqb r.codec 0 c)) ss at i 0

pub raw_numbers : (ss : List Section) → AllRaw ss → AllNumbers ss
unfolding AllNumbers AllRaw
raw_numbers [] r = tt
raw_numbers (s ∷ ss) r = let sum : s.sum < 2 ^ 64 = rw r.0.sum (xxh3_lt s.bytes) in (⊎_elim (λ low. omega (arith, low.1)) (λ e. omega (arith, e)) ((fixed_kinds s.kind).0 r.0.known), sum, raw_numbers ss r.1)

-- ---- of the file f in which they lie after p

-- one section, and what follows it
after : (f p : List ℕ) (s : Section) (ss : List Section) (q : List ℕ) → f ≡ p ++ (payload (s ∷ ss) ++ q) → f ≡ (p ++ s.bytes) ++ (payload ss ++ q)
unfolding payload
after f p s ss q e =
    e ∙ ap (λ (t : List ℕ). p ++ t) (append_assoc s.bytes (payload ss) q) ∙ sym (append_assoc p s.bytes (payload ss ++ q))

first : (f p : List ℕ) (s : Section) (ss : List Section) (q : List ℕ) (at : ℕ) → f ≡ p ++ (payload (s ∷ ss) ++ q) → length p ≡ at
    → bytes_at f (record { start = at; len = length s.bytes }) ≡ s.bytes
first f p s ss q at e l = ap₂ (λ (t : List ℕ) (a : ℕ). bytes_at t (record { start = a; len = length s.bytes })) e (sym l) ∙ bytes_first p s ss q

pub content_laid : (k : ℕ) (ss : List Section) (f p q : List ℕ) (at i : ℕ) → f ≡ p ++ (payload ss ++ q) → length p ≡ at
    → bytes_at f (section_of k (rows_in at i ss)) ≡ content_of k ss
unfolding section_of rows_in content_of
content_laid k [] f p q at i e l = refl
content_laid k (s ∷ ss) f p q at i e l =
    go (eqb s.kind k) (first f p s ss q at e l)
    (content_laid k ss f (p ++ s.bytes) q (at + length s.bytes) (i + 28 + length s.name) (after f p s ss q e) (length-append p s.bytes ∙ ap (λ (t : ℕ). t + length s.bytes) l))
  where
    rest : List Row
    rest = rows_in (at + length s.bytes) (i + 28 + length s.name) ss

    go : (b : Bool) → bytes_at f (record { start = at; len = length s.bytes }) ≡ s.bytes → bytes_at f (section_of k rest) ≡ content_of k ss
        → bytes_at f (pick b (record { start = at; len = length s.bytes }) (section_of k rest)) ≡ pick b s.bytes (content_of k ss)
    go true x y = x
    go false x y = y

pub len_is : (k : ℕ) (ss : List Section) (at i : ℕ) → (section_of k (rows_in at i ss)).len ≡ length (content_of k ss)
unfolding section_of rows_in content_of
len_is k [] at i = refl
len_is k (s ∷ ss) at i = go (eqb s.kind k) (len_is k ss (at + length s.bytes) (i + 28 + length s.name))
  where
    rest : List Row
    rest = rows_in (at + length s.bytes) (i + 28 + length s.name) ss

    go : (b : Bool) → (section_of k rest).len ≡ length (content_of k ss)
        → (pick b (record { start = at; len = length s.bytes }) (section_of k rest)).len ≡ length (pick b s.bytes (content_of k ss))
    go true y = refl
    go false y = y

-- no section is longer than all of them
pub length_content : (k : ℕ) (ss : List Section) → length (content_of k ss) ≤ length (payload ss)
unfolding content_of payload
length_content k [] = omega arith
length_content k (s ∷ ss) = go (eqb s.kind k) (length_content k ss)
  where
    go : (b : Bool) → length (content_of k ss) ≤ length (payload ss) → length (pick b s.bytes (content_of k ss)) ≤ length (s.bytes ++ payload ss)
    go true h = omega (arith, length-append s.bytes (payload ss))
    go false h = omega (arith, length-append s.bytes (payload ss))

-- every checksum is right
pub sums_fine : (ss : List Section) (f p q : List ℕ) (at i k : ℕ) → AllRaw ss → f ≡ p ++ (payload ss ++ q) → length p ≡ at → sums_from f (rows_in at i ss) k ≡ (Ok tt)
unfolding sums_from rows_in AllRaw
sums_fine [] f p q at i k r e l = refl
sums_fine (s ∷ ss) f p q at i k r e l =
    fine_pick (Err (Refusal.Sum k)) (eq-eqb _ _ (ap xxh3 (first f p s ss q at e l) ∙ sym r.0.sum))
    (sums_fine ss f (p ++ s.bytes) q (at + length s.bytes) (i + 28 + length s.name) (k + 1) r.1 (after f p s ss q e) (length-append p s.bytes ∙ ap (λ (t : ℕ). t + length s.bytes) l))
