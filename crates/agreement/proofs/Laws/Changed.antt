-- What the checksums say of a file in which bytes of one section are changed: it is refused, unless the changed section has
-- the same XXH3-64. Nothing is said of the header (ids, minor version, flag bit 3) and of
-- the gaps between sections, which carry no checksum.
use Rattle.std.specs.Prelude.{◌≡◌, refl, ℕ, suc, ◌+◌, ◌-◌, ◌≤◌, ◌<◌, true, get_or, take, drop, set, eqb, leb, Ok, Err}
use Rattle.std.proofs.Math.Path.{sym, ap₂}
use Rattle.std.proofs.Common.{ap, ◌∙◌, add-zero, length-append, length-drop, length-set, take-append-drop, drop-drop, get_or-drop, length-take-le, drop-set-lt, take_at, drop_at}
use native.Mathlib.Omega.{arith}
use Rattle.std.proofs.Math.Decide.{dec_le}
use mathlib.Core.List.{List, [], ◌∷◌, ◌++◌, append_assoc}
use Rattle.std.proofs.Math.Bool.{false}
use Rattle.std.proofs.Math.ListN.{length}
use Rattle.std.proofs.lemmas.List.{drop-append-le, take-append-le, take-set-le}
use borrow.Author.Tests.{eqb-true, ne_eqb, leb-true}
use Rattle.base.specs.Over.{part}
use Rattle.codes.specs.Little.{le_at}
use Rattle.codes.specs.Little.Laws.{le_at_same}
use Rattle.xxh3_spec.specs.Xxh3.{xxh3}
use Rattle.refusal.specs.declared.Refusal.{Refusal}
use Rattle.refusal.proofs.Laws.Check.{fine_parts, pick_fine, and_parts, bad_then, fine_then}
use Rattle.frame.specs.declared.Row.{Row}
use Rattle.frame.specs.Frame.{range_of, rows_of, range_good, ranges, foot_len, body_of, record_of}
use Rattle.frame.specs.Open.{bytes_at, file_check}
use Rattle.frame.specs.Open.Laws.{Frames}
use Rattle.frame.proofs.Laws.Open.{opens_parts, size_parts, tail_parts}
use Rattle.full_check.specs.Full.{sum_good, sums_from, full_check}
use Rattle.full_check.specs.Full.Laws.{RowsWithin}
use Rattle.full_check.specs.Checked.{checked_opened, fine_checked}
use Rattle.agreement.specs.Changed.{Changed}
use Rattle.refusal.specs.Check.{Check}

-- as one byte of it that is changed
pub one_byte : (f : List ℕ) (r : Row) (i b : ℕ) → r.start ≤ i → i < r.start + r.len → Changed f (set f i b) r
one_byte f r i b h l = record {
  size = length-set f i b;
  before = take-set-le r.start f i b h;
  after = drop-set-lt (r.start + r.len) f i b l;
}

-- and any bytes in place of its own, as many of them
pub any_bytes : (f : List ℕ) (r : Row) (new : List ℕ) → length new ≡ r.len → r.start + r.len ≤ length f
    → Changed f (take r.start f ++ (new ++ drop (r.start + r.len) f)) r
any_bytes f r new n h =
    let front = length-take-le r.start f (omega arith) in
    let left = length-drop (r.start + r.len) f in
    let both : length (take r.start f ++ new) ≡ r.start + r.len = length-append (take r.start f) new ∙ omega arith in
    record {
      size = simp length-append (omega arith);
      before = take_at (take r.start f) _ r.start front;
      after = ap (drop (r.start + r.len)) (sym (append_assoc (take r.start f) new _)) ∙ drop_at (take r.start f ++ new) _ (r.start + r.len) both;
    }

-- ---- parts of a list that are not touched

part_after : (f g : List ℕ) (m a e : ℕ) → drop m g ≡ drop m f → m ≤ a → part g a e ≡ part f a e
part_after f g m a e q h =
    let n : m + (a - m) ≡ a = omega arith in
    ap (take (e - a))
    (ap (λ (t : ℕ). drop t g) (sym n) ∙ sym (drop-drop (a - m) m g) ∙ ap (drop (a - m)) q ∙ drop-drop (a - m) m f ∙ ap (λ (t : ℕ). drop t f) n)

part_front : (f : List ℕ) (m a e : ℕ) → m ≤ length f → e ≤ m → part f a e ≡ part (take m f) a e
part_front f m a e h l =
    let front = length-take-le m f h in
    let left = length-drop a (take m f) in
    elim (dec_le a m) [
      | yes q ↦
          ap (λ (t : List ℕ). take (e - a) (drop a t)) (sym (take-append-drop m f))
          ∙ ap (take (e - a)) (drop-append-le a (take m f) (drop m f) (omega arith))
          ∙ take-append-le (e - a) (drop a (take m f)) (drop m f) (omega arith)
      | no q ↦
          let z : e - a ≡ 0 = omega arith in
          ap (λ (t : ℕ). take t (drop a f)) z ∙ sym (ap (λ (t : ℕ). take t (drop a (take m f))) z)
    ]

part_before : (f g : List ℕ) (m a e : ℕ) → length g ≡ length f → m ≤ length f → take m g ≡ take m f → e ≤ m → part g a e ≡ part f a e
part_before f g m a e s h q l =
    part_front g m a e (omega arith) l ∙ ap (λ (t : List ℕ). part t a e) q ∙ sym (part_front f m a e h l)

le_after : (f g : List ℕ) (m i n : ℕ) → drop m g ≡ drop m f → m ≤ i → le_at g i n ≡ le_at f i n
le_after f g m i n q h = le_at_same g f i i n (λ k l. same k)
  where
    same : (k : ℕ) → get_or g (i + k) 0 ≡ get_or f (i + k) 0
    same k =
        let at : m + (i - m + k) ≡ i + k = omega arith in
        ap (λ (t : ℕ). get_or g t 0) (sym at) ∙ sym (get_or-drop m g (i - m + k) 0) ∙ ap (λ (t : List ℕ). get_or t (i - m + k) 0) q
        ∙ get_or-drop m f (i - m + k) 0 ∙ ap (λ (t : ℕ). get_or f t 0) at

-- ---- the section of r in the table, the sections xs before it

-- they end where it begins, or before
ranges_before : (limit : ℕ) (xs : List Row) (r : Row) (ys : List Row) (floor k : ℕ) → ranges limit (xs ++ (r ∷ ys)) floor k ≡ (Ok tt)
    → (floor ≤ r.start) × (r.start + r.len ≤ limit) × RowsWithin r.start xs
unfolding ranges RowsWithin
ranges_before limit [] r ys floor k e =
    let p = pick_fine (range_good limit floor r) _ (Refusal.Range k) e in
    let w = and_parts (leb floor r.start) (leb (r.start + r.len) limit) p.0 in
    (leb-true _ _ w.0, leb-true _ _ w.1, tt)
ranges_before limit (x ∷ xs) r ys floor k e =
    let p = pick_fine (range_good limit floor x) _ (Refusal.Range k) e in
    let w = and_parts (leb floor x.start) (leb (x.start + x.len) limit) p.0 in
    let first = leb-true floor x.start w.0 in
    let (low, high, others) = ranges_before limit xs r ys (x.start + x.len) (k + 1) p.1 in
    (omega arith, high, (low, others))

-- sums up to r: those of xs are what they were
sums_reach : (f : List ℕ) (xs : List Row) (zs : List Row) (k : ℕ) → sums_from f (xs ++ zs) k ≡ (Ok tt) → (g : List ℕ) (m : ℕ) → length g ≡ length f → m ≤ length f
    → take m g ≡ take m f → RowsWithin m xs → sums_from g (xs ++ zs) k ≡ sums_from g zs (k + length xs)
unfolding sums_from RowsWithin
sums_reach f [] zs k e g m s h q w = ap (sums_from g zs) (sym (add-zero k))
sums_reach f (x ∷ xs) zs k e g m s h q w =
    let p = pick_fine (sum_good f x) (sums_from f (xs ++ zs) (k + 1)) (Refusal.Sum k) e in
    let same : sum_good g x ≡ true = ap (λ (t : List ℕ). eqb (xxh3 t) x.sum) (part_before f g m x.start (x.start + x.len) s h q w.0) ∙ p.0 in
    let next : k + 1 + length xs ≡ k + suc (length xs) = omega arith in
    rw same (sums_reach f xs zs (k + 1) p.1 g m s h q w.1 ∙ ap (sums_from g zs) next)

sum_of : (f : List ℕ) (xs : List Row) (r : Row) (ys : List Row) (k : ℕ) → sums_from f (xs ++ (r ∷ ys)) k ≡ (Ok tt) → xxh3 (bytes_at f (range_of r)) ≡ r.sum
unfolding sums_from
sum_of f [] r ys k e = eqb-true _ _ (pick_fine (sum_good f r) _ (Refusal.Sum k) e).0
sum_of f (x ∷ xs) r ys k e = sum_of f xs r ys (k + 1) (pick_fine (sum_good f x) _ (Refusal.Sum k) e).1

-- ---- the statements

module _ (f g : List ℕ) (xs : List Row) (r : Row) (ys : List Row) (entry : rows_of (body_of f) ≡ xs ++ (r ∷ ys)) (pass : full_check f ≡ (Ok tt)) (c : Changed f g r) where
  frames : Frames f
  frames = (opens_parts f (record_of f) (checked_opened f (record_of f) (fine_checked f pass))).frames

  abbrev end : ℕ
  end = r.start + r.len

  lies : (64 ≤ r.start) × (end ≤ length f - foot_len f) × RowsWithin r.start xs
  lies = ranges_before (length f - foot_len f) xs r ys 64 0 (rw entry at frames.apart)

  foot : (39 ≤ foot_len f) × (foot_len f ≤ length f - 64)
  foot = tail_parts (length f) f frames.tail

  same_foot : foot_len g ≡ foot_len f
  same_foot =
      let l = lies.1 in
      let low = foot.0 in
      let high = foot.1 in
      let size = (size_parts (length f) frames.size).0 in
      ap (λ (t : ℕ). le_at g (t - 12) 4) c.size ∙ le_after f g end (length f - 12) 4 c.after (omega arith)

  same_body : body_of g ≡ body_of f
  unfolding body_of
  same_body =
      let l = lies.1 in
      ap₂ (λ (x y : ℕ). part g (x - y) (x - 20)) c.size same_foot
      ∙ part_after f g end (length f - foot_len f) (length f - 20) c.after l

  same_entry : rows_of (body_of g) ≡ xs ++ (r ∷ ys)
  same_entry = ap rows_of same_body ∙ entry

  sums_of : (h : List ℕ) → rows_of (body_of h) ≡ xs ++ (r ∷ ys) → full_check h ≡ (Ok tt) → sums_from h (xs ++ (r ∷ ys)) 0 ≡ (Ok tt)
  unfolding full_check
  sums_of h q e = sym (ap (λ (t : List Row). sums_from h t 0) q) ∙ (fine_parts (sums_from h (rows_of (body_of h)) 0) _ (fine_parts (file_check h) _ e).1).0

  -- a file that still passes has a section of the same sum
  pub passes_same : full_check g ≡ (Ok tt) → xxh3 (bytes_at g (range_of r)) ≡ xxh3 (bytes_at f (range_of r))
  passes_same e = sum_of g xs r ys 0 (sums_of g same_entry e) ∙ sym (sum_of f xs r ys 0 (sums_of f entry pass))

  module _ (other : xxh3 (bytes_at g (range_of r)) ≡ xxh3 (bytes_at f (range_of r)) → ⊥) where
    -- a section of another sum is refused
    pub changed_refused : (q : Refusal) × (full_check g ≡ Err q)
    changed_refused = go (full_check g) refl
      where
        go : (x : Check) → full_check g ≡ x → (q : Refusal) × (full_check g ≡ Err q)
        go (Ok _) e = absurd (other (passes_same e))
        go (Err q) e = (q, e)

    -- and where the file still opens, the refusal is 22 at that entry
    pub changed_sum : file_check g ≡ (Ok tt) → full_check g ≡ Err (Refusal.Sum (length xs))
    unfolding full_check sums_from
    changed_sum e =
        let l = lies.1 in
        let was = sum_of f xs r ys 0 (sums_of f entry pass) in
        let reach = sums_reach f xs (r ∷ ys) 0 (sums_of f entry pass) g r.start c.size (omega arith) c.before lies.2 in
        let here : sum_good g r ≡ false = ne_eqb _ _ (λ q. other (q ∙ sym was)) in
        let place : 0 + length xs ≡ length xs = omega arith in
        fine_then _ e
        ∙ bad_then _ (ap (λ (t : List Row). sums_from g t 0) same_entry ∙ reach ∙ rw here (ap (λ (t : ℕ). Err (Refusal.Sum t)) place))
