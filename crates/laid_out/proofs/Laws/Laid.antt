-- A file that was laid out: its frame is good, and its entries, counts and sections are what they were laid out from.
use Rattle.std.specs.Prelude.{◌≡◌, refl, ℕ, ◌+◌, ◌-◌, ◌^◌, ◌≤◌, ◌<◌, get_or, take, Ok}
use Rattle.std.proofs.Math.Path.{sym}
use Rattle.std.proofs.Common.{ap, ◌∙◌, arith, length-append, drop_at, lit<}
use mathlib.Core.List.{List, [], ◌∷◌, ◌++◌, append_assoc}
use Rattle.std.proofs.Math.ListN.{length, get_or-append}
use Rattle.std.proofs.Math.Seq.{take_at}
use borrow.Author.Tests.{eq-eqb, le-ltb}
use Rattle.base.specs.Over.{part}
use Rattle.codes.specs.Little.{le_at, le_bytes}
use Rattle.codes.specs.Little.Laws.{length_le_bytes}
use Rattle.xxh3_spec.specs.Xxh3.{xxh3}
use Rattle.refusal.specs.declared.Refusal.{Refusal}
use Rattle.refusal.proofs.Laws.Check.{fine_both, good_fine}
use Rattle.frame.specs.Kind as kind
use Rattle.frame.specs.Frame.{rows_of, ranges, foot_len, body_of, size_check, tail_check, sum_check}
use Rattle.frame.specs.Layout.{Section, Layout, payload, body_bytes, trailer, lay_out}
use Rattle.laid_out.proofs.Laws.Sum.{xxh3_lt}
use Rattle.laid_out.specs.Rows.{rows_in, Small}
use Rattle.laid_out.proofs.Laws.Rows.{le_at_at, ranges_back, length_body, body_rows}

-- ---- the file

pub length_laid : (x : Layout) → length x.head ≡ 64 → length (lay_out x) ≡ 84 + length (payload x.sections) + length (body_bytes x.sections x.keycount x.edgecount x.bits)
unfolding lay_out trailer
length_laid x h64 = simp (length-append, length_le_bytes) (omega arith)

module _ (x : Layout) (h64 : length x.head ≡ 64) (small : Small x.sections) (fits : length (lay_out x) ≤ 2 ^ 30) where
  abbrev body : List ℕ
  body = body_bytes x.sections x.keycount x.edgecount x.bits

  abbrev front : List ℕ
  front = x.head ++ payload x.sections

  length_file : length (lay_out x) ≡ 84 + length (payload x.sections) + length body
  length_file = length_laid x h64

  file_is : lay_out x ≡ front ++ (body ++ trailer body)
  unfolding lay_out
  file_is = sym (append_assoc x.head (payload x.sections) (body ++ trailer body))

  length_front : length front ≡ 64 + length (payload x.sections)
  length_front = simp length-append (omega arith)

  sum_at : lay_out x ≡ (front ++ body) ++ (le_bytes 8 (xxh3 body) ++ (le_bytes 4 (length body + 20) ++ kind.magic_bytes))
  unfolding trailer
  sum_at = file_is ∙ sym (append_assoc front body (trailer body))

  foot_at : lay_out x ≡ ((front ++ body) ++ le_bytes 8 (xxh3 body)) ++ (le_bytes 4 (length body + 20) ++ kind.magic_bytes)
  foot_at = sum_at ∙ sym (append_assoc (front ++ body) (le_bytes 8 (xxh3 body)) (le_bytes 4 (length body + 20) ++ kind.magic_bytes))

  magic_at : lay_out x ≡ (((front ++ body) ++ le_bytes 8 (xxh3 body)) ++ le_bytes 4 (length body + 20)) ++ kind.magic_bytes
  magic_at = foot_at ∙ sym (append_assoc ((front ++ body) ++ le_bytes 8 (xxh3 body)) (le_bytes 4 (length body + 20)) kind.magic_bytes)

  pub sum_back : le_at (lay_out x) (length (lay_out x) - 20) 8 ≡ xxh3 body
  sum_back =
      le_at_at 8 (front ++ body) (le_bytes 4 (length body + 20) ++ kind.magic_bytes) (xxh3 body) (lay_out x) (length (lay_out x) - 20) sum_at
      (simp (length-append, length_le_bytes) (omega (arith, length_file))) (xxh3_lt body)

  pub foot_back : foot_len (lay_out x) ≡ length body + 20
  foot_back =
      le_at_at 4 ((front ++ body) ++ le_bytes 8 (xxh3 body)) kind.magic_bytes (length body + 20) (lay_out x) (length (lay_out x) - 12) foot_at
      (simp (length-append, length_le_bytes) (omega (arith, length_file))) (omega (arith, length_file))

  pub magic_back : le_at (lay_out x) (length (lay_out x) - 8) 8 ≡ kind.magic
  unfolding le_bytes
  magic_back =
      le_at_at 8 (((front ++ body) ++ le_bytes 8 (xxh3 body)) ++ le_bytes 4 (length body + 20)) [] kind.magic (lay_out x) (length (lay_out x) - 8) magic_at
      (simp (length-append, length_le_bytes) (omega (arith, length_file))) (lit< tt)

  pub body_back : body_of (lay_out x) ≡ body
  unfolding body_of
  body_back =
      let a : length (lay_out x) - (length body + 20) ≡ length front = omega (arith, length_file, length_front) in
      let b : length (lay_out x) - 20 - length front ≡ length body = omega (arith, length_file, length_front) in
      rw (foot_back, a, b, file_is) (ap (take (length body)) (drop_at front (body ++ trailer body) (length front) refl) ∙ take_at body (trailer body) (length body) refl)

  pub size_fine : size_check (length (lay_out x)) ≡ (Ok tt)
  unfolding size_check
  size_fine = simp (le-ltb (length (lay_out x)) 84 (omega (arith, length_file)), le-ltb (2 ^ 30) (length (lay_out x)) fits)

  pub tail_fine : tail_check (length (lay_out x)) (lay_out x) ≡ (Ok tt)
  unfolding tail_check
  tail_fine =
      let l = length_body x.sections x.keycount x.edgecount x.bits small in
      fine_both (good_fine Refusal.TailMagic (eq-eqb (le_at (lay_out x) (length (lay_out x) - 8) 8) kind.magic magic_back))
      (simp (le-ltb (foot_len (lay_out x)) 39 (omega (arith, foot_back)), le-ltb (length (lay_out x) - 64) (foot_len (lay_out x)) (omega (arith, length_file, foot_back))))

  pub sum_fine : sum_check (lay_out x) ≡ (Ok tt)
  unfolding sum_check
  sum_fine = good_fine Refusal.FooterSum (eq-eqb (xxh3 (body_of (lay_out x))) (le_at (lay_out x) (length (lay_out x) - 20) 8) (ap xxh3 body_back ∙ sym sum_back))

  pub file_rows : rows_of (body_of (lay_out x)) ≡ rows_in 64 2 x.sections
  file_rows = ap rows_of body_back ∙ body_rows x.sections x.keycount x.edgecount x.bits small

  pub ranges_fine : ranges (length (lay_out x) - foot_len (lay_out x)) (rows_of (body_of (lay_out x))) 64 0 ≡ (Ok tt)
  ranges_fine = rw file_rows (ranges_back x.sections 64 2 0 (length (lay_out x) - foot_len (lay_out x)) (omega (arith, length_file, foot_back)))

  -- the header's bytes
  pub head_back : (i : ℕ) → i < 64 → get_or (lay_out x) i 0 ≡ get_or x.head i 0
  unfolding lay_out
  head_back i l = get_or-append x.head _ 0 i (omega arith)

-- the bytes of a section that lies after p
pub bytes_first : (p : List ℕ) (s : Section) (ss : List Section) (r : List ℕ) → part (p ++ (payload (s ∷ ss) ++ r)) (length p) (length p + length s.bytes) ≡ s.bytes
unfolding payload
bytes_first p s ss r =
    let a : length p + length s.bytes - length p ≡ length s.bytes = omega arith in
    rw (a, append_assoc s.bytes (payload ss) r)
    (ap (take (length s.bytes)) (drop_at p (s.bytes ++ (payload ss ++ r)) (length p) refl) ∙ take_at s.bytes (payload ss ++ r) (length s.bytes) refl)
