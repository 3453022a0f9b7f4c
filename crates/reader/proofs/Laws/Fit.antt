-- What rules 1 to 12 and 36 give rules 13 to 15 and 37: sections that lie within the file, and lengths that fit the counts.
use Rattle.std.specs.Prelude.{◌≡◌, ℕ, ◌-◌, ◌/◌, List, Bool, true, false, not, ◌&&◌, length, Ok, Err}
use Rattle.std.proofs.Math.Path.{refl, ap}
use Rattle.std.proofs.Common.{sym, ◌∙◌, arith}
use Rattle.refusal.specs.declared.Refusal.{Refusal}
use Rattle.frame.specs.declared.Framed.{Framed}
use Rattle.refusal.specs.Check.{◌⊳◌, refuse, Check}
use Rattle.refusal.proofs.Laws.Check.{then_assoc}
use Rattle.frame.specs.Frame.{frame_check}
use Rattle.frame.specs.Kind as kind
use Rattle.frame.specs.Open.{record_from, record_of, framed_from, framed_of, framing, bytes_at, known_of, keys_from, offsets_check, fences_good, indexed_check, content_check, file_check, opening, open_of}
use Rattle.frame.specs.Open.Laws.{Frames}
use Rattle.frame.proofs.Laws.Open.{frames_parts, frames_sized, frames_width, frames_within, width_bytes, good_framing, refused_framing}
use Rattle.reader.specs.Fit.{Fit}
use Rattle.frame.specs.Opening.{Framing}

-- a file that passes rules 1 to 12 and 36
pub fit_of : (f : List ℕ) → Frames f → Fit (length f) (framed_of f)
unfolding framed_of framed_from record_from record_of
fit_of f s =
    let z = frames_sized s in
    let w = width_bytes (framed_of f).opened.bits (frames_width s) in
    let inside = frames_within s in record {
      keys = omega (arith, inside kind.keys);
      offsets = omega (arith, inside kind.offsets);
      partners = omega (arith, inside kind.partners);
      fences = omega (arith, inside kind.fences);
      starts = λ m. omega (arith, inside kind.starts);
      few = z.few;
      keylen = z.keys;
      offsetlen = z.offsets;
      startlen = z.starts;
      narrow = w.0;
      wide = w.1;
    }

-- ---- opening, from the answers of its two halves

module _ (f : List ℕ) where
  abbrev frame : Framing
  frame = framing (frame_check (length f) f f) (framed_of f)

  abbrev contents : Framed → Check
  contents x = content_check (known_of f x.opened) x.fenced (bytes_at f x.fences)

  -- the frame's record is the file's
  contents_are : content_check (known_of f (record_of f)) (framed_of f).fenced (bytes_at f (framed_of f).fences) ≡ contents (framed_of f)
  unfolding framed_of framed_from record_of
  contents_are = refl

  pub open_unframed : (r : Refusal) → frame ≡ Err r → open_of f ≡ Err r
  unfolding open_of file_check opening
  open_unframed r e = rw (refused_framing (frame_check (length f) f f) (framed_of f) r e)

  module _ (x : Framed) (e : frame ≡ Ok x) where
    fine : frame_check (length f) f f ≡ (Ok tt)
    fine = (good_framing (frame_check (length f) f f) (framed_of f) x e).0

    same : framed_of f ≡ x
    same = (good_framing (frame_check (length f) f f) (framed_of f) x e).1

    pub open_fits : Fit (length f) x
    open_fits = rw same at (fit_of f (frames_parts (length f) f f fine))

    check : (c : Check) → contents x ≡ c → file_check f ≡ c
    unfolding file_check
    check c d = rw fine (contents_are ∙ ap contents same ∙ d)

    pub open_refused : (r : Refusal) → contents x ≡ Err r → open_of f ≡ Err r
    unfolding open_of opening
    open_refused r d = rw (check (Err r) d)

    record_is : record_of f ≡ (framed_of f).opened
    unfolding framed_of framed_from record_of
    record_is = refl

    pub open_good : contents x ≡ (Ok tt) → open_of f ≡ Ok x.opened
    unfolding open_of opening
    open_good d = rw (check (Ok tt) d) (ap Ok (record_is ∙ ap (λ (y : Framed). y.opened) same))

-- ---- rules 13 to 15 over lent bytes, then 37

pub content_is : (f : List ℕ) (x : Framed) {keys offsets fences : List ℕ} {len : ℕ} {r : Check}
    → keys ≡ bytes_at f x.opened.keys → offsets ≡ bytes_at f x.opened.offsets → fences ≡ bytes_at f x.fences
    → len ≡ length (bytes_at f x.opened.partners)
    → r ≡ (keys_from (x.opened.keycount - 1) keys 1
    ⊳ offsets_check offsets (x.opened.bits / 8) x.opened.keycount len
    ⊳ refuse Refusal.Fences (x.fenced && not (fences_good fences keys x.opened.keycount)))
    → (r ⊳ indexed_check (known_of f x.opened)) ≡ contents f x
unfolding content_check known_of
content_is f x {keys} {offsets} {fences} {len} k o g l e =
    let first : Check = keys_from (x.opened.keycount - 1) keys 1 in
    let second : Check = offsets_check offsets (x.opened.bits / 8) x.opened.keycount len in
    let third : Check = refuse Refusal.Fences (x.fenced && not (fences_good fences keys x.opened.keycount)) in
    let last : Check = indexed_check (known_of f x.opened) in
    ap (λ (c : Check). c ⊳ last) e
    ∙ then_assoc first (second ⊳ third) last
    ∙ ap (λ (c : Check). first ⊳ c) (then_assoc second third last)
    ∙ (λ i. keys_from (x.opened.keycount - 1) (k i) 1
    ⊳ offsets_check (o i) (x.opened.bits / 8) x.opened.keycount (l i)
    ⊳ refuse Refusal.Fences (x.fenced && not (fences_good (g i) (k i) x.opened.keycount))
    ⊳ last)

-- ---- rules 13 to 15 with fences and without

module _ (a b : Check) (r : Refusal) where
  pub without_fences : {fenced : Bool} (good : Bool) → fenced ≡ false → (a ⊳ b) ≡ (a ⊳ b ⊳ refuse r (fenced && not good))
  without_fences good e = rw e (ap (λ (c : Check). a ⊳ c) (sym (then_fine b)))
    where
      then_fine : (c : Check) → (c ⊳ (Ok tt)) ≡ c
      then_fine (Ok tt) = refl
      then_fine (Err q) = refl

  pub with_fences : {fenced : Bool} (good : Bool) → fenced ≡ true → ((a ⊳ b) ⊳ refuse r (not good)) ≡ (a ⊳ b ⊳ refuse r (fenced && not good))
  with_fences good e = rw e (then_assoc a b (refuse r (not good)))
