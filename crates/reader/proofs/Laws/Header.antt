-- The header of a file: what its bytes say where the file opens, otherwise opening's refusal.
use Rattle.std.proofs.Math.Path.{◌≡◌, sym, ap}
use Rattle.std.specs.Prelude.{refl, ◌↔◌, ℕ, ◌≤◌, List, length, Ok, Err}
use Rattle.std.proofs.Common.{◌∙◌}
use native.Mathlib.Omega.{arith}
use Rattle.codes.specs.Ids.{halves_at}
use Rattle.refusal.specs.declared.Refusal.{Refusal}
use Rattle.frame.specs.declared.Opened.{Opened}
use Rattle.frame.specs.declared.ends.Header.{Header}
use Rattle.frame.specs.Kind as kind
use Rattle.frame.specs.Frame.{flags_of, header_in, record_of}
use Rattle.frame.specs.Open.{file_check, open_of}
use Rattle.frame.proofs.Laws.Open.{opens_parts, opens_record, opens_fine, opens_refused, size_parts}
use Rattle.frame.proofs.Laws.Header.{flags_few}
use Rattle.reader.specs.Header.{header_read, header_of}
use Rattle.refusal.specs.Check.{Check}

-- ---- laws

module _ (f : List ℕ) where
  -- it is opening's refusal, whichever
  pub header_opening : (r : Refusal) → (header_of f ≡ Err r) ↔ (file_check f ≡ Err r)
  unfolding header_of header_read
  header_opening r = (go (file_check f), λ e. rw e)
    where
      go : (c : Check) → header_read c (header_in f) ≡ Err r → c ≡ Err r
      go (Ok tt) e = let z : ◌≡◌ {A = ℕ} 0 1 = cc in absurd (omega arith)
      go (Err q) e = let same : q ≡ r = cc in ap Err same

  -- a header is given exactly if the file opens, and it is what its bytes say
  pub header_opens : (h : Header) → (header_of f ≡ Ok h) ↔ ((file_check f ≡ (Ok tt)) × (header_in f ≡ h))
  unfolding header_of header_read
  header_opens h = (go (file_check f), λ e. rw (e.0, e.1))
    where
      go : (c : Check) → header_read c (header_in f) ≡ Ok h → (c ≡ (Ok tt)) × (header_in f ≡ h)
      go (Ok tt) e = (refl, cc)
      go (Err q) e = let z : ◌≡◌ {A = ℕ} 0 1 = cc in absurd (omega arith)

  pub header_refused : (r : Refusal) → open_of f ≡ Err r → header_of f ≡ Err r
  header_refused r e = (header_opening r).1 ((opens_refused f r).0 e)

  module _ (o : Opened) (e : open_of f ≡ Ok o) where
    pub header_good : header_of f ≡ Ok (header_in f)
    header_good = (header_opens (header_in f)).1 ((opens_fine f).0 (e ∙ ap Ok (sym (opens_record f o e))), refl)

    -- its bytes are there
    pub header_there : kind.header_size ≤ length f
    header_there = let h = size_parts (length f) (opens_parts f o e).frames.size in omega arith

  pub header_long : (h : Header) → header_of f ≡ Ok h → kind.header_size ≤ length f
  header_long h e = header_there (record_of f) ((opens_fine f).1 ((header_opens h).0 e).0)

  -- of the flags, bits 0 to 3 alone may be set
  pub header_flags : (h : Header) → header_of f ≡ Ok h → h.flags ≤ 15
  unfolding header_in
  header_flags h e =
      let p = (header_opens h).0 e in
      let few = flags_few f (opens_parts f (record_of f) ((opens_fine f).1 p.0)).frames.head in
      let same : flags_of f ≡ h.flags = ap (λ (x : Header). x.flags) p.1 in
      omega arith

  -- each id is that of its 16 bytes
  pub header_ids : (h : Header) → header_of f ≡ Ok h → (h.edgetype ≡ halves_at f 16) × (h.source ≡ halves_at f 32) × (h.destination ≡ halves_at f 48)
  unfolding header_in
  header_ids h e =
      let same = sym ((header_opens h).0 e).1 in
      (ap (λ (x : Header). x.edgetype) same, ap (λ (x : Header). x.source) same, ap (λ (x : Header). x.destination) same)
