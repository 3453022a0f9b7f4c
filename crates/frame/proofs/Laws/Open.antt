-- Opening taken apart and put together: a file opens exactly if each rule is fine.
use Rattle.std.proofs.Math.Path.{◌≡◌, ap}
use Rattle.std.specs.Prelude.{refl, ◌↔◌, ℕ, ◌+◌, ◌-◌, ◌/◌, ◌^◌, ◌≤◌, List, [], Bool, true, false, not, ◌&&◌, ◌||◌, length, ltb, leb, Ok, Err}
use Rattle.std.proofs.Common.{◌∙◌, arith}
use Rattle.std.proofs.Math.Dec.{eqb}
use borrow.Author.Tests.{ltb-false, leb-true, eqb-true, le-leb, le-ltb, eq-eqb}
use Rattle.base.specs.Pick.{pick}
use Rattle.base.specs.Over.{length_part}
use Rattle.codes.specs.Little.{le_at}
use Rattle.xxh3_spec.specs.Xxh3.{xxh3}
use Rattle.refusal.specs.declared.Refusal.{Refusal}
use Rattle.refusal.specs.Check.{◌⊳◌, refuse, Check}
use Rattle.refusal.proofs.Laws.Check.{fine_parts, fine_both, then_assoc, good_parts, good_fine, either_parts, and_parts, and_both}
use Rattle.frame.specs.declared.Range.{Range}
use Rattle.frame.specs.declared.Opened.{Opened}
use Rattle.frame.specs.declared.Framed.{Framed}
use Rattle.frame.specs.Kind as kind
use Rattle.frame.specs.Frame.{rows_of, section_of, width_good, sizes_good, counts_good, flags_of, foot_len, body_of, record_of, framed_from, framed_of, size_check, head_check, tail_check, sum_check, table_check, reserved_check, codec_check, counts_check, ends_check, rows_check, footer_check, shape_check, frame_check}
use Rattle.frame.proofs.Laws.Frame.{table_parts, table_made, section_within}
use Rattle.frame.specs.Open.{known_of, bytes_at, inside, options_inside, record_within, keys_from, offsets_check, starts_check, fences_good, content_check, file_check, framing, opening, open_of}
use Rattle.frame.specs.Open.Laws.{FramesBy, Frames}

module _ (size : ℕ) (h t : List ℕ) where
  pub frames_parts : frame_check size h t ≡ (Ok tt) → FramesBy size h t
  unfolding frame_check shape_check ends_check footer_check rows_check
  frames_parts e =
      let a = fine_parts (shape_check size h t) _ e in
      let b = fine_parts (size_check size) _ a.0 in
      let c = fine_parts (ends_check size h t) _ b.1 in
      let d = fine_parts (head_check h) (tail_check size t) c.0 in
      let i = fine_parts (sum_check t) _ c.1 in
      let j = fine_parts (table_check (body_of t)) _ i.1 in
      let l = fine_parts (reserved_check (rows_of (body_of t))) _ j.1 in
      let k = fine_parts (codec_check (rows_of (body_of t))) _ l.1 in
      record {
        size = b.0;
        head = d.0;
        tail = d.1;
        sum = i.0;
        table = table_parts (body_of t) (good_parts Refusal.Table _ j.0);
        unreserved = l.0;
        raw = k.0;
        apart = k.1;
        counts = good_parts Refusal.Counts _ a.1;
      }

  -- the rules as a chain
  pub frame_chain : frame_check size h t ≡ size_check size ⊳ ends_check size h t ⊳ footer_check size t ⊳ counts_check (flags_of h) (framed_of t)
  unfolding frame_check shape_check
  frame_chain =
      then_assoc (size_check size) (ends_check size h t ⊳ footer_check size t) (counts_check (flags_of h) (framed_of t))
      ∙ ap (λ (c : Check). size_check size ⊳ c) (then_assoc (ends_check size h t) (footer_check size t) (counts_check (flags_of h) (framed_of t)))

  -- what 2 to 7 say of the footer's length
  pub ends_parts : ends_check size h t ≡ (Ok tt) → tail_check size t ≡ (Ok tt)
  unfolding ends_check
  ends_parts e = (fine_parts (head_check h) (tail_check size t) e).1

  pub frames_made : FramesBy size h t → frame_check size h t ≡ (Ok tt)
  unfolding frame_check shape_check ends_check footer_check rows_check
  frames_made s =
      let rows : rows_check (size - foot_len t) (body_of t) ≡ (Ok tt) = fine_both (good_fine Refusal.Table (table_made (body_of t) s.table)) (fine_both s.unreserved (fine_both s.raw s.apart)) in
      fine_both (fine_both s.size (fine_both (fine_both s.head s.tail) (fine_both s.sum rows))) (good_fine Refusal.Counts s.counts)

-- the size and the footer's length, as numbers
pub size_parts : (n : ℕ) → size_check n ≡ (Ok tt) → (84 ≤ n) × (n ≤ kind.most_bytes)
unfolding size_check
size_parts n e = let a = either_parts Refusal.Size (ltb n 84) (ltb (2 ^ 30) n) e in (ltb-false n 84 a.0, ltb-false (2 ^ 30) n a.1)

pub tail_parts : (n : ℕ) (t : List ℕ) → tail_check n t ≡ (Ok tt) → (kind.least_footer ≤ foot_len t) × (foot_len t ≤ n - kind.header_size)
unfolding tail_check
tail_parts n t e =
    let p = fine_parts (refuse Refusal.TailMagic (not (eqb (le_at t (length t - 8) 8) kind.magic))) _ e in
    let a = either_parts Refusal.FooterLength (ltb (foot_len t) kind.least_footer) (ltb (n - kind.header_size) (foot_len t)) p.1 in
    (ltb-false (foot_len t) kind.least_footer a.0, ltb-false (n - kind.header_size) (foot_len t) a.1)

pub tail_magic : (n : ℕ) (t : List ℕ) → tail_check n t ≡ (Ok tt) → le_at t (length t - 8) 8 ≡ kind.magic
unfolding tail_check
tail_magic n t e =
    let magic : Bool = eqb (le_at t (length t - 8) 8) kind.magic in
    eqb-true _ _ (good_parts Refusal.TailMagic magic (fine_parts (refuse Refusal.TailMagic (not magic)) _ e).0)

pub sum_parts : (t : List ℕ) → sum_check t ≡ (Ok tt) → xxh3 (body_of t) ≡ le_at t (length t - 20) 8
unfolding sum_check
sum_parts t e = eqb-true _ _ (good_parts Refusal.FooterSum (eqb (xxh3 (body_of t)) (le_at t (length t - 20) 8)) e)

-- rules 1, 6 and 7, and 8, from the numbers
pub size_made : (n : ℕ) → 84 ≤ n → n ≤ 2 ^ 30 → size_check n ≡ (Ok tt)
unfolding size_check
size_made n a b = rw (le-ltb n 84 a, le-ltb (2 ^ 30) n b)

pub tail_made : (n : ℕ) (t : List ℕ) → le_at t (length t - 8) 8 ≡ kind.magic → kind.least_footer ≤ foot_len t → foot_len t ≤ n - kind.header_size → tail_check n t ≡ (Ok tt)
unfolding tail_check
tail_made n t m a b = rw (eq-eqb (le_at t (length t - 8) 8) kind.magic m, le-ltb (foot_len t) kind.least_footer a, le-ltb (n - kind.header_size) (foot_len t) b)

pub sum_made : (t : List ℕ) → xxh3 (body_of t) ≡ le_at t (length t - 20) 8 → sum_check t ≡ (Ok tt)
unfolding sum_check
sum_made t e = rw (eq-eqb (xxh3 (body_of t)) (le_at t (length t - 20) 8) e)

-- a footer's body is the footer without its trailer
pub body_length : (t : List ℕ) → kind.trailer_size ≤ foot_len t → foot_len t ≤ length t → length (body_of t) ≡ foot_len t - kind.trailer_size
unfolding body_of
body_length t least most = length_part t (length t - foot_len t) (length t - kind.trailer_size) (omega arith) ∙ omega arith

-- where the footer of a file with a good frame lies
pub record Footed (f : List ℕ) : Type 0 where
  pub bytes : length f ≤ kind.most_bytes
  pub least : kind.least_footer ≤ foot_len f
  pub most : foot_len f + kind.header_size ≤ length f
  pub body : length (body_of f) ≡ foot_len f - kind.trailer_size

pub footed : (f : List ℕ) → Frames f → Footed f
footed f s =
    let a = size_parts (length f) s.size in
    let b = tail_parts (length f) f s.tail in
    record { bytes = a.1; least = b.0; most = omega arith; body = body_length f (omega arith) (omega arith) }

-- the bounds and lengths of rule 12
pub record Sized (o : Opened) : Type 0 where
  pub few : o.keycount ≤ kind.most_keys
  pub edges : o.edgecount ≤ kind.most_edges
  pub keys : o.keys.len ≡ kind.keys_len o.keycount
  pub offsets : o.offsets.len ≡ kind.offsets_len o.keycount (o.bits / 8)
  pub logs : o.logs.len ≡ kind.logs_len o.edgecount
  pub dead : o.marked ≡ true → o.dead.len ≡ kind.tombstones_len o.edgecount
  pub starts : o.indexed ≡ true → o.starts.len ≡ kind.starts_len o.keycount

-- what is asked where there are tombstones, or a start index
there_parts : (m b : Bool) → (not m || b) ≡ true → m ≡ true → b ≡ true
there_parts true b e h = e
there_parts false b e h = let z : ◌≡◌ {A = ℕ} 0 1 = cc in absurd (omega arith)

there_made : (m b : Bool) → (m ≡ true → b ≡ true) → (not m || b) ≡ true
there_made true b e = e refl
there_made false b e = refl

module _ (o : Opened) where
  pub sized_parts : sizes_good o ≡ true → Sized o
  unfolding sizes_good
  sized_parts q =
      let a = and_parts (leb o.keycount kind.most_keys) _ q in
      let b = and_parts (leb o.edgecount kind.most_edges) _ a.1 in
      let c = and_parts (eqb o.keys.len (kind.keys_len o.keycount)) _ b.1 in
      let d = and_parts (eqb o.offsets.len (kind.offsets_len o.keycount (o.bits / 8))) _ c.1 in
      let e = and_parts (eqb o.logs.len (kind.logs_len o.edgecount)) _ d.1 in
      let g = and_parts (not o.marked || eqb o.dead.len (kind.tombstones_len o.edgecount)) _ e.1 in
      record {
        few = leb-true _ _ a.0;
        edges = leb-true _ _ b.0;
        keys = eqb-true _ _ c.0;
        offsets = eqb-true _ _ d.0;
        logs = eqb-true _ _ e.0;
        dead = λ m. eqb-true _ _ (there_parts o.marked _ g.0 m);
        starts = λ m. eqb-true _ _ (there_parts o.indexed _ g.1 m);
      }

  pub sized_made : Sized o → sizes_good o ≡ true
  unfolding sizes_good
  sized_made s =
      and_both (le-leb o.keycount kind.most_keys s.few) (and_both (le-leb o.edgecount kind.most_edges s.edges)
      (and_both (eq-eqb o.keys.len (kind.keys_len o.keycount) s.keys) (and_both (eq-eqb o.offsets.len (kind.offsets_len o.keycount (o.bits / 8)) s.offsets)
      (and_both (eq-eqb o.logs.len (kind.logs_len o.edgecount) s.logs)
      (and_both (there_made o.marked _ (λ m. eq-eqb o.dead.len (kind.tombstones_len o.edgecount) (s.dead m)))
      (there_made o.indexed _ (λ m. eq-eqb o.starts.len (kind.starts_len o.keycount) (s.starts m))))))))

-- a width of 24, 32, 40 or 48 bits is 3 to 6 bytes
pub width_bytes : (bits : ℕ) → width_good bits ≡ true → (3 ≤ bits / 8) × (bits / 8 ≤ 6)
width_bytes bits e = go (eqb bits 24) refl (eqb bits 32) refl (eqb bits 40) refl e
  where
    go : (a : Bool) → eqb bits 24 ≡ a → (b : Bool) → eqb bits 32 ≡ b → (c : Bool) → eqb bits 40 ≡ c → (a || (b || (c || eqb bits 48))) ≡ true
        → (3 ≤ bits / 8) × (bits / 8 ≤ 6)
    go true p b q c r t = let z = eqb-true bits 24 p in omega arith
    go false p true q c r t = let z = eqb-true bits 32 q in omega arith
    go false p false q true r t = let z = eqb-true bits 40 r in omega arith
    go false p false q false r t = let z = eqb-true bits 48 t in omega arith

module _ {size : ℕ} {h t : List ℕ} (s : FramesBy size h t) where
  counted : (sizes_good (record_of t) ≡ true) × (width_good (record_of t).bits ≡ true)
  unfolding record_of framed_of framed_from counts_good
  counted =
      let a = and_parts (width_good (framed_of t).opened.bits) _ s.counts in
      ((and_parts (sizes_good (framed_of t).opened) _ a.1).0, a.0)

  pub frames_sized : Sized (record_of t)
  frames_sized = sized_parts (record_of t) counted.0

  pub frames_width : width_good (record_of t).bits ≡ true
  frames_width = counted.1

  -- each section lies between the file's first byte and the footer
  pub frames_within : (q : ℕ) → (section_of q (rows_of (body_of t))).start + (section_of q (rows_of (body_of t))).len ≤ size - foot_len t
  frames_within q = section_within (size - foot_len t) q (rows_of (body_of t)) kind.header_size 0 s.apart

-- ---- rule 21, taken apart and put together

pub record Recorded (size : ℕ) (o : Opened) : Type 0 where
  pub bytes : size ≤ kind.most_bytes
  pub keys : o.keys.start + o.keys.len ≤ size
  pub offsets : o.offsets.start + o.offsets.len ≤ size
  pub partners : o.partners.start + o.partners.len ≤ size
  pub logs : o.logs.start + o.logs.len ≤ size
  pub dead : o.marked ≡ true → o.dead.start + o.dead.len ≤ size
  pub starts : o.indexed ≡ true → o.starts.start + o.starts.len ≤ size
  pub width : width_good o.bits ≡ true
  pub sized : Sized o

module _ (size : ℕ) (o : Opened) where
  pub recorded_parts : record_within size o ≡ true → Recorded size o
  unfolding record_within
  recorded_parts q =
      let a = and_parts (leb size kind.most_bytes) _ q in
      let b = and_parts (inside size o.keys) _ a.1 in
      let c = and_parts (inside size o.offsets) _ b.1 in
      let d = and_parts (inside size o.partners) _ c.1 in
      let e = and_parts (inside size o.logs) _ d.1 in
      let g = and_parts (options_inside size o) _ e.1 in
      let h = and_parts (not o.marked || inside size o.dead) (not o.indexed || inside size o.starts) g.0 in
      let i = and_parts (width_good o.bits) (sizes_good o) g.1 in
      record {
        bytes = leb-true _ _ a.0;
        keys = leb-true _ _ b.0;
        offsets = leb-true _ _ c.0;
        partners = leb-true _ _ d.0;
        logs = leb-true _ _ e.0;
        dead = λ m. leb-true _ _ (there_parts o.marked _ h.0 m);
        starts = λ m. leb-true _ _ (there_parts o.indexed _ h.1 m);
        width = i.0;
        sized = sized_parts o i.1;
      }

  within : (r : Range) → r.start + r.len ≤ size → inside size r ≡ true
  within r h = le-leb (r.start + r.len) size h

  pub recorded_made : Recorded size o → record_within size o ≡ true
  unfolding record_within
  recorded_made s =
      and_both (le-leb size kind.most_bytes s.bytes) (and_both (within o.keys s.keys) (and_both (within o.offsets s.offsets) (and_both (within o.partners s.partners)
      (and_both (within o.logs s.logs)
      (and_both (and_both (there_made o.marked _ (λ m. within o.dead (s.dead m))) (there_made o.indexed _ (λ m. within o.starts (s.starts m))))
      (and_both s.width (sized_made o s.sized)))))))

-- ---- rules 13 to 15 and 37

pub record Opens (f : List ℕ) : Type 0 where
  pub frames : Frames f
  pub keys : keys_from ((record_of f).keycount - 1) (bytes_at f (record_of f).keys) 1 ≡ (Ok tt)
  pub offsets : offsets_check (bytes_at f (record_of f).offsets) ((record_of f).bits / 8) (record_of f).keycount (length (bytes_at f (record_of f).partners)) ≡ (Ok tt)
  pub fences : ((framed_of f).fenced && not (fences_good (bytes_at f (framed_of f).fences) (bytes_at f (record_of f).keys) (record_of f).keycount)) ≡ false
  pub starts : (record_of f).indexed ≡ true → starts_check (bytes_at f (record_of f).starts) (record_of f).keycount (record_of f).edgecount ≡ (Ok tt)

not_refused : (r : Refusal) (t : Bool) → refuse r t ≡ (Ok tt) → t ≡ false
not_refused r true e = let z : ◌≡◌ {A = ℕ} 0 1 = cc in absurd (omega arith)
not_refused r false e = refl

opening_good : (c : Check) (o p : Opened) → opening c p ≡ Ok o → (c ≡ (Ok tt)) × (p ≡ o)
unfolding opening
opening_good (Ok _) o p e = (refl, cc)
opening_good (Err r) o p e = let z : ◌≡◌ {A = ℕ} 0 1 = cc in absurd (omega arith)

pub opens_parts : (f : List ℕ) (o : Opened) → open_of f ≡ Ok o → Opens f
unfolding open_of file_check content_check known_of
opens_parts f o e =
    let a = fine_parts (frame_check (length f) f f) _ (opening_good (file_check f) o (record_of f) e).0 in
    let b = fine_parts (keys_from ((record_of f).keycount - 1) (bytes_at f (record_of f).keys) 1) _ a.1 in
    let c = fine_parts (offsets_check (bytes_at f (record_of f).offsets) ((record_of f).bits / 8) (record_of f).keycount (length (bytes_at f (record_of f).partners))) _ b.1 in
    let d = fine_parts (refuse Refusal.Fences ((framed_of f).fenced && not (fences_good (bytes_at f (framed_of f).fences) (bytes_at f (record_of f).keys) (record_of f).keycount))) _ c.1 in
    record {
      frames = frames_parts (length f) f f a.0;
      keys = b.0;
      offsets = c.0;
      fences = not_refused Refusal.Fences _ d.0;
      starts = λ m. (rw m at d.1);
    }

-- the record that opening gives is the file's
pub opens_record : (f : List ℕ) (o : Opened) → open_of f ≡ Ok o → record_of f ≡ o
unfolding open_of
opens_record f o e = (opening_good (file_check f) o (record_of f) e).1

pub opens_made : (f : List ℕ) → Opens f → open_of f ≡ Ok (record_of f)
unfolding open_of file_check content_check known_of opening
opens_made f s =
    let fences : refuse Refusal.Fences ((framed_of f).fenced && not (fences_good (bytes_at f (framed_of f).fences) (bytes_at f (record_of f).keys) (record_of f).keycount)) ≡ (Ok tt) =
    ap (refuse Refusal.Fences) s.fences in
    let good : file_check f ≡ (Ok tt) = fine_both (frames_made (length f) f f s.frames) (fine_both s.keys (fine_both s.offsets (fine_both fences (starts (record_of f).indexed refl)))) in
    ap (λ (t : Check). opening t (record_of f)) good
  where
    starts : (b : Bool) → (record_of f).indexed ≡ b → pick b (starts_check (pick b (bytes_at f (record_of f).starts) []) (record_of f).keycount (record_of f).edgecount) (Ok tt) ≡ (Ok tt)
    starts true m = s.starts m
    starts false m = refl

-- what opening answers, exactly: the record where no rule is broken, or the first refusal
module _ (f : List ℕ) where
  pub opens_fine : (open_of f ≡ Ok (record_of f)) ↔ (file_check f ≡ (Ok tt))
  unfolding open_of opening
  opens_fine = (λ e. (opening_good (file_check f) (record_of f) (record_of f) e).0, λ e. rw e)

  pub opens_refused : (r : Refusal) → (open_of f ≡ Err r) ↔ (file_check f ≡ Err r)
  unfolding open_of opening
  opens_refused r = (go (file_check f), λ e. rw e)
    where
      go : (c : Check) → opening c (record_of f) ≡ Err r → c ≡ Err r
      go (Ok _) e = let z : ◌≡◌ {A = ℕ} 0 1 = cc in absurd (omega arith)
      go (Err q) e = let same : q ≡ r = cc in ap Err same

-- ---- a chain of rules, one after the other, as the code goes through them

module _ (b : Check) (x : Framed) where
  pub framing_bad : {a : Check} (r : Refusal) → a ≡ Err r → framing (a ⊳ b) x ≡ Err r
  unfolding framing
  framing_bad r e = rw e

  pub framing_on : {a : Check} → a ≡ (Ok tt) → framing (a ⊳ b) x ≡ framing b x
  framing_on e = rw e

  pub framing_refused : (r : Refusal) {t : Bool} → t ≡ false → framing (refuse r (not t) ⊳ b) x ≡ Err r
  unfolding framing
  framing_refused r e = rw e

  pub framing_good : (r : Refusal) {t : Bool} → t ≡ true → framing (refuse r (not t) ⊳ b) x ≡ framing b x
  framing_good r e = rw e

-- and the answer taken apart
pub good_framing : (c : Check) (y x : Framed) → framing c y ≡ Ok x → (c ≡ (Ok tt)) × (y ≡ x)
unfolding framing
good_framing (Ok _) y x e = (refl, cc)
good_framing (Err r) y x e = let z : ◌≡◌ {A = ℕ} 0 1 = cc in absurd (omega arith)

pub refused_framing : (c : Check) (y : Framed) (r : Refusal) → framing c y ≡ Err r → c ≡ Err r
unfolding framing
refused_framing (Ok _) y r e = let z : ◌≡◌ {A = ℕ} 0 1 = cc in absurd (omega arith)
refused_framing (Err q) y r e = cc

pub framing_last : (r : Refusal) (x : Framed) {t : Bool} → t ≡ true → framing (refuse r (not t)) x ≡ Ok x
unfolding framing
framing_last r x e = rw e

pub framing_lost : (r : Refusal) (x : Framed) {t : Bool} → t ≡ false → framing (refuse r (not t)) x ≡ Err r
unfolding framing
framing_lost r x e = rw e
