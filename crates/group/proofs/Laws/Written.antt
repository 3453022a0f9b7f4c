-- The two writings of a group, and that a group which was written reads back.
use Rattle.std.specs.Prelude.{◌≡◌, refl, ℕ, zero, suc, ◌+◌, ◌-◌, ◌*◌, ◌^◌, ◌≤◌, ◌<◌, List, [], ◌∷◌, ◌++◌, Bool, true, false, length, get_or, Ok}
use Rattle.std.proofs.Common.{sym, ap, ◌∙◌, zero-add, arith, append-nil, append_assoc, length-append, le-leb}
use Rattle.std.proofs.Math.Seq.{append_snoc, get_or-append_seam}
use Rattle.codes.specs.declared.ids.Id.{Id}
use Rattle.codes.specs.Little.{le_at, le_bytes}
use Rattle.codes.specs.Little.Laws.{le_at_back, length_le_bytes}
use Rattle.codes.specs.Ids.{id_number, id_bytes}
use Rattle.codes.specs.Ids.Laws.{length_id_bytes, halves_back}
use Rattle.codes.specs.Varint.{varint_at, var_bytes}
use Rattle.codes.specs.Varint.Laws.{read_back}
use Rattle.group.specs.Group.{good, split_step, step_at, cons, walk_from, group_of, bytes_of}
use Rattle.group.specs.Group.Laws.{tag_of}
use Rattle.group.proofs.Laws.Group.{split_good, dense_good, step_split, step_dense, walk_end, walk_more, head_tagged, group_walk}
use Rattle.group.specs.Written.{Halves, Above, Rising, split_from, split_bytes, dense_bytes, step_bytes, payload_of, written_as}

-- so each number is above every one before it; z is any id
above_floor : (ps : List Id) (floor j : ℕ) (z : Id) → Above floor ps → j < length ps → floor ≤ id_number (get_or ps j z)
unfolding Above
above_floor [] floor j z u h = absurd (omega arith)
above_floor (p ∷ ps) floor zero z u h = u.0
above_floor (p ∷ ps) floor (suc j) z u h = let first = u.0 in omega (arith, above_floor ps (suc (id_number p)) j z u.1 (omega arith))

pub above_before : (ps : List Id) (floor i j : ℕ) (z : Id) → Above floor ps → i < j → j < length ps → id_number (get_or ps i z) < id_number (get_or ps j z)
unfolding Above
above_before [] floor i j z u l h = absurd (omega arith)
above_before (p ∷ ps) floor i zero z u l h = absurd (omega arith)
above_before (p ∷ ps) floor zero (suc j) z u l h = above_floor ps (suc (id_number p)) j z u.1 (omega arith)
above_before (p ∷ ps) floor (suc i) (suc j) z u l h = above_before ps (suc (id_number p)) i j z u.1 (omega arith) (omega arith)

pub payload_none : (dense : Bool) (hi : ℕ) → payload_of dense hi [] ≡ []
unfolding bytes_of split_from
payload_none true hi = refl
payload_none false hi = refl

pub payload_cons : (dense : Bool) (hi : ℕ) (p : Id) (ps : List Id) → payload_of dense hi (p ∷ ps) ≡ step_bytes dense hi p ++ payload_of dense p.hi ps
unfolding bytes_of split_from
payload_cons true hi p ps = refl
payload_cons false hi p ps = sym (append_assoc (var_bytes (p.hi - hi)) (le_bytes 8 p.lo) (split_from p.hi ps))

pub written_is : (dense : Bool) (ps : List Id) → written_as dense ps ≡ var_bytes (length ps) ++ (tag_of dense ∷ payload_of dense 0 ps)
unfolding dense_bytes split_bytes
written_is true ps = refl
written_is false ps = refl

-- ---- one partner, between q and r

module _ (q r : List ℕ) (hi : ℕ) (p : Id) (a : hi ≤ p.hi) (b : p.hi < 2 ^ 64) (c : p.lo < 2 ^ 64) where
  split_step_back : split_step (q ++ (step_bytes false hi p ++ r)) (length q) hi ≡ Ok (p, length (q ++ step_bytes false hi p))
  split_step_back =
      let v : List ℕ = var_bytes (p.hi - hi) in
      let w : List ℕ = le_bytes 8 p.lo in
      let g : List ℕ = q ++ ((v ++ w) ++ r) in
      let n : ℕ = length q + length v in
      let flat : g ≡ q ++ (v ++ (w ++ r)) = ap (λ (t : List ℕ). q ++ t) (append_assoc v w r) in
      let same : g ≡ (q ++ v) ++ (w ++ r) = flat ∙ sym (append_assoc q v (w ++ r)) in
      let e : varint_at g (length q) ≡ Ok (p.hi - hi, n) = rw flat (read_back q (w ++ r) (p.hi - hi) (omega arith)) in
      let up : hi + (p.hi - hi) ≡ p.hi = omega arith in
      let eight : length w ≡ 8 = length_le_bytes 8 p.lo in
      let len : length (q ++ v) ≡ n = length-append q v in
      let lo : le_at g n 8 ≡ p.lo = rw (same, ← len) (le_at_back 8 (q ++ v) r p.lo c) in
      let room : n + 8 ≤ length g = rw (same, length-append, len, length-append) (omega arith) in
      let end : n + 8 ≡ length (q ++ (v ++ w)) = rw (length-append, length-append) (omega arith) in
      split_good g (length q) hi (p.hi - hi) n e (rw up b) room ∙ (λ j. Ok (record { hi = up j; lo = lo j }, end j))

  dense_step_back : step_at true (q ++ (id_bytes p ++ r)) (length q) hi ≡ Ok (p, length (q ++ id_bytes p))
  dense_step_back =
      let g : List ℕ = q ++ (id_bytes p ++ r) in
      let sixteen : length (id_bytes p) ≡ 16 = length_id_bytes p in
      let end : length q + 16 ≡ length (q ++ id_bytes p) = rw length-append (omega arith) in
      let room : length q + 16 ≤ length g = rw (length-append, length-append) (omega arith) in
      step_dense g (length q) hi ∙ dense_good g (length q) room ∙ (λ j. Ok (halves_back q r p b c j, end j))

step_back : (dense : Bool) (q r : List ℕ) (hi : ℕ) (p : Id) → hi ≤ p.hi → p.hi < 2 ^ 64 → p.lo < 2 ^ 64
    → step_at dense (q ++ (step_bytes dense hi p ++ r)) (length q) hi ≡ Ok (p, length (q ++ step_bytes dense hi p))
step_back true q r hi p a b c = dense_step_back q r hi p a b c
step_back false q r hi p a b c = step_split (q ++ (step_bytes false hi p ++ r)) (length q) hi ∙ split_step_back q r hi p a b c

-- ---- all of them, after q

-- a number of the floor hi or above has the upper half hi or above
upper_from : (hi up lo floor : ℕ) → hi * 2 ^ 64 ≤ floor → floor ≤ up * 2 ^ 64 + lo → lo < 2 ^ 64 → hi ≤ up
upper_from hi up lo floor a b c = omega arith

walk_back : (dense : Bool) (ps : List Id) (q : List ℕ) (hi floor : ℕ) → hi * 2 ^ 64 ≤ floor → Halves ps → Above floor ps
    → walk_from dense (length ps) (q ++ payload_of dense hi ps) (length q) hi floor ≡ good dense ps
unfolding Halves Above cons
walk_back dense [] q hi floor a h u =
    rw (payload_none dense hi) (walk_end dense (q ++ []) (length q) hi floor (ap length (sym (append-nil q))))
walk_back dense (p ∷ ps) q hi floor a h u =
    let w : List ℕ = step_bytes dense hi p in
    let r : List ℕ = payload_of dense p.hi ps in
    let same : q ++ (w ++ r) ≡ (q ++ w) ++ r = sym (append_assoc q w r) in
    let up : hi ≤ p.hi = upper_from hi p.hi p.lo floor a u.0 h.1 in
    let ih = walk_back dense ps (q ++ w) p.hi (suc (id_number p)) (omega arith) h.2 u.1 in
    ap (λ (t : List ℕ). walk_from dense (suc (length ps)) (q ++ t) (length q) hi floor) (payload_cons dense hi p ps)
    ∙ walk_more dense (q ++ (w ++ r)) (length q) hi floor (length ps) p (length (q ++ w))
    (step_back dense q r hi p up h.0 h.1) (le-leb floor (id_number p) u.0)
    ∙ ap (λ (t : List ℕ). cons p (walk_from dense (length ps) t (length (q ++ w)) p.hi (suc (id_number p)))) same
    ∙ ap (cons p) ih

-- ---- the whole group

module _ (ps : List Id) (some : 1 ≤ length ps) (fits : length ps < 2 ^ 64) (h : Halves ps) (u : Rising ps) where
  pub written_back : (dense : Bool) → group_of (written_as dense ps) ≡ good dense ps
  written_back dense =
      let d : ℕ = length ps in
      let v : List ℕ = var_bytes d in
      let t : ℕ = tag_of dense in
      let r : List ℕ = payload_of dense 0 ps in
      let q : List ℕ = v ++ (t ∷ []) in
      let n : ℕ = length v in
      let g : List ℕ = v ++ (t ∷ r) in
      let value : varint_at g 0 ≡ Ok (d, n) = read_back [] (t ∷ r) d fits ∙ ap (λ (t : ℕ). Ok (d, t)) (zero-add n) in
      let tag : get_or g n 0 ≡ t = get_or-append_seam v t r 0 in
      let within : n < length g = rw length-append (omega arith) in
      let len : n + 1 ≡ length q = sym (length-append v (t ∷ [])) in
      let same : g ≡ q ++ r = sym (append_snoc v t r) in
      ap group_of (written_is dense ps)
      ∙ group_walk g dense d (n + 1) (head_tagged dense g d n value some within tag)
      ∙ ap (λ (i : ℕ). walk_from dense d g i 0 0) len
      ∙ ap (λ (s : List ℕ). walk_from dense d s (length q) 0 0) same
      ∙ walk_back dense ps q 0 0 (omega arith) h u

  pub split_back : group_of (split_bytes ps) ≡ good false ps
  split_back = written_back false

  pub dense_back : group_of (dense_bytes ps) ≡ good true ps
  dense_back = written_back true
