-- What a good group says: of its degree and its partners, of its length, and that its bytes are what is written for them.
use Rattle.std.specs.Prelude.{◌≡◌, refl, ℕ, zero, suc, ◌+◌, ◌-◌, ◌*◌, ◌≤◌, Bool, true, false, length, Result, Ok, Err}
use Rattle.std.proofs.Math.Path.{sym, ap, ap₂}
use Rattle.std.proofs.Common.{subst, ◌∙◌, add-one, length-drop, drop_of_length-le}
use native.Mathlib.Omega.{arith}
use mathlib.Core.List.{List, ◌∷◌, ◌++◌, append_assoc}
use Rattle.std.proofs.Math.ListN.{drop}
use Rattle.std.proofs.Math.Seq.{drop-cons}
use Rattle.base.specs.Bytes.{Bytes}
use Rattle.codes.specs.declared.ids.Id.{Id}
use Rattle.codes.specs.Little.{le_at}
use Rattle.codes.specs.Little.Laws.{le_at_lt}
use Rattle.codes.specs.Ids.{id_number, halves_at}
use Rattle.codes.specs.Ids.Laws.{be_at_lt}
use Rattle.codes.specs.Varint.{varint_at, var_bytes}
use Rattle.codes.specs.Varint.Laws.{varint_next}
use Rattle.codes.specs.Stood.{le_stood, id_stood, varint_stood}
use Rattle.group.specs.declared.fault.Fault.{Fault}
use Rattle.group.specs.declared.head.Head.{Head}
use Rattle.group.specs.Group.{good, bad, split_step, step_at, walk_from, degree_of, head_of, group_of, is_good, partners_of, bytes_of}
use Rattle.group.specs.Group.Laws.{tag_of, Headed}
use Rattle.group.proofs.Laws.Group.{SplitRead, split_read, split_varint, dense_read, step_split, step_dense, step_next, head_is, head_headed, group_walk, group_bad, good_turn, good_end, good_is, length_bytes_of}
use Rattle.group.specs.Written.{Halves, Above, Rising, step_bytes, payload_of, written_as}
use Rattle.group.proofs.Laws.Written.{payload_none, payload_cons, written_is}
use Rattle.group.specs.Good.{Stepped, Walked, GoodGroup, Fill}

split_stepped : (g : List ℕ) (i hi : ℕ) (p : Id) (n v m : ℕ) → Bytes g → varint_at g i ≡ Ok (v, m) → SplitRead g i hi p n v m → Stepped false g i hi p n
split_stepped g i hi p n v m b q r =
    let up : p.hi ≡ hi + v = ap (λ (x : Id). x.hi) r.partner in
    let low : p.lo ≡ le_at g m 8 = ap (λ (x : Id). x.lo) r.partner in
    let diff : p.hi - hi ≡ v = omega arith in
    record {
      upper = rw up r.fits;
      lower = rw low (le_at_lt g b m 8);
      bytes = rw (diff, low, r.place, append_assoc)
          (varint_stood g i v m b q ∙ ap (λ (t : List ℕ). var_bytes v ++ t) (le_stood 8 g m b r.room));
    }

stepped : (dense : Bool) (g : List ℕ) (i hi : ℕ) (p : Id) (n : ℕ) → Bytes g → step_at dense g i hi ≡ Ok (p, n) → Stepped dense g i hi p n
unfolding halves_at
stepped true g i hi p n b e =
    let (room, is, place) = dense_read g i p n (sym (step_dense g i hi) ∙ e) in
    record {
      upper = rw is (be_at_lt g b i 8);
      lower = rw is (be_at_lt g b (i + 8) 8);
      bytes = rw (is, place) (id_stood g i b room);
    }
stepped false g i hi p n b e =
    let s : split_step g i hi ≡ Ok (p, n) = sym (step_split g i hi) ∙ e in
    let (v, m, q) = split_varint g i hi p n s in
    split_stepped g i hi p n v m b q (split_read g i hi p n s v m q)

pub walked : (dense : Bool) (d : ℕ) (g : List ℕ) (i hi floor : ℕ) (b : Bool) (ps : List Id) → walk_from dense d g i hi floor ≡ good b ps
    → Walked dense d g i hi floor b ps
unfolding Halves Above
walked dense zero g i hi floor b ps e =
    let (end, kind, none) = good_end dense g i hi floor b ps e in
    record {
      kind = kind;
      count = ap length none;
      above = subst (Above floor) (sym none) tt;
      room = omega arith;
      halves = λ z. subst Halves (sym none) tt;
      bytes = λ z. drop_of_length-le g {i = i} (omega arith) ∙ sym (ap (payload_of dense hi) none ∙ payload_none dense hi);
    }
walked dense (suc d) g i hi floor b ps e =
    let t = good_turn dense g i hi floor b ps d e in
    let p = t.partner in
    let n = t.next in
    let qs = t.others in
    let w = walked dense d g n p.hi (suc (id_number p)) b qs t.rest in
    let count = w.count in
    let room = w.room in
    let after = step_next dense g i hi p n t.step in
    record {
      kind = w.kind;
      count = ap length t.all ∙ ap suc count;
      above = subst (Above floor) (sym t.all) (t.order, w.above);
      room = omega arith;
      halves = λ z. let s = stepped dense g i hi p n z t.step in subst Halves (sym t.all) (s.upper, s.lower, w.halves z);
      bytes = λ z.
          (stepped dense g i hi p n z t.step).bytes
          ∙ ap (λ (u : List ℕ). step_bytes dense hi p ++ u) (w.bytes z)
          ∙ sym (ap (payload_of dense hi) t.all ∙ payload_cons dense hi p qs);
    }

pub good_group : (g : List ℕ) (dense : Bool) (ps : List Id) → group_of g ≡ good dense ps → GoodGroup g dense ps
good_group g dense ps e = go (head_of g) refl
  where
    walk : (c : Bool) (d i : ℕ) → head_of g ≡ head_is c d i → GoodGroup g dense ps
    walk c d i q =
        let w = walked c d g i 0 0 dense ps (sym (group_walk g c d i q) ∙ e) in
        record {
          place = i;
          head = subst (λ (x : Bool). Headed g x (length ps) i) (sym w.kind) (subst (λ (x : ℕ). Headed g c x i) (sym w.count) (head_headed g c d i q));
          walk = subst (λ (x : Bool). Walked x (length ps) g i 0 0 dense ps) (sym w.kind) (subst (λ (x : ℕ). Walked c x g i 0 0 dense ps) (sym w.count) w);
        }

    go : (h : Result Head Fault) → head_of g ≡ h → GoodGroup g dense ps
    go (Ok (Head.Split d i)) q = walk false d i q
    go (Ok (Head.Dense d i)) q = walk true d i q
    go (Err f) q =
        let r : bad f ≡ good dense ps = sym (group_bad g f q) ∙ e in
        let z : ◌≡◌ {A = ℕ} 0 1 = cc in absurd (omega arith)

module _ (g : List ℕ) (dense : Bool) (ps : List Id) (e : group_of g ≡ good dense ps) where
  -- the degree that is read is the number of partners, and at least 1
  pub degree_is : (1 ≤ length ps) × ((n : ℕ) × (degree_of g ≡ Ok (length ps, n)))
  degree_is = let h = (good_group g dense ps e).head in (h.some, (h.tag, h.degree))

  pub partners_rise : Rising ps
  partners_rise = (good_group g dense ps e).walk.above

  pub partners_halves : Bytes g → Halves ps
  partners_halves = (good_group g dense ps e).walk.halves

  -- nine bytes or more for each partner, after a degree and a tag
  pub group_length : 2 + 9 * length ps ≤ length g
  unfolding degree_of
  group_length =
      let r = good_group g dense ps e in
      let h = r.head in
      let room = r.walk.room in
      let place = h.place in
      let after = varint_next g 0 (length ps) h.tag h.degree in
      omega arith

  -- the bytes of a good group are what is written for its partners
  pub group_bytes_lem : Bytes g → g ≡ written_as dense ps
  unfolding degree_of
  group_bytes_lem b =
      let r = good_group g dense ps e in
      let h = r.head in
      let n = h.tag in
      let tag : drop n g ≡ tag_of dense ∷ drop r.place g =
      drop-cons g n 0 h.within ∙ ap₂ (λ (x y : ℕ). x ∷ drop y g) h.tagged (sym (add-one n) ∙ sym h.place) in
      varint_stood g 0 (length ps) n b h.degree
      ∙ ap (λ (t : List ℕ). var_bytes (length ps) ++ t) (tag ∙ ap (λ (t : List ℕ). tag_of dense ∷ t) (r.walk.bytes b))
      ∙ sym (written_is dense ps)

-- of a good dense group the payload is the partners' bytes as they stand
pub dense_payload : (g : List ℕ) (d i hi floor : ℕ) (b : Bool) (ps : List Id) → Bytes g → walk_from true d g i hi floor ≡ good b ps → drop i g ≡ bytes_of ps
dense_payload g d i hi floor b ps z e = (walked true d g i hi floor b ps e).bytes z

pub fill : (g : List ℕ) (dense : Bool) (d i : ℕ) → head_of g ≡ head_is dense d i → is_good (group_of g) ≡ true → Fill g dense d i
fill g dense d i h ok =
    let walk = group_walk g dense d i h in
    let (b, is) = good_is (group_of g) ok in
    let w = walked dense d g i 0 0 b (partners_of (group_of g)) (sym walk ∙ is) in
    let room = w.room in
    record { walk = walk; rest = sym (ap is_good walk) ∙ ok; count = w.count; within = omega arith; payload = w.bytes }

-- the payload of a dense group has 16 bytes for each partner
pub fill_length : (g : List ℕ) (d i : ℕ) → Bytes g → Fill g true d i → length g - i ≡ 16 * d
fill_length g d i b f =
    sym (length-drop i g) ∙ ap length (f.payload b) ∙ length_bytes_of (partners_of (group_of g)) ∙ ap (λ (t : ℕ). 16 * t) f.count
