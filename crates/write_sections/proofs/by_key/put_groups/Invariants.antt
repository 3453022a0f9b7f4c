use mathlib.Core.Path.{◌≡◌, refl, sym, ap}
use Prim.Native.Nat.{ℕ, ◌+◌, ◌-◌, ◌≤◌}
use native.Mathlib.Omega.{arith}
use mathlib.Core.List.{List, [], ◌++◌}
use lib.ListN.{length, get_or, drop}
use lib.Seq.{sets}
use Rattle.batch.specs.Batch.{partners_in, edges_of}
use Rattle.base.specs.Over.{part}
use Rattle.base.specs.Put.{Put}
use Rattle.codes.specs.Little.{le_bytes}
use Rattle.codes.specs.Little.Laws.{length_le_bytes}
use Rattle.codes.specs.Ids.{id_bytes}
use Rattle.codes.specs.Ids.Laws.{length_id_bytes}
use Rattle.batch.specs.declared.Edge.{Edge}
use Rattle.batch_groups.specs.Groups.{none, Group, groups_of, GroupEnd, Grouped}
use Rattle.batch_groups.proofs.Laws.Groups.{grouped_step}
use Rattle.write_image.specs.Image.{group_bytes, key_bytes, offset_bytes, partner_bytes}
use Rattle.write_image.specs.Image.Laws.{keys_step, keys_end, partners_step, partners_end, offsets_step, offsets_end}
use Rattle.write_sections.specs.Three as T
use Rattle.write_sections.specs.Three.{Three}
use Rattle.write_sections.proofs.by_key.put_groups.Given as goal

module _ (es : List Edge) (n keys w : ℕ) (start : List ℕ) (at base : ℕ) where
  abbrev pub left : (i : ℕ) → List Group
  left i = groups_of (drop i es)

  abbrev pub all : List ℕ
  all = key_bytes (groups_of es) ++ (offset_bytes w keys 0 (groups_of es) ++ partner_bytes keys (groups_of es))

  pub record Head (out : List ℕ) (i k o p : ℕ) : Type 0 where
    pub upto : i ≤ n
    pub above : base ≤ p
    pub rest : Grouped 0 (left i)
    pub three : Three out k (key_bytes (left i)) o (offset_bytes w keys (p - base) (left i)) p (partner_bytes keys (left i)) start at all

  module _ (out : List ℕ) (i k o p : ℕ) (h : Head out i k o p) where
    module _ (j : ℕ) (e : GroupEnd es i j) where
      abbrev pub key : List ℕ
      key = id_bytes (get_or es i none).key

      abbrev pub number : List ℕ
      number = le_bytes w (p - base)

      abbrev pub here : List ℕ
      here = group_bytes keys (partners_in (part es i j))

      pub todo : Three out k (key ++ key_bytes (left j)) o (number ++ offset_bytes w keys (p - base + length here) (left j)) p (here ++ partner_bytes keys (left j)) start at all
      todo = T.are (keys_step es i j e) (offsets_step es i j e keys w (p - base)) (partners_step es i j e keys) h.three

      pub room : at + length all ≤ length start → (k + 16 ≤ length out) × (o + w ≤ length out) × (p + length here ≤ length out)
      room g =
          let r = T.rooms key number here (key_bytes (left j)) (offset_bytes w keys (p - base + length here) (left j)) (partner_bytes keys (left j)) todo g in
          let s = length_id_bytes (get_or es i none).key in
          let t = length_le_bytes w (p - base) in
          (omega (arith, r.0), omega (arith, r.1), r.2)

      pub again : (p' : ℕ) (out' : List ℕ) → j ≤ n → p' ≡ p + length here → out' ≡ sets (sets (sets out k key) o number) p here → Head out' j (k + 16) (o + w) p'
      again p' out' q r f =
          let u = h.above in
          let offset : p - base + length here ≡ p' - base = omega arith in
          let t : Three out' (k + 16) (key_bytes (left j)) (o + w) (offset_bytes w keys (p - base + length here) (left j)) p' (partner_bytes keys (left j)) start at all =
          T.on key number here todo
          (ap (λ (x : ℕ). k + x) (sym (length_id_bytes (get_or es i none).key))) (ap (λ (x : ℕ). o + x) (sym (length_le_bytes w (p - base)))) r f in
          record {
            upto = q;
            above = omega arith;
            rest = (grouped_step es i j e h.rest).1;
            three = T.are refl (ap (λ (x : ℕ). offset_bytes w keys x (left j)) offset) refl t;
          }

    module _ (z : i ≡ length es) where
      pub ended : Three out k [] o (le_bytes w (p - base)) p [] start at all
      ended = T.are (keys_end es i z) (offsets_end es i z keys w (p - base)) (partners_end es i z keys) h.three

      pub room_last : at + length all ≤ length start → o + w ≤ length out
      room_last g =
          let t = ended in
          let same = t.same in
          let second = t.second in
          let third = t.third in
          let l = length_le_bytes w (p - base) in
          omega arith

      pub done : {out' : List ℕ} → out' ≡ sets out o (le_bytes w (p - base)) → Put start out' at p all
      done f = T.last_of_three ended f

abbrev pub invariant-loop-i : goal.invariant-loop-i
invariant-loop-i l = Head (edges_of l.batch) l.n l.keys l.w l.initial.out l.at l.base l.out l.i l.k l.o l.p

abbrev pub decreases-loop-i : goal.decreases-loop-i
decreases-loop-i l = l.n - l.i
