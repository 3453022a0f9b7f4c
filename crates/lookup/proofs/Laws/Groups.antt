-- The group asked for, as its own call sees it.
use Rattle.std.specs.Prelude.{◌≡◌, ◌⊎◌, refl, ℕ, ◌*◌, ◌≤◌, ◌<◌, List, Bool, true, length, ltb, Ok, Err}
use Rattle.std.proofs.Common.{◌∙◌, arith, inl, inr}
use Rattle.std.proofs.Math.Decide.{dec_lt}
use borrow.Author.Tests.{lt-ltb, le-ltb, ltb-false}
use Rattle.base.specs.Over.{part}
use Rattle.refusal.specs.declared.Refusal.{Refusal}
use Rattle.refusal.specs.Check.{refuse, Check}
use Rattle.refusal.proofs.Laws.Check.{fine_parts, either_parts}
use Rattle.degrees.specs.Degrees.{misplaced}
use Rattle.codes.specs.declared.ids.Id.{Id}
use Rattle.group.specs.declared.fault.Fault.{Fault}
use Rattle.group.specs.Fault.{refusal_of}
use Rattle.group.specs.Group.{Decoded, good, bad, group_of, is_good, partners_of}
use Rattle.lookup.specs.Lookup.{group_check, group_fault}
use Rattle.lookup.specs.Groups.{seen, group_seen, Fills}

-- ---- laws

seen_fine : (c : Check) (m d : ℕ) → seen c m ≡ Ok d → (c ≡ (Ok tt)) × (m ≡ d)
unfolding seen
seen_fine (Ok _) m d e = (refl, cc)
seen_fine (Err r) m d e = let z : ◌≡◌ {A = ℕ} 0 1 = cc in absurd (omega arith)

seen_bad : (c : Check) (m : ℕ) (r : Refusal) → seen c m ≡ Err r → c ≡ Err r
unfolding seen
seen_bad (Ok _) m r e = let z : ◌≡◌ {A = ℕ} 0 1 = cc in absurd (omega arith)
seen_bad (Err q) m r e = cc

pub check_fine : (i : ℕ) (dense : Bool) (ps : List Id) → group_check i (good dense ps) ≡ (Ok tt)
unfolding group_check
check_fine i dense ps = refl

pub check_bad : (i : ℕ) (f : Fault) → group_check i (bad f) ≡ Err (refusal_of i f)
unfolding group_check
check_bad i f = refl

pub check_good : (i : ℕ) (w : Decoded) → group_check i w ≡ (Ok tt) → is_good w ≡ true
unfolding group_check is_good
check_good i (good dense ps) e = refl
check_good i (bad f) e = let z : ◌≡◌ {A = ℕ} 0 1 = cc in absurd (omega arith)

module _ (p : List ℕ) (a e i : ℕ) where
  pub seen_falls : e < a → group_seen p a e i ≡ Err (Refusal.Offset i)
  unfolding group_seen group_fault seen
  seen_falls h = simp (lt-ltb e a h)

  module _ (h : a ≤ e) where
    pub seen_past : length p < e → group_seen p a e i ≡ Err (Refusal.Offset i)
    unfolding group_seen group_fault seen
    seen_past g = simp (le-ltb e a h, lt-ltb (length p) e g)

    module _ (g : e ≤ length p) where
      reads : group_seen p a e i ≡ seen (group_check i (group_of (part p a e))) (length (partners_of (group_of (part p a e))))
      unfolding group_seen group_fault
      reads = simp (le-ltb e a h, le-ltb (length p) e g)

      -- by what the group holds
      pub good_seen : (dense : Bool) (ps : List Id) → group_of (part p a e) ≡ good dense ps → group_seen p a e i ≡ Ok (length ps)
      unfolding seen group_check partners_of
      good_seen dense ps q = reads ∙ rw q

      pub bad_seen : (f : Fault) → group_of (part p a e) ≡ bad f → group_seen p a e i ≡ Err (refusal_of i f)
      unfolding seen group_check
      bad_seen f q = reads ∙ rw q

-- whether it falls or passes the end
pub seen_misplaced : (p : List ℕ) (a e i : ℕ) → (e < a) ⊎ (length p < e) → group_seen p a e i ≡ Err (Refusal.Offset i)
seen_misplaced p a e i h =
    elim h [
      | inl f ↦ seen_falls p a e i f
      | inr g ↦ elim (dec_lt e a) [
        | yes f ↦ seen_falls p a e i f
        | no f ↦ seen_past p a e i (omega arith) g
      ]
    ]

-- what a group that was seen good gives
module _ (p : List ℕ) (a e i d : ℕ) (q : group_seen p a e i ≡ Ok d) where
  fine : (group_fault p a e i ≡ (Ok tt)) × (length (partners_of (group_of (part p a e))) ≡ d)
  unfolding group_seen
  fine = seen_fine (group_fault p a e i) _ d q

  pub seen_fault : group_fault p a e i ≡ (Ok tt)
  seen_fault = fine.0

  pub seen_degree : length (partners_of (group_of (part p a e))) ≡ d
  seen_degree = fine.1

  pub seen_fills : (n : ℕ) → 16 * d ≤ n → Fills p a e n
  unfolding group_fault
  seen_fills n h =
      let f = fine_parts (refuse (Refusal.Offset i) (misplaced p a e)) _ fine.0 in
      let m = either_parts (Refusal.Offset i) (ltb e a) (ltb (length p) e) f.0 in
      let k = seen_degree in record {
        rises = ltb-false _ _ m.0;
        inside = ltb-false _ _ m.1;
        good = check_good i (group_of (part p a e)) f.1;
        room = omega arith;
      }

pub seen_refusal : (p : List ℕ) (a e i : ℕ) (r : Refusal) → group_seen p a e i ≡ Err r → group_fault p a e i ≡ Err r
unfolding group_seen
seen_refusal p a e i r q = seen_bad (group_fault p a e i) _ r q

-- the same group by other names
pub fills_at : {p q : List ℕ} {a b e g : ℕ} (n : ℕ) → p ≡ q → a ≡ b → e ≡ g → Fills q b g n → Fills p a e n
fills_at n x y z h = rw (x, y, z) h
