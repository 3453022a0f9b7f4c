-- The laws of degrees and of the edges before a group.
use Rattle.std.specs.Prelude.{◌≡◌, List, Bool, length, eqb, Option, Ok, Some, None, Err}
use Rattle.std.proofs.Math.Path.{refl}
use Rattle.std.proofs.Common.{sym, ap, ◌∙◌, add-one, arith}
use Prim.Native.Nat.{ℕ, zero, suc, ◌+◌, ◌-◌, ◌≤◌, ◌<◌}
use Rattle.std.proofs.Math.Decide.{dec_lt}
use Rattle.std.proofs.Math.Nat.{add-zero, add-suc}
use Rattle.std.proofs.Math.Bool.{true, false}
use borrow.Author.Tests.{lt-ltb, le-ltb, le-leb, lt-leb, eq-eqb, ne_eqb}
use Rattle.base.specs.Pick.{pick}
use Rattle.base.specs.Over.{part}
use Rattle.codes.specs.declared.varint.Unread.{Unread}
use Rattle.codes.specs.Varint.{varint_at}
use Rattle.frame.specs.Open.{offset_at, start_at}
use Rattle.degrees.specs.Degrees.{positive, degree_in, degree_at, plus, edges_before, start_of, capped}

-- ---- one degree

module _ (p : List ℕ) (a e : ℕ) where
  pub in_falls : e < a → degree_in p a e ≡ None
  unfolding degree_in
  in_falls h = simp (lt-ltb e a h)

  module _ (h : a ≤ e) where
    pub in_past : length p < e → degree_in p a e ≡ None
    unfolding degree_in
    in_past g = simp (le-ltb e a h, lt-ltb (length p) e g)

    module _ (g : e ≤ length p) where
      reads : degree_in p a e ≡ positive (varint_at (part p a e) 0)
      unfolding degree_in
      reads = simp (le-ltb e a h, le-ltb (length p) e g)

      pub in_zero : (v n : ℕ) → varint_at (part p a e) 0 ≡ Ok (v, n) → v ≡ 0 → degree_in p a e ≡ None
      unfolding positive
      in_zero v n q z = reads ∙ rw q (simp (eq-eqb v 0 z))

      pub in_is : (v n : ℕ) → varint_at (part p a e) 0 ≡ Ok (v, n) → (v ≡ 0 → ⊥) → degree_in p a e ≡ Some v
      unfolding positive
      in_is v n q z = reads ∙ rw q (simp (ne_eqb v 0 z))

      pub in_unread : (why : Unread) → varint_at (part p a e) 0 ≡ Err why → degree_in p a e ≡ None
      unfolding positive
      in_unread why q = reads ∙ rw q

-- ---- the sum

-- a sum that is at most so many
pub capped_is : (most : ℕ) (x : Option ℕ) (s : ℕ) → x ≡ Some s → s ≤ most → capped most x ≡ Some s
unfolding capped
capped_is most x s e h = rw e (simp (le-leb s most h))

-- what is not told stays untold, and a sum that is too large stays too large
cap_bad : (most : ℕ) (s : Option ℕ) (d : Option ℕ) → capped most s ≡ None → capped most (plus s d) ≡ None
unfolding capped plus
cap_bad most (Some s) (Some d) e =
    elim (dec_lt most s) [
      | yes h ↦ simp (lt-leb (s + d) most (omega arith))
      | no h ↦
          let q : Some s ≡ None = sym (simp (le-leb s most (omega arith))) ∙ e in
          cc
    ]
cap_bad most (Some s) None e = refl
cap_bad most None d e = refl

module _ (p o : List ℕ) (w : ℕ) where
  pub before_none : edges_before p o w 0 ≡ Some 0
  unfolding edges_before
  before_none = refl

  bad_stays : (most j i : ℕ) → capped most (edges_before p o w j) ≡ None → capped most (edges_before p o w (j + i)) ≡ None
  unfolding edges_before
  bad_stays most j zero e = rw add-zero e
  bad_stays most j (suc i) e = rw add-suc (cap_bad most (edges_before p o w (j + i)) (degree_at p o w (j + i)) (bad_stays most j i e))

  module _ (most n j sum : ℕ) (lt : j < n) (e : edges_before p o w j ≡ Some sum) where
    next : (d : Option ℕ) → degree_at p o w j ≡ d → edges_before p o w (j + 1) ≡ plus (Some sum) d
    unfolding edges_before
    next d q = rw (add-one j, e, q)

    over : capped most (edges_before p o w (j + 1)) ≡ None → capped most (edges_before p o w n) ≡ None
    over h =
        let f : j + 1 + (n - (j + 1)) ≡ n = omega arith in
        (rw f at (bad_stays most (j + 1) (n - (j + 1)) h))

    pub before_bad : degree_at p o w j ≡ None → capped most (edges_before p o w n) ≡ None
    unfolding plus capped
    before_bad q = over (ap (capped most) (next None q))

    module _ (d : ℕ) (q : degree_at p o w j ≡ Some d) where
      pub before_over : most < sum + d → capped most (edges_before p o w n) ≡ None
      unfolding plus capped
      before_over h = over (ap (capped most) (next (Some d) q) ∙ simp (lt-leb (sum + d) most h))

      pub before_on : edges_before p o w (j + 1) ≡ Some (sum + d)
      unfolding plus
      before_on = next (Some d) q

  pub before_all : (most n sum : ℕ) → edges_before p o w n ≡ Some sum → sum ≤ most → capped most (edges_before p o w n) ≡ Some sum
  before_all most n sum e h = capped_is most (edges_before p o w n) sum e h

pub degree_is : (p o : List ℕ) (w j : ℕ) {a e : ℕ} {d : Option ℕ} → a ≡ offset_at o w j → e ≡ offset_at o w (j + 1) → degree_in p a e ≡ d → degree_at p o w j ≡ d
unfolding degree_at
degree_is p o w j q r h = (λ i. degree_in p (sym q i) (sym r i)) ∙ h

-- ---- the start index

-- entries that differ by the degree
pub start_is : (s : List ℕ) (i d : ℕ) → start_at s i + d ≡ start_at s (i + 1) → start_of s i d ≡ Some (start_at s i)
unfolding start_of
start_is s i d e = rw (eq-eqb (start_at s i + d) (start_at s (i + 1)) e)

module _ (most : ℕ) (s : List ℕ) (i d : ℕ) where
  pub start_over : most < start_at s i → capped most (start_of s i d) ≡ None
  unfolding capped start_of
  start_over h = go (eqb (start_at s i + d) (start_at s (i + 1)))
    where
      go : (b : Bool) → capped most (pick b (Some (start_at s i)) None) ≡ None
      go true = simp (lt-leb (start_at s i) most h)
      go false = refl

  pub start_unlike : (start_at s i + d ≡ start_at s (i + 1) → ⊥) → capped most (start_of s i d) ≡ None
  unfolding capped start_of
  start_unlike h = simp (ne_eqb (start_at s i + d) (start_at s (i + 1)) h)

  pub start_told : start_at s i ≤ most → start_at s i + d ≡ start_at s (i + 1) → capped most (start_of s i d) ≡ Some (start_at s i)
  start_told h e = capped_is most (start_of s i d) (start_at s i) (start_is s i d e) h
