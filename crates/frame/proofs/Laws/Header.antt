-- Another major version and an unassigned flag bit: when opening gives 3 and 5, exactly.
use Rattle.std.specs.Prelude.{◌≡◌, ◌↔◌, true, length, get_or, Ok, Err}
use Rattle.std.proofs.Math.Path.{refl}
use Rattle.std.proofs.Common.{sym, ap, ◌∙◌, div-one, pow-suc, mul_comm, zero-lt-suc, arith}
use Prim.Native.Nat.{ℕ, zero, suc, ◌+◌, ◌*◌, ◌/◌, ◌%◌, ◌^◌, ◌≤◌, ◌<◌}
use Rattle.std.proofs.Math.Nat.{div-div-eq-div-mul, div-eq_of_lt, pow-le-pow_right}
use Rattle.std.proofs.Math.Decide.{ℕ_discrete, dec_lt}
use mathlib.Core.List.{List, [], ◌∷◌, ◌++◌}
use Rattle.std.proofs.Math.Bool.{not}
use borrow.Author.Tests.{ltb-true, ltb-false, lt-ltb, eqb-true, eqb-false, eq-eqb, ne_eqb, not-true, not-false}
use Rattle.base.specs.Bytes.{Bytes}
use Rattle.codes.specs.Little.{le_at}
use Rattle.codes.specs.Little.Laws.{le_at_lt}
use Rattle.refusal.specs.declared.Refusal.{Refusal}
use Rattle.refusal.specs.Refusal.{number_of}
use Rattle.refusal.specs.Check.{◌⊳◌, refuse, Check}
use Rattle.refusal.proofs.Laws.Check.{fine_parts, by_first, by_second, refuse_bad, refuse_fine, refuse_own, listed, none_listed, Numbers, numbers_refuse, numbers_then, numbers_more, not_given}
use Rattle.frame.specs.Kind as kind
use Rattle.frame.specs.Frame.{flag, flags_of, size_check, head_check, reserved_check}
use Rattle.frame.specs.Open.{file_check}
use Rattle.frame.proofs.Laws.Open.{size_parts, size_made}
use Rattle.frame.specs.Given.{head_numbers, foot_numbers, rest_numbers}
use Rattle.frame.proofs.Laws.Given.{other_magic, other_major, other_size, more_flags, size_numbers, foot_numbers_lem, reserved_numbers, rest_numbers_lem, rows, foot, remaining, starts_rule, chain}
use Rattle.frame.specs.Header.{Begins, OtherMajor, UnassignedFlag}

abbrev after_numbers : List ℕ
after_numbers = foot_numbers ++ (36 ∷ rest_numbers)

module _ (f : List ℕ) where
  after_numbers_lem : Numbers after_numbers (foot f ⊳ reserved_check (rows f) ⊳ remaining f ⊳ starts_rule f)
  after_numbers_lem =
      numbers_then after_numbers _ _ (numbers_more foot_numbers after_numbers refl (foot_numbers_lem f))
      (numbers_then after_numbers _ _ (numbers_more (36 ∷ []) after_numbers refl (reserved_numbers f)) (numbers_more rest_numbers after_numbers refl (rest_numbers_lem f)))

  -- the header's refusal is opening's exactly if the size is right
  head_first : (r : Refusal) → listed (number_of r) head_numbers ≡ true → (file_check f ≡ Err r) ↔ ((size_check (length f) ≡ (Ok tt)) × (head_check f ≡ Err r))
  head_first r h =
      let a = by_second (size_check (length f)) _ r (not_given (1 ∷ []) (size_numbers (length f)) r (none_listed head_numbers (1 ∷ []) (number_of r) refl h)) in
      let b = by_first (head_check f) _ r (not_given after_numbers after_numbers_lem r (none_listed head_numbers after_numbers (number_of r) refl h)) in
      (λ e. let x = a.0 (sym (chain f) ∙ e) in (x.0, b.0 x.1), λ x. chain f ∙ a.1 (x.0, b.1 x.1))

-- a number above 15 has such a bit
set_bit : (k y : ℕ) → 1 ≤ y → y < 2 ^ k → (j : ℕ) × (j < k) × (y / 2 ^ j % 2 ≡ 1)
set_bit zero y a b = absurd (omega arith)
set_bit (suc k) y a b =
    elim (ℕ_discrete (y % 2) 1) [
      | yes h ↦ (0, omega arith, ap (λ (t : ℕ). t % 2) (div-one y) ∙ h)
      | no h ↦
          let (j, l, e) = set_bit k (y / 2) (omega arith) (omega (arith, pow-suc 2 k)) in
          (suc j, omega arith, ap (λ (t : ℕ). y / t % 2) (pow-suc 2 j ∙ mul_comm (2 ^ j) 2) ∙ ap (λ (t : ℕ). t % 2) (sym (div-div-eq-div-mul y 2 (2 ^ j))) ∙ e)
    ]

flag_bits : (x : ℕ) → x < 2 ^ 32 → 15 < x → (i : ℕ) × (4 ≤ i) × (i < 32) × (flag i x ≡ true)
flag_bits x h l =
    let (j, m, e) = set_bit 28 (x / 16) (omega arith) (omega arith) in
    let bit : x / 2 ^ (4 + j) ≡ x / 16 / 2 ^ j = ap (λ (t : ℕ). x / t) (pow j) ∙ sym (div-div-eq-div-mul x 16 (2 ^ j)) in
    (4 + j, omega arith, omega arith, eq-eqb (x / 2 ^ (4 + j) % 2) 1 (ap (λ (t : ℕ). t % 2) bit ∙ e))
  where
    pow : (j : ℕ) → 2 ^ (4 + j) ≡ 16 * 2 ^ j
    pow zero = refl
    pow (suc j) = let n : 4 + suc j ≡ suc (4 + j) = omega arith in ap (λ (t : ℕ). 2 ^ t) n ∙ pow-suc 2 (4 + j) ∙ omega (arith, pow j, pow-suc 2 j)

bits_flag : (x i : ℕ) → 4 ≤ i → flag i x ≡ true → 15 < x
bits_flag x i l e =
    elim (dec_lt 15 x) [
      | yes h ↦ h
      | no h ↦
          let big : 2 ^ 4 ≤ 2 ^ i = pow-le-pow_right (zero-lt-suc 1) l in
          let none : x / 2 ^ i ≡ 0 = div-eq_of_lt (omega arith) in
          let one = eqb-true (x / 2 ^ i % 2) 1 e in absurd (omega (arith, ap (λ (t : ℕ). t % 2) none))
    ]

module _ (f : List ℕ) where
  abbrev magic_rule : Check
  magic_rule = refuse Refusal.Magic (other_magic f)

  abbrev major_rule : Check
  major_rule = refuse Refusal.Major (other_major f)

  abbrev size_rule : Check
  size_rule = refuse Refusal.HeaderSize (other_size f)

  abbrev flags_rule : Check
  flags_rule = refuse Refusal.Flags (more_flags f)

  -- where 5 passes, bits 0 to 3 alone are set
  pub flags_few : head_check f ≡ (Ok tt) → flags_of f ≤ 15
  unfolding head_check
  flags_few e =
      let a = fine_parts magic_rule (major_rule ⊳ (size_rule ⊳ flags_rule)) e in
      let b = fine_parts major_rule (size_rule ⊳ flags_rule) a.1 in
      ltb-false 15 (flags_of f) ((refuse_fine Refusal.Flags (more_flags f)).0 (fine_parts size_rule flags_rule b.1).1)

  begins : size_check (length f) ≡ (Ok tt) → magic_rule ≡ (Ok tt) → Begins f
  begins s m =
      let z = size_parts (length f) s in
      record { low = z.0; high = z.1; magic = eqb-true _ _ (not-false _ ((refuse_fine Refusal.Magic (other_magic f)).0 m)) }

  begun : Begins f → (size_check (length f) ≡ (Ok tt)) × (magic_rule ≡ (Ok tt))
  begun b = (size_made (length f) b.low b.high, (refuse_fine Refusal.Magic (other_magic f)).1 (ap not (eq-eqb (le_at f 0 8) kind.magic b.magic)))

  -- 3, exactly
  pub major_exactly : (file_check f ≡ Err Refusal.Major) ↔ OtherMajor f
  unfolding head_check
  major_exactly =
      let first = head_first f Refusal.Major refl in
      let a = by_second magic_rule (major_rule ⊳ (size_rule ⊳ flags_rule)) Refusal.Major (refuse_own Refusal.Magic Refusal.Major (other_magic f) (λ e. omega arith)) in
      let rest : List ℕ = 4 ∷ 5 ∷ [] in
      let later = numbers_then rest size_rule flags_rule (numbers_refuse rest Refusal.HeaderSize (other_size f) refl) (numbers_refuse rest Refusal.Flags (more_flags f) refl) in
      let b = by_first major_rule (size_rule ⊳ flags_rule) Refusal.Major (not_given rest later Refusal.Major refl) in (
        λ e.
            let x = first.0 e in
            let y = a.0 x.1 in
            record { begins = begins x.0 y.0; major = eqb-false _ _ (not-true _ ((refuse_bad Refusal.Major (other_major f)).0 (b.0 y.1))) },
        λ m.
            let x = begun m.begins in
            first.1 (x.0, a.1 (x.1, b.1 ((refuse_bad Refusal.Major (other_major f)).1 (ap not (ne_eqb (get_or f 8 0) 1 m.major))))),
      )

  -- 5, exactly, of a file of bytes
  pub flags_exactly : Bytes f → (file_check f ≡ Err Refusal.Flags) ↔ UnassignedFlag f
  unfolding head_check
  flags_exactly by =
      let first = head_first f Refusal.Flags refl in
      let a = by_second magic_rule (major_rule ⊳ (size_rule ⊳ flags_rule)) Refusal.Flags (refuse_own Refusal.Magic Refusal.Flags (other_magic f) (λ e. omega arith)) in
      let b = by_second major_rule (size_rule ⊳ flags_rule) Refusal.Flags (refuse_own Refusal.Major Refusal.Flags (other_major f) (λ e. omega arith)) in
      let c = by_second size_rule flags_rule Refusal.Flags (refuse_own Refusal.HeaderSize Refusal.Flags (other_size f) (λ e. omega arith)) in (
        λ e.
            let x = first.0 e in
            let y = a.0 x.1 in
            let z = b.0 y.1 in
            let v = c.0 z.1 in
            let (i, l, m, s) = flag_bits (flags_of f) (le_at_lt f by 12 4) (ltb-true 15 (flags_of f) ((refuse_bad Refusal.Flags (more_flags f)).0 v.1)) in
            record {
              begins = begins x.0 y.0;
              major = eqb-true _ _ (not-false _ ((refuse_fine Refusal.Major (other_major f)).0 z.0));
              header = eqb-true _ _ (not-false _ ((refuse_fine Refusal.HeaderSize (other_size f)).0 v.0));
              bit = i;
              least = l;
              most = m;
              set = s;
            },
        λ u.
            let x = begun u.begins in
            let major = (refuse_fine Refusal.Major (other_major f)).1 (ap not (eq-eqb (get_or f 8 0) 1 u.major)) in
            let size = (refuse_fine Refusal.HeaderSize (other_size f)).1 (ap not (eq-eqb (le_at f 10 2) kind.header_size u.header)) in
            let flags = (refuse_bad Refusal.Flags (more_flags f)).1 (lt-ltb 15 (flags_of f) (bits_flag (flags_of f) u.bit u.least u.set)) in
            first.1 (x.0, a.1 (x.1, b.1 (major, c.1 (size, flags)))),
      )
