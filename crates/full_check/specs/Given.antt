-- Which refusals the full check gives after opening, and when it tells a fault of a group, exactly.
use Rattle.std.proofs.Math.Path.{◌≡◌, refl}
use Rattle.std.proofs.Common.{ap, ◌∙◌, arith}
use Rattle.std.specs.Prelude.{◌↔◌, List, [], ◌∷◌, Bool, true, not, Ok, Err}
use Prim.Native.Nat.{ℕ, zero, suc, ◌+◌, ◌/◌, ◌≤◌, ◌<◌}
use Rattle.std.proofs.Math.Decide.{ℕ_discrete}
use Rattle.refusal.specs.declared.Refusal.{Refusal}
use Rattle.refusal.specs.Refusal.{number_of}
use Rattle.refusal.specs.Check.{◌⊳◌, refuse, Check}
use Rattle.refusal.proofs.Laws.Check.{bad_then, fine_then, by_first, by_second, listed, none_listed, Numbers, numbers_fine, numbers_bad, numbers_refuse, numbers_then, numbers_pick, numbers_more, not_given}
use Rattle.frame.specs.declared.Row.{Row}
use Rattle.frame.specs.Frame.{rows_of, flags_of, body_of, record_of}
use Rattle.frame.specs.Given.{opening_numbers}
use Rattle.frame.proofs.Laws.Given.{opening_numbers_lem}
use Rattle.frame.specs.Open.{Known, known_of, bytes_at, file_check}
use Rattle.degrees.specs.Degrees.{group_at}
use Rattle.group.specs.Group.{Decoded, good, bad, is_good, group_of}
use Rattle.group.specs.declared.fault.Fault.{Fault}
use Rattle.group.specs.Fault.{refusal_of}
use Rattle.group.proofs.Laws.Fault.{fault_numbers, fault_once, fault_apart}
use Rattle.lookup.specs.Lookup.{group_check}
use Rattle.lookup.proofs.Laws.Given.{group_numbers, group_fine, group_fault_lem}
use Rattle.full_check.specs.Full.{sum_good, sums_from, group_in, groups_from, degrees_from, dense_from, data_good, stray_in, edges_check, full_check}

-- ---- the numbers: 22, then a group's, then 23

abbrev full_numbers : List ℕ
full_numbers = 22 ∷ 23 ∷ fault_numbers

sums_numbers : (f : List ℕ) (rs : List Row) (k : ℕ) → Numbers (22 ∷ []) (sums_from f rs k)
unfolding sums_from
sums_numbers f [] k = numbers_fine (22 ∷ [])
sums_numbers f (r ∷ rs) k = numbers_pick (22 ∷ []) (sum_good f r) _ _ (sums_numbers f rs (k + 1)) (numbers_bad (22 ∷ []) (Refusal.Sum k) refl)

module _ (p o : List ℕ) (w : ℕ) where
  groups_numbers : (d i : ℕ) → Numbers fault_numbers (groups_from p o w d i)
  unfolding groups_from
  groups_numbers zero i = numbers_fine fault_numbers
  groups_numbers (suc d) i = numbers_then fault_numbers (group_check i (group_in p o w i)) _ (group_numbers i (group_in p o w i)) (groups_numbers d (i + 1))

  -- of d groups from b on, group i is the first with a fault, and f is its first
  pub record FaultFrom (d b i : ℕ) (f : Fault) : Type 0 where
    pub least : b ≤ i
    pub within : i < b + d
    pub before : (j : ℕ) → b ≤ j → j < i → is_good (group_of (group_at p o w j)) ≡ true
    pub fault : group_of (group_at p o w i) ≡ bad f

  -- a fault of group i, exactly
  groups_fault : (d b i : ℕ) (f : Fault) → (groups_from p o w d b ≡ Err (refusal_of i f)) ↔ FaultFrom d b i f
  unfolding groups_from group_check is_good
  groups_fault zero b i f =
      (λ e. let z : ◌≡◌ {A = ℕ} 0 1 = cc in absurd (omega arith), λ t. let l = t.least in let h = t.within in absurd (omega arith))
  groups_fault (suc d) b i f = (there (group_in p o w b) refl (groups_fault d (b + 1) i f).0, λ t. back t (groups_fault d (b + 1) i f).1)
    where
      rest : Check
      rest = groups_from p o w d (b + 1)

      first : group_in p o w b ≡ bad f → b ≡ i → FaultFrom (suc d) b i f
      first q e = record {
        least = omega arith;
        within = omega arith;
        before = λ j l h. absurd (omega arith);
        fault = rw e at q;
      }

      later : is_good (group_in p o w b) ≡ true → FaultFrom d (b + 1) i f → FaultFrom (suc d) b i f
      later g t =
          let least = t.least in
          let within = t.within in record {
            least = omega arith;
            within = omega arith;
            before = λ j l h.
                elim (ℕ_discrete b j) [
                  | yes e ↦ (rw e at g)
                  | no e ↦ t.before j (omega arith) h
                ];
            fault = t.fault;
          }

      there : (x : Decoded) → group_in p o w b ≡ x → (rest ≡ Err (refusal_of i f) → FaultFrom d (b + 1) i f)
          → group_check b x ⊳ rest ≡ Err (refusal_of i f) → FaultFrom (suc d) b i f
      there (good dense ps) q ih e = later (ap is_good q) (ih e)
      there (bad x) q ih e = let same : refusal_of b x ≡ refusal_of i f = cc in let t = fault_once b i x f same in first (q ∙ ap bad t.0) t.1

      back : FaultFrom (suc d) b i f → (FaultFrom d (b + 1) i f → rest ≡ Err (refusal_of i f)) → group_check b (group_in p o w b) ⊳ rest ≡ Err (refusal_of i f)
      back t ih =
          let least = t.least in
          let within = t.within in
          elim (ℕ_discrete b i) [
            | yes e ↦
                let here : group_in p o w b ≡ bad f = rw e t.fault in
                bad_then rest ((group_fault_lem b (group_in p o w b) i f).1 (here, e))
            | no e ↦
                let fine = (group_fine b (group_in p o w b)).1 (t.before b (omega arith) (omega arith)) in
                let others : FaultFrom d (b + 1) i f = record { least = omega arith; within = omega arith; before = λ j l h. t.before j (omega arith) h; fault = t.fault } in
                fine_then rest fine ∙ ih others
          ]

-- ---- the whole check

module _ (f : List ℕ) where
  abbrev sums : Check
  sums = sums_from f (rows_of (body_of f)) 0

  abbrev k : Known
  k = known_of f (record_of f)

  abbrev edges : Check
  edges = edges_check (flags_of f) k

  abbrev groups : Check
  groups = groups_from k.partners k.offsets (k.bits / 8) k.keycount 0

  abbrev broken : Bool
  broken = not (data_good (flags_of f) k.edgecount k.dead (degrees_from k.partners k.offsets (k.bits / 8) k.keycount 0) (dense_from k.partners k.offsets (k.bits / 8) k.keycount 0) (stray_in k))

  edges_numbers : Numbers full_numbers edges
  unfolding edges_check
  edges_numbers =
      numbers_then full_numbers groups _ (numbers_more fault_numbers full_numbers refl (groups_numbers k.partners k.offsets (k.bits / 8) k.keycount 0)) (numbers_refuse full_numbers Refusal.Data broken refl)

  rest_numbers_lem : Numbers full_numbers (sums ⊳ edges)
  rest_numbers_lem = numbers_then full_numbers sums edges (numbers_more (22 ∷ []) full_numbers refl (sums_numbers f (rows_of (body_of f)) 0)) edges_numbers

  -- a refusal of opening is the full check's
  pub full_opening : (r : Refusal) → listed (number_of r) opening_numbers ≡ true → (full_check f ≡ Err r) ↔ (file_check f ≡ Err r)
  unfolding full_check
  full_opening r h = by_first (file_check f) (sums ⊳ edges) r (not_given full_numbers rest_numbers_lem r (none_listed opening_numbers full_numbers (number_of r) refl h))

  -- opening and 22 pass, and of all groups group i is the first with a fault, of which f is the first
  pub record FaultFirst (i : ℕ) (fault : Fault) : Type 0 where
    pub opens : file_check f ≡ (Ok tt)
    pub summed : sums_from f (rows_of (body_of f)) 0 ≡ (Ok tt)
    pub groups : FaultFrom (bytes_at f (record_of f).partners) (bytes_at f (record_of f).offsets) ((record_of f).bits / 8) (record_of f).keycount 0 i fault

  -- a fault of group i, exactly
  pub full_fault : (i : ℕ) (fault : Fault) → (full_check f ≡ Err (refusal_of i fault)) ↔ FaultFirst i fault
  unfolding full_check edges_check known_of
  full_fault i fault =
      let r : Refusal = refusal_of i fault in
      let a = by_second (file_check f) (sums ⊳ edges) r (fault_apart i fault opening_numbers (opening_numbers_lem f) refl) in
      let b = by_second sums edges r (fault_apart i fault (22 ∷ []) (sums_numbers f (rows_of (body_of f)) 0) refl) in
      let c = by_first groups (refuse Refusal.Data broken) r (fault_apart i fault (23 ∷ []) (numbers_refuse (23 ∷ []) Refusal.Data broken refl) refl) in
      let t = groups_fault (bytes_at f (record_of f).partners) (bytes_at f (record_of f).offsets) ((record_of f).bits / 8) (record_of f).keycount 0 i fault in (
        λ e. let x = a.0 e in let y = b.0 x.1 in record { opens = x.0; summed = y.0; groups = t.0 (c.0 y.1) },
        λ h. a.1 (h.opens, b.1 (h.summed, c.1 (t.1 h.groups))),
      )
