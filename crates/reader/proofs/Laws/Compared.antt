-- The count of keys that a lookup says it compared: at most 25, and 0 for no keys.
use Rattle.std.specs.Prelude.{◌≡◌, ℕ, ◌≤◌, List, Bool, Ok, Err}
use Rattle.std.proofs.Math.Path.{refl}
use native.Mathlib.Omega.{arith}
use Rattle.std.proofs.Math.Bool.{true, false}
use Rattle.frame.specs.declared.Opened.{Opened}
use Rattle.frame.specs.Kind as kind
use Rattle.frame.specs.Open.{Known, known_of, record_good, open_of}
use Rattle.index.specs.declared.keys.Found.{Found}
use Rattle.index.specs.Find.{find_in, compared_of}
use Rattle.index.specs.Find.Laws.{find_bound}
use Rattle.lookup.specs.Lookup.{Outcome, outcome, Rooms, look_group, on_found, look_in, look_with, look_of}
use Rattle.lookup.proofs.Laws.Record.{holds}
use Rattle.reader.proofs.Laws.Look.{with_bad, with_good, of_refused, of_good, opened_holds}
use Rattle.reader.specs.Compared.{compared_in}
use Rattle.refusal.specs.Check.{Check}
use Rattle.frame.specs.Opening.{Opening}

outcome_compared : (c : Check) (x : Outcome) → compared_in (outcome c x) ≤ compared_in x
unfolding outcome compared_in
outcome_compared (Ok _) x = omega arith
outcome_compared (Err r) x = omega arith

module _ (full : Bool) (rooms : Rooms) where
  on_found_lem : (k : Known) (x : Found) → compared_in (on_found full rooms k x) ≤ compared_of x
  unfolding on_found look_group compared_of compared_in
  on_found_lem k (Found.At i c) = outcome_compared _ _
  on_found_lem k (Found.Absent c) = omega arith

  pub in_compared : (k : Known) (key : ℕ) → k.keycount ≤ kind.most_keys → compared_in (look_in full rooms k key) ≤ 25
  unfolding look_in
  in_compared k key h = omega (arith, on_found_lem k (find_in k.keys k.keycount key), find_bound k.keys k.keycount key h)

  module _ (key : ℕ) (f : List ℕ) where
    -- by a record, whoever filled it
    pub with_compared : (o : Opened) → compared_in (look_with full rooms key f o) ≤ 25
    unfolding compared_in known_of
    with_compared o = by_good (record_good f o) refl
      where
        by_good : (b : Bool) → record_good f o ≡ b → compared_in (look_with full rooms key f o) ≤ 25
        by_good true e = rw (with_good full rooms key f o e) (in_compared (known_of f o) key (holds f o e).few)
        by_good false e = rw (with_bad full rooms key f o e) (omega arith)

    -- of a file
    pub of_compared : compared_in (look_of full rooms key f) ≤ 25
    unfolding compared_in known_of
    of_compared = by_opening (open_of f) refl
      where
        by_opening : (x : Opening) → open_of f ≡ x → compared_in (look_of full rooms key f) ≤ 25
        by_opening (Ok o) e = rw (of_good full rooms key f o e) (in_compared (known_of f o) key (opened_holds f o e).few)
        by_opening (Err r) e = rw (of_refused full rooms key f r e) (omega arith)
