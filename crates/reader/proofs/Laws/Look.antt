-- The lookups: from a record, from a file, and that for the record that opening gave the two are one.
use Rattle.std.specs.Prelude.{◌≡◌, ℕ, List, Bool, true, false, not, Ok, Err}
use Rattle.std.proofs.Common.{sym, ap, ◌∙◌}
use Rattle.codes.specs.declared.ids.Id.{Id}
use Rattle.codes.specs.Ids.{id_at, id_number, halves_at}
use Rattle.codes.specs.Ids.Laws.{number_halves}
use Rattle.refusal.specs.declared.Refusal.{Refusal}
use Rattle.refusal.specs.Check.{refuse}
use Rattle.frame.specs.declared.Opened.{Opened}
use Rattle.frame.specs.Open.{Known, known_of, record_good, open_of}
use Rattle.lookup.specs.Lookup.{refused, outcome, Rooms, look_in, look_with, on_opening, look_of}
use Rattle.lookup.specs.Record.{Holds}
use Rattle.lookup.proofs.Laws.Record.{holds}
use Rattle.reader.proofs.Laws.Opened.{opened_good}

module _ (full : Bool) (rooms : Rooms) (key : ℕ) (f : List ℕ) where
  pub with_bad : (o : Opened) → record_good f o ≡ false → look_with full rooms key f o ≡ refused Refusal.Record
  unfolding look_with outcome
  with_bad o e = rw e

  pub with_good : (o : Opened) → record_good f o ≡ true → look_with full rooms key f o ≡ look_in full rooms (known_of f o) key
  unfolding look_with outcome
  with_good o e = rw e

  pub of_refused : (r : Refusal) → open_of f ≡ Err r → look_of full rooms key f ≡ refused r
  unfolding look_of on_opening
  of_refused r e = rw e

  pub of_good : (o : Opened) → open_of f ≡ Ok o → look_of full rooms key f ≡ look_in full rooms (known_of f o) key
  unfolding look_of on_opening
  of_good o e = rw e

  -- for the record that opening gave for these bytes a lookup equals the one-call lookup
  pub with_record : (o : Opened) → open_of f ≡ Ok o → look_with full rooms key f o ≡ look_of full rooms key f
  with_record o e = with_good o (opened_good f o e) ∙ sym (of_good o e)

  -- a lookup sees of a file only what is known of it: files that know the same answer the same
  pub look_known : (g : List ℕ) (o p : Opened) → open_of f ≡ Ok o → open_of g ≡ Ok p → known_of f o ≡ known_of g p
      → look_of full rooms key f ≡ look_of full rooms key g
  unfolding look_of on_opening
  look_known g o p a b e = rw (a, b) (ap (λ (k : Known). look_in full rooms k key) e)

  pub with_known : (g : List ℕ) (o p : Opened) → record_good f o ≡ record_good g p → known_of f o ≡ known_of g p
      → look_with full rooms key f o ≡ look_with full rooms key g p
  unfolding look_with
  with_known g o p a e = λ i. outcome (refuse Refusal.Record (not (a i))) (look_in full rooms (e i) key)

-- the record that opening gave holds
pub opened_holds : (f : List ℕ) (o : Opened) → open_of f ≡ Ok o → Holds f o
opened_holds f o e = holds f o (opened_good f o e)

-- the key asked for, as its number
pub key_number : (key : List ℕ) (d : Id) → d ≡ halves_at key 0 → id_number d ≡ id_at key 0
key_number key d e = ap id_number e ∙ number_halves key 0
