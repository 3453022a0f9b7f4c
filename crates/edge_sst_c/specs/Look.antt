-- What the C lookups tell of the library's answers, and which record C lends.
use Rattle.std.specs.Prelude.{◌≡◌, ℕ, ◌+◌, List, length, get_or, ltb, Result, Ok, Err}
use Rattle.base.specs.Pick.{pick}
use Rattle.refusal.specs.declared.Refusal.{Refusal}
use Rattle.refusal.specs.Refusal.{number_of, place_of, beside_of}
use Rattle.frame.specs.declared.Opened.{Opened}
use Rattle.frame.specs.declared.Range.{Range}
use Rattle.lookup.specs.declared.Looked.{Looked}
use Rattle.lookup.specs.Lookup.{Outcome, Rooms, looked_of, partners_left, logs_left, marks_left}
use Rattle.lookup.specs.Calls.{lent}
use Rattle.edge_sst_c.specs.declared.look.EdgeSstLooked.{EdgeSstLooked}

abbrev pub refused_told : ℕ → ℕ → ℕ → EdgeSstLooked
refused_told n p s = record { number = n; place = p; beside = s; found = 0; degree = 0; index = 0; compared = 0 }

unfoldable pub looked_told : Result Looked Refusal → EdgeSstLooked
looked_told (Ok (Looked.Found d i c)) = record { number = 0; place = 0; beside = 0; found = 1; degree = d; index = i; compared = c }
looked_told (Ok (Looked.Absent c)) = record { number = 0; place = 0; beside = 0; found = 0; degree = 0; index = 0; compared = c }
looked_told (Err r) = refused_told (number_of r) (place_of r) (beside_of r)

-- offset bits above 255 are none
unfoldable pub byte_or : ℕ → ℕ
byte_or x = pick (ltb x 256) x 0

-- the places of an EdgeSstOpened that is seen as its numbers in order: of each section's start, with its length after it, and of the rest
abbrev keys_place : ℕ
keys_place = 3

abbrev offsets_place : ℕ
offsets_place = 5

abbrev partners_place : ℕ
partners_place = 7

abbrev logs_place : ℕ
logs_place = 9

abbrev dead_place : ℕ
dead_place = 11

abbrev marked_place : ℕ
marked_place = 13

abbrev keycount_place : ℕ
keycount_place = 14

abbrev edgecount_place : ℕ
edgecount_place = 15

abbrev bits_place : ℕ
bits_place = 16

abbrev starts_place : ℕ
starts_place = 17

abbrev indexed_place : ℕ
indexed_place = 19

abbrev range_at : List ℕ → ℕ → Range
range_at c i = record { start = get_or c i 0; len = get_or c (i + 1) 0 }

-- the record that C lends, with b for its offset bits
abbrev pub record_with_bits : List ℕ → ℕ → Opened
record_with_bits c b = record {
  keys = range_at c keys_place;
  offsets = range_at c offsets_place;
  partners = range_at c partners_place;
  logs = range_at c logs_place;
  marked = ltb 0 (get_or c marked_place 0);
  dead = range_at c dead_place;
  indexed = ltb 0 (get_or c indexed_place 0);
  starts = range_at c starts_place;
  keycount = get_or c keycount_place 0;
  edgecount = get_or c edgecount_place 0;
  bits = b;
}

abbrev pub record_lent : List ℕ → Opened
record_lent c = record_with_bits c (byte_or (get_or c bits_place 0))

-- what a call of partners alone tells and leaves
pub record PartnersTold (x : Outcome) (r : EdgeSstLooked) (o out : List ℕ) : Type 0 where
  pub answer : r ≡ looked_told (looked_of x)
  pub partners : out ≡ partners_left x o

-- what a call with log numbers and dead marks tells and leaves
pub record EdgesTold (x : Outcome) (r : EdgeSstLooked) (o out l logs m marks : List ℕ) : Type 0 where
  pub answer : r ≡ looked_told (looked_of x)
  pub partners : out ≡ partners_left x o
  pub numbers : logs ≡ logs_left x l
  pub dead : marks ≡ marks_left x m

-- the same of a lookup whose rooms are the outputs' own lengths
abbrev pub EdgesToldBy : (Rooms → Outcome) → EdgeSstLooked → List ℕ → List ℕ → List ℕ → List ℕ → List ℕ → List ℕ → Type 0
EdgesToldBy look r o out l logs m marks = EdgesTold (look (lent (length o) (length l) (length m))) r o out l logs m marks
