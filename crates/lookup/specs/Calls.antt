-- Lookups by their ways out, as the code goes through them: f the file, o the record.
use Rattle.std.specs.Prelude.{◌≡◌, ℕ, ◌+◌, ◌/◌, length, Result}
use mathlib.Core.List.{List}
use Rattle.frame.specs.declared.Opened.{Opened}
use Rattle.frame.specs.Open.{bytes_at, offset_at}
use Rattle.lookup.specs.declared.Looked.{Looked}
use Rattle.lookup.specs.Lookup.{Outcome, Rooms, looked_of, partners_left, logs_left, marks_left}
use Rattle.lookup.specs.Groups.{group_seen}
use Rattle.refusal.specs.declared.Refusal.{Refusal}

-- partners alone lend n bytes
abbrev pub alone : ℕ → Rooms
alone n = record { bytes = n; logs = 0; marks = 0 }

-- a whole lookup lends n bytes, l log numbers and m marks
abbrev pub lent : ℕ → ℕ → ℕ → Rooms
lent n l m = record { bytes = n; logs = l; marks = m }

-- what a call of partners alone answers and leaves
pub record Alone (x : Outcome) (r : Result Looked Refusal) (o out : List ℕ) : Type 0 where
  pub answer : r ≡ looked_of x
  pub partners : out ≡ partners_left x o

-- ---- the group of key i

module _ (f : List ℕ) (o : Opened) (i : ℕ) where
  abbrev pub begins : ℕ
  begins = offset_at (bytes_at f o.offsets) (o.bits / 8) i

  abbrev pub ends : ℕ
  ends = offset_at (bytes_at f o.offsets) (o.bits / 8) (i + 1)

  abbrev pub group : Result ℕ Refusal
  group = group_seen (bytes_at f o.partners) begins ends i

-- what a call with log numbers and dead marks answers and leaves
pub record Whole (x : Outcome) (r : Result Looked Refusal) (o out l logs m marks : List ℕ) : Type 0 where
  pub answer : r ≡ looked_of x
  pub partners : out ≡ partners_left x o
  pub numbers : logs ≡ logs_left x l
  pub dead : marks ≡ marks_left x m

-- the same of a lookup whose rooms are the outputs' own lengths
abbrev pub WholeBy : (Rooms → Outcome) → Result Looked Refusal → List ℕ → List ℕ → List ℕ → List ℕ → List ℕ → List ℕ → Type 0
WholeBy look r o out l logs m marks = Whole (look (lent (length o) (length l) (length m))) r o out l logs m marks
