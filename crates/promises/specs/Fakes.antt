-- The four fakes, each with the promise that stops it: no reader or writer that does so keeps its promise. Ours keep each of them.
use Rattle.std.specs.Prelude.{◌≡◌, ℕ, ◌≤◌, List, true, length, Result, Ok}
use Rattle.base.specs.Over.{over}
use Rattle.lookup.specs.Lookup.{Outcome, Rooms}
use Rattle.batch.specs.Batch.{edges_of}
use Rattle.agreement.specs.SameEdges.{of_key, Says, Enough}
use Rattle.demand2.specs.Demand2.{file_for, Lawful}
use Rattle.refusal.specs.Check.{Check}
use Rattle.refusal.specs.declared.Refusal.{Refusal}

-- ---- 1: "refuse every file (demand 2 stops it, written files pass)"

abbrev pub Passes : (List ℕ → Check) → Type 0
Passes check = (s : List ℕ) → Lawful s → check (file_for s) ≡ (Ok tt)

-- ---- 2: "answer absent always (demand 2, written keys are found)"

abbrev pub Reader : Type 0
Reader = Rooms → ℕ → List ℕ → Outcome

abbrev pub Looks : Reader → Type 0
Looks look = (s : List ℕ) → Lawful s → (key : ℕ) (rooms : Rooms) → Enough rooms (length (of_key key (edges_of s))) → Says true (look rooms key (file_for s)) (of_key key (edges_of s))

-- ---- 4: "write nothing and say done (demands 1 and 2, outputs are named)"

-- a writer: what it answers, and what it leaves in the output
pub record Writer : Type 0 where
  pub says : List ℕ → List ℕ → Result ℕ Refusal
  pub leaves : List ℕ → List ℕ → List ℕ

abbrev pub Writes : Writer → Type 0
Writes w = (s : List ℕ) → Lawful s → (o : List ℕ) → length (file_for s) ≤ length o → (w.says s o ≡ Ok (length (file_for s))) × (w.leaves s o ≡ over (file_for s) o)
