-- Demand 2, of the calls: for a lawful batch and given room the writer answers with the file's size and writes it, the read-out
-- of that file gives the batch back, and its lookups answer and leave what was written. These are of what the contracts cite;
-- proofs/Calls says them of the contracts.
use Rattle.std.specs.Prelude.{◌≡◌, ℕ, ◌≤◌, Ok, Result}
use mathlib.Core.List.{List, []}
use Rattle.std.proofs.Math.ListN.{length}
use Rattle.base.specs.Over.{over}
use Rattle.group.specs.Group.{bytes_of}
use Rattle.refusal.specs.declared.Refusal.{Refusal}
use Rattle.lookup.specs.declared.Looked.{Looked}
use Rattle.batch.specs.declared.Edge.{Edge}
use Rattle.batch.specs.Batch.{partners_in, logs_in}
use Rattle.batch_groups.specs.Groups.{groups_of}
use Rattle.agreement.specs.SameEdges.{of_key, mark_bytes_in}
use Rattle.demand2.specs.Answers.{index_in, comparisons_in}

-- ---- lookups

-- what a call for partners alone gives for a key among the edges es: a key that has some is found, with as many partners as it
-- has edges and at its index, and they lie over the start of the output; any other is absent, and the output stays
pub record PartnersGiven (key : ℕ) (es : List Edge) (r : Result Looked Refusal) (o out : List ℕ) : Type 0 where
  pub written : 1 ≤ length (of_key key es)
      → (r ≡ Ok (Looked.Found (length (of_key key es)) (index_in key (groups_of es)) (comparisons_in key (groups_of es)))) × (out ≡ over (bytes_of (partners_in (of_key key es))) o)
  pub unwritten : of_key key es ≡ [] → (r ≡ Ok (Looked.Absent (comparisons_in key (groups_of es)))) × (out ≡ o)

-- with log numbers and dead marks
pub record EdgesGiven (key : ℕ) (es : List Edge) (r : Result Looked Refusal) (o out l logs m marks : List ℕ) : Type 0 where
  pub written : 1 ≤ length (of_key key es)
      → (r ≡ Ok (Looked.Found (length (of_key key es)) (index_in key (groups_of es)) (comparisons_in key (groups_of es)))) × (out ≡ over (bytes_of (partners_in (of_key key es))) o)
      × (logs ≡ over (logs_in (of_key key es)) l) × (marks ≡ over (mark_bytes_in (of_key key es)) m)
  pub unwritten : of_key key es ≡ [] → (r ≡ Ok (Looked.Absent (comparisons_in key (groups_of es)))) × (out ≡ o) × (logs ≡ l) × (marks ≡ m)
