-- One law for each way out of the writer.
use Rattle.std.specs.Prelude.{◌≡◌, ℕ, ◌≤◌, ◌<◌, List, true, false, length, Result, Ok, Err}
use Rattle.std.proofs.Math.Path.{sym, ap}
use Rattle.std.proofs.Common.{◌∙◌, le-leb}
use Rattle.std.proofs.lemmas.Bool.{lt-leb}
use Rattle.base.specs.Over.{over}
use Rattle.refusal.specs.declared.Refusal.{Refusal}
use Rattle.batch.specs.Batch.{heading_of, edges_of, batch_check}
use Rattle.write_plan.specs.Bounds.{too_many}
use Rattle.write_file.specs.Written.{file_in, written_answer, needed_check, needed_of, fitted, written_of, write_leaves, Wrote}

-- ---- the size

module _ (s : List ℕ) where
  pub needed_bad : (r : Refusal) → batch_check s ≡ Err r → Err r ≡ needed_of s
  unfolding needed_of needed_check written_answer
  needed_bad r e = rw e

  module _ (f : batch_check s ≡ (Ok tt)) where
    pub needed_many : too_many (heading_of s) (edges_of s) ≡ true → Err Refusal.Bounds ≡ needed_of s
    unfolding needed_of needed_check written_answer
    needed_many t = rw (f, t)

    pub needed_done : too_many (heading_of s) (edges_of s) ≡ false → (size : ℕ) → size ≡ length (file_in s) → Ok size ≡ needed_of s
    unfolding needed_of needed_check written_answer
    needed_done t size l = rw (f, t) (ap Ok l)

-- ---- the file

-- a refusal writes nothing
refused : (s o : List ℕ) (r : Refusal) → Err r ≡ written_of s (length o) → Wrote s o (Err r) o
unfolding write_leaves
refused s o r e = record { answer = e; output = ap (λ (w : Result ℕ Refusal). write_leaves w (file_in s) o) e }

module _ (s o : List ℕ) where
  pub wrote_refused : (r : Refusal) → Err r ≡ needed_of s → Wrote s o (Err r) o
  unfolding written_of
  wrote_refused r e = refused s o r (ap (λ (w : Result ℕ Refusal). fitted w (length o)) e)

  module _ (size : ℕ) (e : Ok size ≡ needed_of s) where
    pub wrote_short : length o < size → Wrote s o (Err (Refusal.Room size)) o
    unfolding written_of
    wrote_short l =
        let short : fitted (Ok size) (length o) ≡ Err (Refusal.Room size) = simp (lt-leb size (length o) l) in
        refused s o (Refusal.Room size) (sym short ∙ ap (λ (w : Result ℕ Refusal). fitted w (length o)) e)

    pub wrote_all : size ≤ length o → (o' : List ℕ) → o' ≡ over (file_in s) o → Wrote s o (Ok size) o'
    unfolding written_of write_leaves
    wrote_all l o' f =
        let fits : fitted (Ok size) (length o) ≡ Ok size = simp (le-leb size (length o) l) in
        let answer : Ok size ≡ fitted (needed_of s) (length o) = sym fits ∙ ap (λ (w : Result ℕ Refusal). fitted w (length o)) e in
        record { answer = answer; output = f ∙ ap (λ (w : Result ℕ Refusal). write_leaves w (file_in s) o) answer }

-- a refusal leaves the output as it was
pub write_refused_leaves : (s o : List ℕ) (q : Refusal) → written_of s (length o) ≡ Err q → write_leaves (written_of s (length o)) (file_in s) o ≡ o
unfolding write_leaves
write_refused_leaves s o q e = ap (λ (w : Result ℕ Refusal). write_leaves w (file_in s) o) e
