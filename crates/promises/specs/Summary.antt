-- What the query planner may rely on, in one statement. It speaks of edges and of no file's layout: files with equal read-outs cannot be told
-- apart by it.
use Rattle.std.specs.Prelude.{◌≡◌, ◌↔◌, List, ℕ, ◌<◌, length, get_or, Ok, Err}
use Rattle.base.specs.Bytes.{Bytes}
use Rattle.refusal.specs.declared.Refusal.{Refusal}
use Rattle.frame.specs.Frame.{record_of}
use Rattle.frame.specs.Open.{bytes_at, key_at}
use Rattle.batch.specs.Batch.{edges_of}
use Rattle.batch_groups.specs.Groups.{groups_of}
use Rattle.full_check.specs.Full.{full_check}
use Rattle.readout.specs.ReadOut.{batch_in}
use Rattle.agreement.specs.SameEdges.{of_key, edges_of_file}
use Rattle.demand2.specs.Demand2.{file_for, Lawful}
use Rattle.summary.specs.declared.figures.Summary.{Summary}
use Rattle.summary.specs.Summary.{degrees_of, summary_of, summarised_of}
use Rattle.summary.specs.Promise.{Summed}

pub record DegreeSummary : Type 0 where
  -- where the full check passes, the summary of the file's edges
  pub passes : (f : List ℕ) → full_check f ≡ (Ok tt) → summarised_of f ≡ Ok (summary_of (edges_of_file f))
  -- a refusal exactly where the full check refuses, and the same one
  pub refuses : (f : List ℕ) (r : Refusal) → (summarised_of f ≡ Err r) ↔ (full_check f ≡ Err r)
  -- what it says of the edges: counts, sums, each bucket, the largest degree, and the ends or that there are none
  pub sums : (f : List ℕ) (s : Summary) → summarised_of f ≡ Ok s → Summed (edges_of_file f) s
  -- the degree of key i of a file is the number of edges that a lookup of that key gives (`same_edges`), and there are as many as keys
  pub degrees : (f : List ℕ) → full_check f ≡ (Ok tt) → (i : ℕ) → i < (record_of f).keycount
      → get_or (degrees_of (groups_of (edges_of_file f))) i 0 ≡ length (of_key (key_at (bytes_at f (record_of f).keys) i) (edges_of_file f))
  pub keys : (f : List ℕ) → full_check f ≡ (Ok tt) → (record_of f).keycount ≡ length (groups_of (edges_of_file f))
  -- it is that of the batch which the read-out leaves
  pub of_batch : (f : List ℕ) → Bytes f → full_check f ≡ (Ok tt) → summarised_of f ≡ Ok (summary_of (edges_of (batch_in f)))
  -- files with equal read-outs have equal summaries
  pub same : (f g : List ℕ) → Bytes f → Bytes g → full_check f ≡ (Ok tt) → full_check g ≡ (Ok tt) → batch_in f ≡ batch_in g → summarised_of f ≡ summarised_of g
  -- and of the file that is written from a batch it is the batch's
  pub written : (s : List ℕ) → Lawful s → summarised_of (file_for s) ≡ Ok (summary_of (edges_of s))
