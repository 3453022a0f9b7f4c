-- What the query planner may rely on.
use Rattle.std.specs.Prelude.{◌≡◌, ℕ, ◌+◌, ◌^◌, ◌<◌, ◌≤◌, Bool, true, false, ◌↔◌, List, [], ◌∷◌, length, nat_lt, slice_index, Ok, Err}
use Rattle.std.proofs.Math.Path.{refl, ap, subst}
use Rattle.std.proofs.Common.{sym, ◌∙◌, inl, inr, zero-add, arith}
use Rattle.std.proofs.lemmas.Bool.{false≢true}
use Rattle.base.specs.Bytes.{Bytes}
use Rattle.base.specs.Pick.{pick}
use Rattle.codes.specs.declared.ids.Id.{Id}
use Rattle.codes.specs.Ids.{id_number}
use Rattle.refusal.specs.declared.Refusal.{Refusal}
use Rattle.frame.specs.Frame.{record_of}
use Rattle.frame.specs.Open.{bytes_at, key_at}
use Rattle.batch.specs.declared.Edge.{Edge}
use Rattle.batch.specs.Batch.{edges_of, logs_in}
use Rattle.batch_groups.specs.Groups.{IdFits, groups_of}
use Rattle.full_check.specs.Full.{full_check}
use Rattle.full_check.specs.Checked.{fine_checked}
use Rattle.readout.specs.ReadOut.{batch_in}
use Rattle.readout.specs.ReadOut.Laws.{length_edges_in, checked_few}
use Rattle.agreement.specs.SameEdges.{of_key, mark_bytes_in, edges_of_file}
use Rattle.agreement.specs.OutBytes.{EdgesFit}
use Rattle.agreement.proofs.Laws.OutBytes.{fits, out_edges}
use Rattle.summary.specs.declared.figures.Summary.{Summary}
use Rattle.summary.specs.Summary.{smallest, largest, smallest_key, largest_key, extremes_of, degrees_of, in_bucket, bucket, buckets_of, dead_in, summary_of, summarised, summarised_of}
use Rattle.summary.proofs.Laws.Checked.{keys_are, degrees_by_key}
use Rattle.summary.specs.Summary.Laws.{total}
use Rattle.summary.proofs.Laws.Summary.{smallest_is, largest_is, in_bucket_lem, bucket_bounds, bucket_at, length_buckets, buckets_total, bucket_none, length_degrees, degrees_total, degrees_some}
use Rattle.summary.specs.Promise.{key_numbers, Ends, ExtremesFit, Counts, Summed, EndsThere, told}
use Rattle.refusal.specs.Check.{Check}

smallest_number : (k : Id) (es : List Edge) → id_number (smallest_key k es) ≡ smallest (id_number k) (key_numbers es)
unfolding smallest_key key_numbers smallest
smallest_number k [] = refl
smallest_number k (e ∷ es) = smallest_number (pick (nat_lt (id_number e.key) (id_number k)) e.key k) es ∙ ap (λ (t : ℕ). smallest t (key_numbers es)) (picked (nat_lt (id_number e.key) (id_number k)))
  where
    picked : (b : Bool) → id_number (pick b e.key k) ≡ pick b (id_number e.key) (id_number k)
    picked true = refl
    picked false = refl

largest_number : (k : Id) (es : List Edge) → id_number (largest_key k es) ≡ largest (id_number k) (key_numbers es)
unfolding largest_key key_numbers largest
largest_number k [] = refl
largest_number k (e ∷ es) = largest_number (pick (nat_lt (id_number k) (id_number e.key)) e.key k) es ∙ ap (λ (t : ℕ). largest t (key_numbers es)) (picked (nat_lt (id_number k) (id_number e.key)))
  where
    picked : (b : Bool) → id_number (pick b e.key k) ≡ pick b (id_number e.key) (id_number k)
    picked true = refl
    picked false = refl

pub extremes_are : (es : List Edge) → Ends es (extremes_of es)
unfolding Ends extremes_of key_numbers logs_in
extremes_are [] = refl
extremes_are (e ∷ es) = (
  rw (smallest_number e.key es) (smallest_is (id_number e.key) (key_numbers es)),
  rw (largest_number e.key es) (largest_is (id_number e.key) (key_numbers es)),
  smallest_is e.log (logs_in es),
  largest_is e.log (logs_in es),
)

-- keys of 64-bit halves stay so
smallest_fits : (k : Id) (es : List Edge) → IdFits k → EdgesFit es → IdFits (smallest_key k es)
unfolding smallest_key EdgesFit
smallest_fits k [] h f = h
smallest_fits k (e ∷ es) h f = smallest_fits (pick (nat_lt (id_number e.key) (id_number k)) e.key k) es (go (nat_lt (id_number e.key) (id_number k))) f.1
  where
    go : (b : Bool) → IdFits (pick b e.key k)
    go true = (f.0.key_hi, f.0.key_lo)
    go false = h

largest_fits : (k : Id) (es : List Edge) → IdFits k → EdgesFit es → IdFits (largest_key k es)
unfolding largest_key EdgesFit
largest_fits k [] h f = h
largest_fits k (e ∷ es) h f = largest_fits (pick (nat_lt (id_number k) (id_number e.key)) e.key k) es (go (nat_lt (id_number k) (id_number e.key))) f.1
  where
    go : (b : Bool) → IdFits (pick b e.key k)
    go true = (f.0.key_hi, f.0.key_lo)
    go false = h

extremes_fit : (es : List Edge) → EdgesFit es → ExtremesFit (extremes_of es)
unfolding EdgesFit extremes_of ExtremesFit
extremes_fit [] f = tt
extremes_fit (e ∷ es) f =
    let k : IdFits e.key = (f.0.key_hi, f.0.key_lo) in (smallest_fits e.key es k f.1, largest_fits e.key es k f.1)

-- ---- what a summary says of edges

dead_marks : (es : List Edge) → dead_in es ≡ total (mark_bytes_in es)
unfolding dead_in mark_bytes_in total
dead_marks [] = refl
dead_marks (e ∷ es) = ap (λ (t : ℕ). pick e.dead 1 0 + t) (dead_marks es)

bucket_counts : (i : ℕ) (ds : List ℕ) → Counts i ds (bucket i ds)
unfolding Counts bucket
bucket_counts i [] = refl
bucket_counts i (d ∷ ds) = go (in_bucket i d) refl (bucket_counts i ds)
  where
    go : (b : Bool) → in_bucket i d ≡ b → Counts i ds (bucket i ds) → Counts i (d ∷ ds) (pick b 1 0 + bucket i ds)
    go true e h = let w = bucket_bounds i d e in inl (w.0, w.1, (bucket i ds, omega arith, h))
    go false e h = inr (λ a b. false≢true (sym e ∙ in_bucket_lem i d a b), rw zero-add h)

pub sums : (es : List Edge) → length es ≤ 2 ^ 26 → Summed es (summary_of es)
unfolding summary_of
sums es few =
    let ds : List ℕ = degrees_of (groups_of es) in
    let at : (i : ℕ) → i < 64 → slice_index (buckets_of ds) i ≡ bucket i ds = λ i l. bucket_at 64 0 ds i l ∙ ap (λ (t : ℕ). bucket t ds) (zero-add i) in
    record {
      edges = refl;
      dead = dead_marks es;
      keys = refl;
      degrees_sum = degrees_total es;
      buckets_sum = buckets_total ds (degrees_some (2 ^ 64) es (omega arith)) ∙ length_degrees (groups_of es);
      sixty_four = length_buckets 64 0 ds;
      each = λ i l. rw (at i l) (bucket_counts i ds);
      high = λ i h l. at i l ∙ bucket_none 27 ds (degrees_some (2 ^ 27) es (omega arith)) i h;
      largest_degree = largest_is 0 ds;
      ends = extremes_are es;
    }

ends_there : (es : List Edge) → EndsThere (summary_of es)
unfolding summary_of extremes_of
ends_there [] = record { some = λ h. absurd (omega arith); none = λ e. refl }
ends_there (e ∷ es) = record { some = λ h q. let z : ◌≡◌ {A = ℕ} 0 1 = cc in omega arith; none = λ z. absurd (omega arith) }

-- ---- of a file

module _ (f : List ℕ) where
  -- where the full check passes, the summary of its edges
  pub summary_passes : full_check f ≡ (Ok tt) → summarised_of f ≡ Ok (summary_of (edges_of_file f))
  unfolding summarised_of summarised
  summary_passes pass = ap (λ (c : Check). summarised c (summary_of (edges_of_file f))) pass

  -- otherwise the full check's refusal, and nothing is summed up
  pub summary_refuses : (r : Refusal) → (summarised_of f ≡ Err r) ↔ (full_check f ≡ Err r)
  unfolding summarised_of summarised
  summary_refuses r = (go (full_check f), λ e. ap (λ (c : Check). summarised c (summary_of (edges_of_file f))) e)
    where
      go : (c : Check) → summarised c (summary_of (edges_of_file f)) ≡ Err r → c ≡ Err r
      go (Ok _) h = let z : ◌≡◌ {A = ℕ} 0 1 = cc in absurd (omega arith)
      go (Err q) h = cc

  -- what is told is the full check's answer
  pub summary_told_lem : told (summarised_of f) ≡ full_check f
  unfolding summarised_of summarised
  summary_told_lem = go (full_check f)
    where
      go : (c : Check) → told (summarised c (summary_of (edges_of_file f))) ≡ c
      go (Ok _) = refl
      go (Err r) = refl

  -- a summary is given only where the full check passes, and is that of the file's edges
  pub summary_given : {s : Summary} → summarised_of f ≡ Ok s → (full_check f ≡ (Ok tt)) × (summary_of (edges_of_file f) ≡ s)
  unfolding summarised_of summarised
  summary_given {s = s} e = go (full_check f) e
    where
      go : (c : Check) → summarised c (summary_of (edges_of_file f)) ≡ Ok s → (c ≡ (Ok tt)) × (summary_of (edges_of_file f) ≡ s)
      go (Ok _) h = (refl, cc)
      go (Err r) h = let z : ◌≡◌ {A = ℕ} 0 1 = cc in absurd (omega arith)

  -- a file that passes has at most 2^26 edges, so that all of `Summed` holds of it
  pub summary_sums : (s : Summary) → summarised_of f ≡ Ok s → Summed (edges_of_file f) s
  summary_sums s given =
      let g = summary_given given in
      let checked = fine_checked f g.0 in
      let few = checked_few f (record_of f) checked in
      subst (Summed (edges_of_file f)) g.1 (sums (edges_of_file f) (omega (arith, length_edges_in f (record_of f) checked)))

  -- a degree is the number of its key's edges, which a lookup of the key gives: key i, of as many keys as the file has
  pub summary_degrees : full_check f ≡ (Ok tt) → (i : ℕ) → i < (record_of f).keycount
      → slice_index (degrees_of (groups_of (edges_of_file f))) i ≡ length (of_key (key_at (bytes_at f (record_of f).keys) i) (edges_of_file f))
  summary_degrees pass = degrees_by_key f (record_of f) (fine_checked f pass)

  pub summary_keys : full_check f ≡ (Ok tt) → (record_of f).keycount ≡ length (groups_of (edges_of_file f))
  summary_keys pass = keys_are f (record_of f) (fine_checked f pass)

  -- it is the summary of the batch that the read-out leaves
  pub summary_of_batch : Bytes f → full_check f ≡ (Ok tt) → summarised_of f ≡ Ok (summary_of (edges_of (batch_in f)))
  summary_of_batch bytes pass = summary_passes pass ∙ ap (λ (es : List Edge). Ok (summary_of es)) (sym (out_edges f bytes pass))

  -- there is a smallest and largest exactly where there are edges
  pub summary_there : (s : Summary) → summarised_of f ≡ Ok s → EndsThere s
  summary_there s given = subst EndsThere (summary_given given).1 (ends_there (edges_of_file f))

  -- its keys are of 64-bit halves
  pub summary_fits : Bytes f → (s : Summary) → summarised_of f ≡ Ok s → ExtremesFit s.extremes
  unfolding summary_of
  summary_fits bytes s given =
      let g = summary_given given in subst (λ (t : Summary). ExtremesFit t.extremes) g.1 (extremes_fit (edges_of_file f) (fits f bytes g.0))

-- "files with equal read-outs have equal summaries"
pub same_summary : (f g : List ℕ) → Bytes f → Bytes g → full_check f ≡ (Ok tt) → full_check g ≡ (Ok tt) → batch_in f ≡ batch_in g → summarised_of f ≡ summarised_of g
same_summary f g bf bg pf pg same =
    summary_of_batch f bf pf ∙ ap (λ (s : List ℕ). Ok (summary_of (edges_of s))) same ∙ sym (summary_of_batch g bg pg)
