-- What the calls for C tell, read back by the words of include/edge_sst.h: the library's answers, and the record of
-- `edge_sst_open` where it is lent to a lookup.
use Rattle.std.specs.Prelude.{◌≡◌, ℕ, ◌≤◌, List, [], ◌∷◌, replicate, ltb, eqb, Ok, Option, Some, Result, None, Err}
use Rattle.base.specs.Pick.{pick}
use Rattle.codes.specs.Ids.{halves_at}
use Rattle.refusal.specs.declared.Refusal.{Refusal}
use Rattle.refusal.specs.Refusal.{refusal_told}
use Rattle.frame.specs.declared.Opened.{Opened}
use Rattle.lookup.specs.declared.Looked.{Looked}
use Rattle.summary.specs.declared.figures.Extremes.{Extremes}
use Rattle.summary.specs.declared.figures.Summary.{Summary}
use Rattle.summary.specs.Summary.{nothing}
use Rattle.edge_sst_c.specs.declared.EdgeSstOpened.{EdgeSstOpened}
use Rattle.edge_sst_c.specs.declared.header.EdgeSstHeader.{EdgeSstHeader}
use Rattle.edge_sst_c.specs.declared.look.EdgeSstLooked.{EdgeSstLooked}
use Rattle.edge_sst_c.specs.declared.desk.EdgeSstTold.{EdgeSstTold}
use Rattle.edge_sst_c.specs.declared.desk.EdgeSstDone.{EdgeSstDone}
use Rattle.edge_sst_c.specs.declared.section_list.EdgeSstListed.{EdgeSstListed}
use Rattle.edge_sst_c.specs.declared.figures.ExtremesTold.{ExtremesTold}
use Rattle.edge_sst_c.specs.declared.figures.EdgeSstSummary.{EdgeSstSummary}
use Rattle.edge_sst_c.specs.Told.{refusal_with}
use Rattle.edge_sst_c.specs.Look.{record_lent}
use Rattle.frame.specs.Opening.{Opening}
use Rattle.refusal.specs.Check.{Check}
use Rattle.frame.specs.declared.ends.Header.{Header}

-- ---- the answers

-- number is 0, and then x is the answer, or it is a refusal's, with its places
abbrev pub unless : {A : Type 0} → (Refusal → A) → ℕ → ℕ → ℕ → A → A
unless bad number place beside x = pick (ltb 0 number) (bad (refusal_told number place beside)) x

abbrev pub looked_from : EdgeSstLooked → Result Looked Refusal
looked_from r = unless Err r.number r.place r.beside (pick (ltb 0 r.found) (Ok (Looked.Found r.degree r.index r.compared)) (Ok (Looked.Absent r.compared)))

abbrev pub check_from : EdgeSstTold → Check
check_from r = unless Err r.number r.place r.beside (Ok tt)

abbrev pub done_from : EdgeSstDone → Result ℕ Refusal
done_from r = unless Err r.number r.place r.beside (Ok r.bytes)

abbrev pub listed_from : EdgeSstListed → Result ℕ Refusal
listed_from r = unless Err r.number r.place r.beside (Ok r.rows)

abbrev pub header_from : EdgeSstHeader → Result Header Refusal
header_from r = unless Err r.number r.place r.beside (Ok (record {
  minor = r.minor;
  direction = r.direction;
  flags = r.flags;
  edgetype = halves_at r.edgetype 0;
  source = halves_at r.source 0;
  destination = halves_at r.destination 0;
}))

-- ---- the summary

abbrev pub extremes_from : ExtremesTold → Option Extremes
extremes_from x =
    pick (eqb x.there 1)
    (Some (record { smallestkey = halves_at x.smallestkey 0; largestkey = halves_at x.largestkey 0; smallestlog = x.smallestlog; largestlog = x.largestlog }))
    None

-- the figures, whatever the number is
abbrev pub figures_from : EdgeSstSummary → Summary
figures_from r = record {
  keycount = r.keycount;
  edgecount = r.edgecount;
  tombstones = r.tombstones;
  largestdegree = r.largestdegree;
  extremes = extremes_from (record { there = r.extremes; smallestkey = r.smallestkey; largestkey = r.largestkey; smallestlog = r.smallestlog; largestlog = r.largestlog });
  buckets = r.buckets;
}

abbrev pub summarised_from : EdgeSstSummary → Result Summary Refusal
summarised_from r = unless Err r.number r.place r.beside (Ok (figures_from r))

-- the figures of an answer: beside a refusal those of no edges
abbrev pub figures_of : Result Summary Refusal → Summary
figures_of (Ok s) = s
figures_of (Err r) = nothing

-- `extremes` is 1 exactly where there are edges, and without edges all five fields are 0
pub record EndsTold (t : EdgeSstSummary) : Type 0 where
  pub some : 1 ≤ t.edgecount → t.extremes ≡ 1
  pub none : t.edgecount ≡ 0 → (t.extremes ≡ 0) × (t.smallestkey ≡ replicate 16 0) × (t.largestkey ≡ replicate 16 0) × (t.smallestlog ≡ 0) × (t.largestlog ≡ 0)

-- ---- the opened record

-- an EdgeSstOpened as its twenty numbers: the fields in the order in which they are declared
abbrev pub fields_of : EdgeSstOpened → List ℕ
fields_of c =
    c.number ∷ c.place ∷ c.beside ∷ c.keystart ∷ c.keylen ∷ c.offsetstart ∷ c.offsetlen ∷ c.partnerstart ∷ c.partnerlen ∷ c.logstart ∷ c.loglen
    ∷ c.deadstart ∷ c.deadlen ∷ c.marked ∷ c.keycount ∷ c.edgecount ∷ c.bits
    ∷ c.indexstart ∷ c.indexlen ∷ c.indexed ∷ []

-- no record: what is told beside a refusal
abbrev pub none : Opened
none = record_lent (fields_of (refusal_with 0 0 0))

-- and so the whole answer of `edge_sst_open`
abbrev pub opening_from : EdgeSstOpened → Opening
opening_from c = unless Err c.number c.place c.beside (Ok (record_lent (fields_of c)))
