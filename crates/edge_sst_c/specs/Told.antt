-- What the C calls tell of the library's answers.
use Rattle.std.specs.Prelude.{ℕ, Bool, true, false, Ok, Err}
use Rattle.refusal.specs.Refusal.{number_of, place_of, beside_of}
use Rattle.frame.specs.declared.Opened.{Opened}
use Rattle.edge_sst_c.specs.declared.EdgeSstOpened.{EdgeSstOpened}
use Rattle.frame.specs.Opening.{Opening}

abbrev pub truth : Bool → ℕ
truth true = 1
truth false = 0

-- a record, with m for its mark and x for whether there is a start index
abbrev pub record_with : Opened → ℕ → ℕ → EdgeSstOpened
record_with o m x = record {
  number = 0;
  place = 0;
  beside = 0;
  keystart = o.keys.start;
  keylen = o.keys.len;
  offsetstart = o.offsets.start;
  offsetlen = o.offsets.len;
  partnerstart = o.partners.start;
  partnerlen = o.partners.len;
  logstart = o.logs.start;
  loglen = o.logs.len;
  deadstart = o.dead.start;
  deadlen = o.dead.len;
  marked = m;
  keycount = o.keycount;
  edgecount = o.edgecount;
  bits = o.bits;
  indexstart = o.starts.start;
  indexlen = o.starts.len;
  indexed = x;
}

-- a number and its places, without a record
abbrev pub refusal_with : ℕ → ℕ → ℕ → EdgeSstOpened
refusal_with number place beside = record {
  number = number;
  place = place;
  beside = beside;
  keystart = 0;
  keylen = 0;
  offsetstart = 0;
  offsetlen = 0;
  partnerstart = 0;
  partnerlen = 0;
  logstart = 0;
  loglen = 0;
  deadstart = 0;
  deadlen = 0;
  marked = 0;
  keycount = 0;
  edgecount = 0;
  bits = 0;
  indexstart = 0;
  indexlen = 0;
  indexed = 0;
}

unfoldable pub opened_told : Opening → EdgeSstOpened
opened_told (Ok o) = record_with o (truth o.marked) (truth o.indexed)
opened_told (Err r) = refusal_with (number_of r) (place_of r) (beside_of r)
