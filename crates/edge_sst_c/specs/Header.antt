-- What the header's call for C tells of the library's answer.
use Rattle.std.specs.Prelude.{ℕ, replicate, Result, Ok, Err}
use Rattle.codes.specs.Ids.{id_bytes}
use Rattle.refusal.specs.Refusal.{number_of, place_of, beside_of}
use Rattle.frame.specs.declared.ends.Header.{Header}
use Rattle.edge_sst_c.specs.declared.header.EdgeSstHeader.{EdgeSstHeader}
use Rattle.refusal.specs.declared.Refusal.{Refusal}

-- a header, each id as its 16 bytes
abbrev pub fields_told : Header → EdgeSstHeader
fields_told h = record {
  number = 0;
  place = 0;
  beside = 0;
  minor = h.minor;
  direction = h.direction;
  flags = h.flags;
  edgetype = id_bytes h.edgetype;
  source = id_bytes h.source;
  destination = id_bytes h.destination;
}

-- a number and its places, without a header
abbrev pub without_fields : ℕ → ℕ → ℕ → EdgeSstHeader
without_fields number place beside = record {
  number = number;
  place = place;
  beside = beside;
  minor = 0;
  direction = 0;
  flags = 0;
  edgetype = replicate 16 0;
  source = replicate 16 0;
  destination = replicate 16 0;
}

unfoldable pub header_told : (Result Header Refusal) → EdgeSstHeader
header_told (Ok h) = fields_told h
header_told (Err r) = without_fields (number_of r) (place_of r) (beside_of r)
