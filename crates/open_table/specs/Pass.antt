-- What one pass over the section table notes, entry by entry.
use Rattle.std.specs.Prelude.{ℕ, suc, ◌+◌, List, [], ◌∷◌, Bool, true, false, not, ◌&&◌, ◌||◌, get_or, eqb, Ok, Err, Option, Some, None, is_some, unwrap_or}
use Rattle.base.specs.Pick.{pick}
use Rattle.refusal.specs.declared.Refusal.{Refusal}
use Rattle.refusal.specs.Check.{◌⊳◌, refuse, Check}
use Rattle.frame.specs.declared.Row.{Row}
use Rattle.frame.specs.declared.Range.{Range}
use Rattle.frame.specs.declared.Framed.{Framed}
use Rattle.frame.specs.Kind as kind
use Rattle.frame.specs.Frame.{nowhere, key_count, edge_count, bits_of, range_good}
use Rattle.open_table.specs.declared.Seen.{Seen}
pub mod Laws

-- ---- the first bad entry, where there is one

unfoldable pub first_bad : Option ℕ → Bool → ℕ → Option ℕ
first_bad bad good k = pick good bad (Some (unwrap_or bad k))

-- the refusal that it is
unfoldable pub told_bad : (ℕ → Refusal) → Option ℕ → Check
told_bad r None = Ok tt
told_bad r (Some k) = Err (r k)

-- ---- what is seen of the entries

abbrev pub unseen : Seen
unseen = record { reserved = None; codec = None; range = None; floor = kind.header_size; streams = false }

-- with the codec of entry k, of a kind that is read
unfoldable pub coded : ℕ → Seen → ℕ → Seen
coded k s codec = record { reserved = s.reserved; codec = first_bad s.codec (eqb codec 0) k; range = s.range; floor = s.floor; streams = s.streams }

-- with the kind of entry k, where it is not read
unfoldable pub unread : ℕ → Seen → ℕ → Seen
unread k s q = record {
  reserved = first_bad s.reserved (not (kind.reserved q)) k;
  codec = s.codec;
  range = s.range;
  floor = s.floor;
  streams = s.streams || eqb q kind.properties;
}

-- with the range of entry k, which is r
unfoldable pub ranged : ℕ → ℕ → Seen → Row → Seen
ranged limit k s r = record {
  reserved = s.reserved;
  codec = s.codec;
  range = first_bad s.range (range_good limit s.floor r) k;
  floor = pick (range_good limit s.floor r) (r.start + r.len) s.floor;
  streams = s.streams;
}

-- ---- each kind by its slot

-- it was met
abbrev pub met_at : List (Option Range) → ℕ → Bool
met_at places i = is_some (get_or places i None)

-- where it lies
abbrev pub place_at : List (Option Range) → ℕ → Range
place_at places i = unwrap_or (get_or places i None) nowhere

-- of the kinds qs, the first of which has slot i, those that a file must have were met
unfoldable pub needed_from : List kind.Kind → List (Option Range) → ℕ → Bool
needed_from [] places i = true
needed_from (q ∷ qs) places i = (not q.needed || met_at places i) && needed_from qs places (suc i)

abbrev pub required_seen : List kind.Kind → List (Option Range) → Bool
required_seen qs places = needed_from qs places 0

-- what the frame gives
unfoldable pub framed_seen : List ℕ → List (Option Range) → Bool → Framed
framed_seen b places streams = record {
  opened = record {
    keys = place_at places (kind.slot_of kind.keys);
    offsets = place_at places (kind.slot_of kind.offsets);
    partners = place_at places (kind.slot_of kind.partners);
    logs = place_at places (kind.slot_of kind.logs);
    marked = met_at places (kind.slot_of kind.tombstones);
    dead = place_at places (kind.slot_of kind.tombstones);
    indexed = met_at places (kind.slot_of kind.starts);
    starts = place_at places (kind.slot_of kind.starts);
    keycount = key_count b;
    edgecount = edge_count b;
    bits = bits_of b;
  };
  fenced = met_at places (kind.slot_of kind.fences);
  fences = place_at places (kind.slot_of kind.fences);
  streams = streams;
}

-- rules 9 to 11, with 36, of a table that was passed to its end
unfoldable pub passed : List (Option Range) → Seen → Check
passed places s =
    refuse Refusal.Table (not (required_seen kind.kinds places)) ⊳ told_bad Refusal.Reserved s.reserved ⊳ told_bad Refusal.Codec s.codec ⊳ told_bad Refusal.Range s.range
