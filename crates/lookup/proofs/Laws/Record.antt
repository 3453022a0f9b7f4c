-- What rule 21 gives a lookup: ranges that lie within the file, and lengths that the counts give.
use Rattle.std.specs.Prelude.{◌≡◌, ℕ, ◌+◌, ◌/◌, ◌≤◌, List, true, length}
use Rattle.std.proofs.Common.{arith}
use Rattle.base.specs.Over.{length_part}
use Rattle.frame.specs.declared.Range.{Range}
use Rattle.frame.specs.declared.Opened.{Opened}
use Rattle.frame.specs.Kind as kind
use Rattle.frame.specs.Open.{record_good, bytes_at}
use Rattle.frame.proofs.Laws.Open.{recorded_parts, width_bytes}
use Rattle.lookup.specs.Record.{Holds}

-- a range within the file has its length
long : (f : List ℕ) (r : Range) (n : ℕ) → r.start + r.len ≤ length f → r.len ≡ n → length (bytes_at f r) ≡ n
long f r n h e = let l = length_part f r.start (r.start + r.len) h in omega arith

pub holds : (f : List ℕ) (o : Opened) → record_good f o ≡ true → Holds f o
holds f o e =
    let r = recorded_parts (length f) o e in
    let s = r.sized in
    let w = width_bytes _ r.width in
    let small = r.bytes in
    let pl = length_part f o.partners.start (o.partners.start + o.partners.len) r.partners in
    let inside = r.partners in
    record {
      size = r.bytes;
      keys = r.keys;
      offsets = r.offsets;
      partners = r.partners;
      logs = r.logs;
      dead = r.dead;
      starts = r.starts;
      few = s.few;
      edges = s.edges;
      narrow = w.0;
      wide = w.1;
      keybytes = long f o.keys (kind.keys_len o.keycount) r.keys s.keys;
      offsetbytes = long f o.offsets (kind.offsets_len o.keycount (o.bits / 8)) r.offsets s.offsets;
      logbytes = long f o.logs (kind.logs_len o.edgecount) r.logs s.logs;
      deadbytes = λ m. long f o.dead (kind.tombstones_len o.edgecount) (r.dead m) (s.dead m);
      startbytes = λ m. long f o.starts (kind.starts_len o.keycount) (r.starts m) (s.starts m);
      partnerbytes = omega arith;
    }
