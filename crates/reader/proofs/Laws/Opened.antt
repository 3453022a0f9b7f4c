-- What holds of every file that opens.
use Rattle.std.specs.Prelude.{◌≡◌, ℕ, ◌+◌, ◌/◌, ◌≤◌, List, true, length, Ok}
use Rattle.std.proofs.Common.{arith}
use Rattle.frame.specs.declared.Opened.{Opened}
use Rattle.frame.specs.Kind as kind
use Rattle.frame.specs.Frame.{section_of, rows_of, body_of}
use Rattle.frame.specs.Open.{record_from, record_of, bytes_at, record_good, open_of}
use Rattle.frame.proofs.Laws.Open.{Opens, opens_parts, opens_record, size_parts, frames_sized, frames_width, frames_within, recorded_made}
use Rattle.index.specs.Order.{KeysRise, keys_rise, OffsetsRise, offsets_rise}

module _ (f : List ℕ) (o : Opened) (op : open_of f ≡ Ok o) where
  opens : Opens f
  opens = opens_parts f o op

  lies : (q : ℕ) → (section_of q (rows_of (body_of f))).start + (section_of q (rows_of (body_of f))).len ≤ length f
  lies q = let h = frames_within opens.frames q in omega arith

  good : record_good f (record_of f) ≡ true
  unfolding record_of record_from
  good = recorded_made (length f) (record_of f) (record {
    bytes = (size_parts (length f) opens.frames.size).1;
    keys = lies kind.keys;
    offsets = lies kind.offsets;
    partners = lies kind.partners;
    logs = lies kind.logs;
    dead = λ m. lies kind.tombstones;
    starts = λ m. lies kind.starts;
    width = frames_width opens.frames;
    sized = frames_sized opens.frames;
  })

  -- the record that opening gives lies within the file and satisfies rule 21
  pub opened_good : record_good f o ≡ true
  opened_good = rw (← opens_record f o op) good

  -- the keys strictly increase
  pub opened_keys : KeysRise (bytes_at f o.keys) o.keycount
  opened_keys = rw (← opens_record f o op) (keys_rise _ _ opens.keys)

  -- the offsets rise from 0 to the partner section's length
  pub opened_offsets : OffsetsRise (bytes_at f o.offsets) (o.bits / 8) o.keycount (length (bytes_at f o.partners))
  opened_offsets = rw (← opens_record f o op) (offsets_rise _ _ _ _ _ opens.offsets)

  -- the entries of the start index rise from 0 to the edge count
  pub opened_starts : o.indexed ≡ true → OffsetsRise (bytes_at f o.starts) kind.start_size o.keycount o.edgecount
  opened_starts = rw (← opens_record f o op) (λ m. offsets_rise _ _ _ _ _ (opens.starts m))
