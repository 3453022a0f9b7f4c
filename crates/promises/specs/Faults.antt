-- "Say what is wrong with a group": each number of a group's faults is given by every call on the file exactly where that fault is the
-- first in the order of checks, at the byte inside the group, with the group beside it.
use Rattle.std.specs.Prelude.{◌≡◌, ◌↔◌, ℕ, ◌/◌, ◌<◌, List, Bool, true, Ok, Err}
use Rattle.frame.specs.declared.Opened.{Opened}
use Rattle.frame.specs.Frame.{rows_of, body_of, record_of}
use Rattle.frame.specs.Open.{Known, known_of, bytes_at, record_good, file_check, open_of}
use Rattle.index.specs.declared.keys.Found.{Found}
use Rattle.index.specs.Find.{find_in}
use Rattle.degrees.specs.Degrees.{group_at}
use Rattle.group.specs.declared.fault.Flaw.{Flaw}
use Rattle.group.specs.Group.{is_good, group_of}
use Rattle.group.specs.Wrong.{Wrong}
use Rattle.lookup.specs.Lookup.{Rooms, refused, look_of, look_with}
use Rattle.lookup.specs.Given.{GroupIn, UnplacedIn, MisplacedIn}
use Rattle.reader.specs.Header.{header_of}
use Rattle.full_check.specs.Full.{sums_from, full_check, checked_of}
use Rattle.readout.specs.ReadOut.{read_out_of}
use Rattle.summary.specs.Summary.{summarised_of}
use Rattle.listing.specs.List.{listed_of}
use Rattle.promises.specs.Given.{Gives}

-- in the group asked for: the file opens, and the search ends at key i
pub record WrongAsked (f : List ℕ) (key i : ℕ) (w : Flaw) (b : ℕ) : Type 0 where
  pub opens : open_of f ≡ Ok (record_of f)
  pub compared : ℕ
  pub found : find_in (bytes_at f (record_of f).keys) (record_of f).keycount key ≡ Found.At i compared
  pub wrong : Wrong (group_at (bytes_at f (record_of f).partners) (bytes_at f (record_of f).offsets) ((record_of f).bits / 8) i) w b

-- by a record, whoever filled it: the search ends at key i, whose two offsets neither fall nor pass the partner range
abbrev pub WrongIn : Known → ℕ → ℕ → Flaw → ℕ → Type 0
WrongIn k key i w b = GroupIn k key i (λ g. Wrong g w b)

-- in the first group with a fault: the file opens, and 22 passes
pub record WrongChecked (f : List ℕ) (i : ℕ) (w : Flaw) (b : ℕ) : Type 0 where
  pub opens : open_of f ≡ Ok (record_of f)
  pub sums : sums_from f (rows_of (body_of f)) 0 ≡ (Ok tt)
  pub within : i < (record_of f).keycount
  pub before : (j : ℕ) → j < i → is_good (group_of (group_at (bytes_at f (record_of f).partners) (bytes_at f (record_of f).offsets) ((record_of f).bits / 8) j)) ≡ true
  pub wrong : Wrong (group_at (bytes_at f (record_of f).partners) (bytes_at f (record_of f).offsets) ((record_of f).bits / 8) i) w b

-- every call on the file f, exactly: number n at the byte b, with group i beside it
pub record Faulty (f : List ℕ) (i : ℕ) (w : Flaw) (b n : ℕ) : Type 0 where
  pub lookup : (full : Bool) (rooms : Rooms) (key : ℕ) → Gives refused (look_of full rooms key f) n b i ↔ WrongAsked f key i w b
  pub lookup_with : (full : Bool) (rooms : Rooms) (key : ℕ) (o : Opened) → Gives refused (look_with full rooms key f o) n b i ↔ ((record_good f o ≡ true) × WrongIn (known_of f o) key i w b)
  pub check : Gives Err (full_check f) n b i ↔ WrongChecked f i w b
  pub checked : Gives Err (checked_of f) n b i ↔ WrongChecked f i w b
  pub read_out : (room : ℕ) → Gives Err (read_out_of f room) n b i ↔ WrongChecked f i w b
  pub summary : Gives Err (summarised_of f) n b i ↔ WrongChecked f i w b
  -- opening, the header and the section list look at no group
  pub opening : Gives Err (open_of f) n b i → ⊥
  pub header : Gives Err (header_of f) n b i → ⊥
  pub sections : (room : ℕ) → Gives Err (listed_of f room) n b i → ⊥

-- "14 and 19 keep the group as their one place", beside it 0: of a lookup by a record, whoever filled it, 14 exactly if the group's offsets fall or
-- pass the partner range; 19 exactly if log numbers are asked, the group has no fault, and where its edges begin cannot be told (by the
-- sum of the earlier degrees, or by the start index) or they pass the edge count
pub record Kept (f : List ℕ) (i : ℕ) : Type 0 where
  pub offsets : (full : Bool) (rooms : Rooms) (key : ℕ) (o : Opened) → Gives refused (look_with full rooms key f o) 14 i 0 ↔ ((record_good f o ≡ true) × MisplacedIn (known_of f o) key i)
  pub degrees : (full : Bool) (rooms : Rooms) (key : ℕ) → Gives refused (look_of full rooms key f) 19 i 0 ↔ ((file_check f ≡ (Ok tt)) × ((full ≡ true) × UnplacedIn (known_of f (record_of f)) key i))
  pub degrees_with : (full : Bool) (rooms : Rooms) (key : ℕ) (o : Opened)
      → Gives refused (look_with full rooms key f o) 19 i 0 ↔ ((record_good f o ≡ true) × ((full ≡ true) × UnplacedIn (known_of f o) key i))
