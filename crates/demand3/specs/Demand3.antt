-- Demand 3, in one statement: "For every file that opens, take those sections away and set the minor version to 0, mending
-- offsets, lengths and checksums: the copy opens too, and with equal room every key gets the same answer from both, refusals
-- and places included." "Demand 3 now speaks of added sections outside the range only": those of unknown kinds (`kind.unknown`),
-- which the reserved range is no part of, nor is kind 0x0200: it is kept, and where it is present the copy has minor 1. And the
-- other way: a later writer's file, with such sections and any minor version, opens where that copy does.
use Rattle.std.specs.Prelude.{◌≡◌, ◌↔◌, ℕ, List, Bool, true, not, Ok}
use Rattle.base.specs.Pick.{pick}
use Rattle.base.specs.Bytes.{Bytes}
use Rattle.frame.specs.declared.Opened.{Opened}
use Rattle.frame.specs.declared.ends.Header.{Header}
use Rattle.frame.specs.Kind as kind
use Rattle.frame.specs.Frame.{has, all, rows_of, body_of, record_of, at_minor}
use Rattle.frame.specs.Open.{open_of}
use Rattle.lookup.specs.Lookup.{Rooms, look_of, look_with}
use Rattle.reader.specs.Header.{header_of}
use Rattle.demand3.specs.Stripped.{Stripped, Later}
use Rattle.demand3.specs.Strip.{strip}
use Rattle.demand3.specs.Whole.{Byted}

-- f opens to o, and g is a copy of it without the unknown sections
pub record Alike (f : List ℕ) (o : Opened) (g : List ℕ) : Type 0 where
  pub opens : open_of g ≡ Ok (record_of g)
  -- from the file, and from the records that opening gave
  pub answers : (full : Bool) (rooms : Rooms) (key : ℕ) → look_of full rooms key g ≡ look_of full rooms key f
  pub answers_with : (full : Bool) (rooms : Rooms) (key : ℕ) → look_with full rooms key g (record_of g) ≡ look_with full rooms key f o
  -- and the header is the file's, at minor version 0, or 1 where there is a section of kind 0x0200
  pub header : (h : Header) → header_of f ≡ Ok h → header_of g ≡ Ok (at_minor (pick (has 0x0200 (rows_of (body_of f))) 1 0) h)

-- bytes, a copy, no unknown kind in it, and the same answers
pub record Copy (f : List ℕ) (o : Opened) (g : List ℕ) : Type 0 where
  pub bytes : Byted g
  pub copy : Stripped f g
  pub known : all (λ r. not (kind.unknown r.kind)) (rows_of (body_of g)) ≡ true
  pub alike : Alike f o g

-- a later writer's file opens, and gives the answers of its copy g
pub record LaterOpens (f g : List ℕ) : Type 0 where
  pub opens : open_of f ≡ Ok (record_of f)
  pub alike : Alike f (record_of f) g

pub record Demand3 : Type 0 where
  -- of a file that opens, any copy, whatever its gaps
  pub any_copy : (f : List ℕ) (o : Opened) → open_of f ≡ Ok o → (g : List ℕ) → Stripped f g → Alike f o g
  -- and there is one
  pub one_copy : (f : List ℕ) → Bytes f → (o : Opened) → open_of f ≡ Ok o → Copy f o (strip f)
  -- a later writer's file: any minor version, and any sections of unknown kinds that keep the rules for names and ranges. It
  -- opens if the copy without them does
  pub later : (f : List ℕ) → Later f → (g : List ℕ) → Stripped f g → open_of g ≡ Ok (record_of g) → LaterOpens f g
  -- no more is asked of it than of every file: a file opens exactly if it keeps those rules and `strip` of it opens
  pub exactly : (f : List ℕ) → Bytes f → (open_of f ≡ Ok (record_of f)) ↔ (Later f × (open_of (strip f) ≡ Ok (record_of (strip f))))
