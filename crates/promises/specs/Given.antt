-- Refusals by document 01's numbers and places, and that a refusal of opening is every call's on the file.
use Rattle.std.specs.Prelude.{◌≡◌, ◌↔◌, ℕ, List, Bool, Err}
use Rattle.refusal.specs.declared.Refusal.{Refusal}
use Rattle.refusal.specs.Refusal.{number_of, place_of, beside_of}
use Rattle.frame.specs.Open.{open_of}
use Rattle.lookup.specs.Lookup.{Rooms, refused, look_of}
use Rattle.reader.specs.Header.{header_of}
use Rattle.full_check.specs.Full.{full_check, checked_of}
use Rattle.readout.specs.ReadOut.{read_out_of}
use Rattle.summary.specs.Summary.{summarised_of}
use Rattle.listing.specs.List.{listed_of}

-- the answer a is a refusal, number n at place p, with s beside it
pub record Gives {A : Type 0} (refusing : Refusal → A) (a : A) (n p s : ℕ) : Type 0 where
  pub refusal : Refusal
  pub is : a ≡ refusing refusal
  pub number : number_of refusal ≡ n
  pub place : place_of refusal ≡ p
  pub beside : beside_of refusal ≡ s

-- every call on the file f gives n at p, with s beside it, exactly if A: opening; the header; lookups, partners alone or in full, of every key and in any
-- room; the full check, and what it answers with the record; the read_out, in any room; the summary; the section list, in any room
pub record Every (f : List ℕ) (n p s : ℕ) (A : Type 0) : Type 0 where
  pub opening : Gives Err (open_of f) n p s ↔ A
  pub header : Gives Err (header_of f) n p s ↔ A
  pub lookup : (full : Bool) (rooms : Rooms) (key : ℕ) → Gives refused (look_of full rooms key f) n p s ↔ A
  pub check : Gives Err (full_check f) n p s ↔ A
  pub checked : Gives Err (checked_of f) n p s ↔ A
  pub read_out : (room : ℕ) → Gives Err (read_out_of f room) n p s ↔ A
  pub summary : Gives Err (summarised_of f) n p s ↔ A
  pub sections : (room : ℕ) → Gives Err (listed_of f room) n p s ↔ A
