-- The edges of a file, "in file order".
use Rattle.std.specs.Prelude.{◌≡◌, ℕ, zero, suc, ◌+◌, ◌*◌, ◌/◌, ◌≤◌, List, [], ◌∷◌, ◌++◌, true, length, eqb}
use Rattle.codes.specs.declared.ids.Id.{Id}
use Rattle.codes.specs.Little.{le_at}
use Rattle.codes.specs.Ids.{halves_at}
use Rattle.frame.specs.Kind as kind
use Rattle.frame.specs.Open.{Known}
use Rattle.group.specs.Group.{Decoded, is_good, partners_of}
use Rattle.lookup.specs.Lookup.{mark_at}
use Rattle.batch.specs.declared.Edge.{Edge}
use Rattle.batch.specs.Batch.{place, records_of}
use Rattle.full_check.specs.Full.{group_in}
pub mod Laws

-- edge e of a file, of a key and a partner
abbrev pub edge_of : List ℕ → List ℕ → Id → Id → ℕ → Edge
edge_of logs dead key partner e = record { key = key; partner = partner; log = le_at logs (kind.log_size * e) 8; dead = eqb (mark_at dead e) 1 }

-- the edges of a key and its partners, of which the first is edge e of the file
unfoldable pub edges_from : List ℕ → List ℕ → Id → ℕ → List Id → List Edge
edges_from logs dead key e [] = []
edges_from logs dead key e (p ∷ ps) = edge_of logs dead key p e ∷ edges_from logs dead key (e + 1) ps

-- p the partners, o the offsets of w bytes each
module _ (keys p o : List ℕ) (w : ℕ) (logs dead : List ℕ) where
  abbrev pub key_degree : ℕ → ℕ
  key_degree i = length (partners_of (group_in p o w i))

  -- the edges of key i
  abbrev pub key_edges : ℕ → ℕ → List Edge
  key_edges i e = edges_from logs dead (halves_at keys (i * kind.key_size)) e (partners_of (group_in p o w i))

  -- those of d keys from key i on
  unfoldable pub read_from : ℕ → ℕ → ℕ → List Edge
  read_from zero i e = []
  read_from (suc d) i e = key_edges i e ++ read_from d (i + 1) (e + key_degree i)

-- all of them
unfoldable pub edges_in : Known → List Edge
edges_in k = read_from k.keys k.partners k.offsets (k.bits / 8) k.logs k.dead k.keycount 0 0

-- ---- what writing a key's d edges asks, the first of them edge `first` of the file: w is its group, read
pub record Writable (w : Decoded) (d : ℕ) (key : Id) (logs dead : List ℕ) (first : ℕ) (out : List ℕ) : Type 0 where
  pub good : is_good w ≡ true
  pub bound : first + d ≤ kind.most_edges
  pub numbers : kind.log_size * (first + d) ≤ length logs
  pub room : place first + length (records_of (edges_from logs dead key first (partners_of w))) ≤ length out
