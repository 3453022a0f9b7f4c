-- A file from its parts: header, sections without gaps, footer body, trailer.
use Rattle.std.specs.Prelude.{ℕ, ◌+◌, List, [], ◌∷◌, ◌++◌, length}
use Rattle.codes.specs.Little.{le_bytes}
use Rattle.xxh3_spec.specs.Xxh3.{xxh3}
use Rattle.frame.specs.Kind as kind

pub record Section : Type 0 where
  pub kind : ℕ
  pub codec : ℕ
  pub sum : ℕ
  pub name : List ℕ
  pub bytes : List ℕ

pub record Layout : Type 0 where
  -- the 64 bytes of the header
  pub head : List ℕ
  pub sections : List Section
  pub keycount : ℕ
  pub edgecount : ℕ
  pub bits : ℕ

-- a section of a kind that is read, with its checksum
abbrev pub raw_section : ℕ → List ℕ → Section
raw_section k bytes = record { kind = k; codec = 0; sum = xxh3 bytes; name = []; bytes = bytes }

-- minor, flags and the three ids
unfoldable pub head_bytes : ℕ → ℕ → List ℕ → List ℕ
head_bytes minor flags ids = kind.magic_bytes ++ (1 ∷ minor ∷ (le_bytes 2 kind.header_size ++ (le_bytes 4 flags ++ ids)))

unfoldable pub payload : List Section → List ℕ
payload [] = []
payload (s ∷ ss) = s.bytes ++ payload ss

-- the entry of a section that lies at `at`
unfoldable pub entry : ℕ → Section → List ℕ
entry at s =
    le_bytes 2 s.kind ++ (s.codec ∷ length s.name ∷ (le_bytes 8 at ++ (le_bytes 8 (length s.bytes) ++ (le_bytes 8 s.sum ++ s.name))))

-- the entries of sections that lie from `at` on
unfoldable pub entries : ℕ → List Section → List ℕ
entries at [] = []
entries at (s ∷ ss) = entry at s ++ entries (at + length s.bytes) ss

unfoldable pub body_bytes : List Section → ℕ → ℕ → ℕ → List ℕ
body_bytes ss n e bits = le_bytes 2 (length ss) ++ (entries kind.header_size ss ++ (le_bytes 8 n ++ (le_bytes 8 e ++ (bits ∷ []))))

unfoldable pub trailer : List ℕ → List ℕ
trailer body = le_bytes 8 (xxh3 body) ++ (le_bytes 4 (length body + kind.trailer_size) ++ kind.magic_bytes)

unfoldable pub lay_out : Layout → List ℕ
lay_out x =
    x.head ++ (payload x.sections
    ++ (body_bytes x.sections x.keycount x.edgecount x.bits ++ trailer (body_bytes x.sections x.keycount x.edgecount x.bits)))
