-- Sections without a name, raw, with their checksums, as the writer lays them out: what their table says.
use Rattle.std.specs.Prelude.{◌≡◌, ℕ, List, [], ◌∷◌, Bool, true, false, not, ◌&&◌, ◌||◌, eqb}
use Rattle.base.specs.Pick.{pick}
use Rattle.xxh3_spec.specs.Xxh3.{xxh3}
use Rattle.frame.specs.Kind as kind
use Rattle.frame.specs.Layout.{Section}

-- a section of a kind that is read, and its contents
pub record Raw (s : Section) : Type 0 where
  pub known : kind.fixed s.kind ≡ true
  pub codec : s.codec ≡ 0
  pub name : s.name ≡ []
  pub sum : s.sum ≡ xxh3 s.bytes

unfoldable pub AllRaw : List Section → Type 0
AllRaw [] = Unit {0}
AllRaw (s ∷ ss) = Raw s × AllRaw ss

-- the bytes of the first section of kind k; none: none
unfoldable pub content_of : ℕ → List Section → List ℕ
content_of k [] = []
content_of k (s ∷ ss) = pick (eqb s.kind k) s.bytes (content_of k ss)

-- it stands there; more than once
unfoldable pub has_kind : ℕ → List Section → Bool
has_kind k [] = false
has_kind k (s ∷ ss) = eqb s.kind k || has_kind k ss

unfoldable pub twice_kind : ℕ → List Section → Bool
twice_kind k [] = false
twice_kind k (s ∷ ss) = pick (eqb s.kind k) (has_kind k ss) (twice_kind k ss)

-- a kind stands among the sections as often as it may
abbrev pub once_in : List Section → kind.Kind → Bool
once_in ss q = not (twice_kind q.number ss) && (not q.needed || has_kind q.number ss)
