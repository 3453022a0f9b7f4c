-- What is wrong with a group, in the documents' words: each fault is told exactly where it is the first in reading order.
use Rattle.std.proofs.Math.Path.{◌≡◌}
use Rattle.std.specs.Prelude.{◌⊎◌, List, Bool, length, get_or, Ok}
use Prim.Native.Nat.{ℕ, zero, suc, ◌+◌, ◌^◌, ◌≤◌, ◌<◌}
use Rattle.std.proofs.Math.Bool.{true, false}
use Rattle.codes.specs.declared.ids.Id.{Id}
use Rattle.codes.specs.declared.varint.Unread.{Unread}
use Rattle.codes.specs.Ids.{id_number}
use Rattle.codes.specs.Varint.{varint_at}
use Rattle.codes.specs.NoNumber.{NoNumber}
use Rattle.group.specs.declared.fault.Flaw.{Flaw}
use Rattle.group.specs.Group.{dense_size, lower_size, split_tag, dense_tag, step_at}
use Rattle.group.specs.Group.Laws.{Headed}

-- ---- what stands before the fault

-- k partners stand from i on and rise, where hi is the upper half before them and the first is `floor` or more: the next one would
-- begin at j, after the upper half h, and be `low` or more
unfoldable pub PartnersRise : Bool → List ℕ → ℕ → ℕ → ℕ → ℕ → ℕ → ℕ → ℕ → Type 0
PartnersRise dense g zero i hi floor j h low = (i ≡ j) × (hi ≡ h) × (floor ≡ low)
PartnersRise dense g (suc k) i hi floor j h low =
    (p : Id) × (n : ℕ) × (step_at dense g i hi ≡ Ok (p, n)) × (floor ≤ id_number p) × PartnersRise dense g k n p.hi (suc (id_number p)) j h low

-- a degree and a tag stand there and `read` of the partners, which rise; the next begins at b, or would, after the upper half hi and
-- with the least number `low`, one above the last partner's
pub record ReadSoFar (g : List ℕ) (dense : Bool) (b hi low degree read : ℕ) : Type 0 where
  pub payload : ℕ
  pub head : Headed g dense degree payload
  pub rise : PartnersRise dense g read payload 0 0 b hi low

-- a partner is to begin at b
pub record NextPartner (g : List ℕ) (dense : Bool) (b hi low : ℕ) : Type 0 where
  pub degree : ℕ
  pub read : ℕ
  pub before : ReadSoFar g dense b hi low degree read
  pub more : read < degree

-- ---- the faults, each at the byte b

-- 16: a degree stands there, and a tag that is neither
pub record UnknownTag (g : List ℕ) (b : ℕ) : Type 0 where
  pub degree : ℕ
  pub read : varint_at g 0 ≡ Ok (degree, b)
  pub some : degree ≡ 0 → ⊥
  pub within : b < length g
  pub split : get_or g b 0 ≡ split_tag → ⊥
  pub dense : get_or g b 0 ≡ dense_tag → ⊥

-- 31: a degree stands there, and nothing after it
pub record NoTag (g : List ℕ) (b : ℕ) : Type 0 where
  pub degree : ℕ
  pub read : varint_at g 0 ≡ Ok (degree, b)
  pub some : degree ≡ 0 → ⊥
  pub none : length g ≤ b

-- 30: a difference takes the upper half past 2^64 - 1
pub record TooLarge (g : List ℕ) (b : ℕ) : Type 0 where
  pub hi : ℕ
  pub low : ℕ
  pub next : NextPartner g false b hi low
  pub difference : ℕ
  pub after : ℕ
  pub read : varint_at g b ≡ Ok (difference, after)
  pub passes : 2 ^ 64 ≤ hi + difference

-- 31: a difference stands there, and fewer than eight bytes after it
pub record SplitCut (g : List ℕ) (b : ℕ) : Type 0 where
  pub hi : ℕ
  pub low : ℕ
  pub next : NextPartner g false b hi low
  pub difference : ℕ
  pub after : ℕ
  pub read : varint_at g b ≡ Ok (difference, after)
  pub fits : hi + difference < 2 ^ 64
  pub short : length g < after + lower_size

-- 31: fewer than 16 bytes of a dense partner, none too
pub record DenseCut (g : List ℕ) (b : ℕ) : Type 0 where
  pub hi : ℕ
  pub low : ℕ
  pub next : NextPartner g true b hi low
  pub short : length g < b + dense_size

-- 33 to 35: the upper half of a partner that is to come is no number, for that reason
pub record NoUpper (g : List ℕ) (b : ℕ) (why : Unread) : Type 0 where
  pub hi : ℕ
  pub low : ℕ
  pub next : NextPartner g false b hi low
  pub unread : NoNumber g b why

-- 29: a whole partner that is not above the one before
pub record NotAbove (g : List ℕ) (b : ℕ) : Type 0 where
  pub dense : Bool
  pub hi : ℕ
  pub low : ℕ
  pub next : NextPartner g dense b hi low
  pub partner : Id
  pub after : ℕ
  pub read : step_at dense g b hi ≡ Ok (partner, after)
  pub under : id_number partner < low

-- 32: all partners of the degree, and a byte after them
pub record LeftOver (g : List ℕ) (b : ℕ) : Type 0 where
  pub dense : Bool
  pub hi : ℕ
  pub low : ℕ
  pub degree : ℕ
  pub before : ReadSoFar g dense b hi low degree degree
  pub spare : b < length g

unfoldable pub Wrong : List ℕ → Flaw → ℕ → Type 0
Wrong g Flaw.Tag b = UnknownTag g b
Wrong g (Flaw.Number why) b = ((b ≡ 0) × NoNumber g 0 why) ⊎ NoUpper g b why
Wrong g Flaw.Degree b = (b ≡ 0) × ((n : ℕ) × (varint_at g 0 ≡ Ok (0, n)))
Wrong g Flaw.Order b = NotAbove g b
Wrong g Flaw.Upper b = TooLarge g b
Wrong g Flaw.Cut b = NoTag g b ⊎ (SplitCut g b ⊎ DenseCut g b)
Wrong g Flaw.Spare b = LeftOver g b
