-- What a good group says: of its degree and its partners, of its length, and that its bytes are what is written for them.
use Rattle.std.specs.Prelude.{◌≡◌, ℕ, ◌+◌, ◌*◌, ◌^◌, ◌≤◌, ◌<◌, Bool, true, length}
use mathlib.Core.List.{List, ◌++◌}
use Rattle.std.proofs.Math.ListN.{drop}
use Rattle.base.specs.Bytes.{Bytes}
use Rattle.codes.specs.declared.ids.Id.{Id}
use Rattle.group.specs.Group.{walk_from, group_of, is_good, partners_of}
use Rattle.group.specs.Group.Laws.{Headed}
use Rattle.group.specs.Written.{Halves, Above, step_bytes, payload_of}

-- ---- one partner

pub record Stepped (dense : Bool) (g : List ℕ) (i hi : ℕ) (p : Id) (n : ℕ) : Type 0 where
  pub upper : p.hi < 2 ^ 64
  pub lower : p.lo < 2 ^ 64
  pub bytes : drop i g ≡ step_bytes dense hi p ++ drop n g

-- ---- a good walk

pub record Walked (dense : Bool) (d : ℕ) (g : List ℕ) (i hi floor : ℕ) (b : Bool) (ps : List Id) : Type 0 where
  pub kind : b ≡ dense
  pub count : length ps ≡ d
  pub above : Above floor ps
  pub room : i + 9 * d ≤ length g
  pub halves : Bytes g → Halves ps
  pub bytes : Bytes g → drop i g ≡ payload_of dense hi ps

-- ---- the whole group

-- partners come after a head
pub record GoodGroup (g : List ℕ) (dense : Bool) (ps : List Id) : Type 0 where
  pub place : ℕ
  pub head : Headed g dense (length ps) place
  pub walk : Walked dense (length ps) g place 0 0 dense ps

-- ---- as a fill meets it: the group is good, and d and i are its head's

pub record Fill (g : List ℕ) (dense : Bool) (d i : ℕ) : Type 0 where
  pub walk : group_of g ≡ walk_from dense d g i 0 0
  pub rest : is_good (walk_from dense d g i 0 0) ≡ true
  pub count : length (partners_of (group_of g)) ≡ d
  pub within : i ≤ length g
  pub payload : Bytes g → drop i g ≡ payload_of dense 0 (partners_of (group_of g))
