-- The laws of a group: by its cases, as the code meets them, and what a good walk is made of.
use Rattle.std.specs.Prelude.{◌≡◌, Bool, length, get_or, Ok}
use Prim.Native.Nat.{ℕ, ◌+◌, ◌≤◌, ◌<◌}
use mathlib.Core.List.{List}
use Rattle.base.specs.Pick.{pick}
use Rattle.group.specs.Group.{split_tag, dense_tag, degree_of}

abbrev pub tag_of : Bool → ℕ
tag_of dense = pick dense dense_tag split_tag

pub record Headed (g : List ℕ) (dense : Bool) (d i : ℕ) : Type 0 where
  pub some : 1 ≤ d
  pub tag : ℕ
  pub degree : degree_of g ≡ Ok (d, tag)
  pub tagged : get_or g tag 0 ≡ tag_of dense
  pub within : tag < length g
  pub place : i ≡ tag + 1
