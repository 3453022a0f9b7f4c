-- What the checksums say of a file in which bytes of one section are changed: it is refused, unless the changed section has
-- the same XXH3-64. Nothing is said of the header (ids, minor version, flag bit 3) and of
-- the gaps between sections, which carry no checksum.
use Rattle.std.specs.Prelude.{◌≡◌, ℕ, ◌+◌, take, drop}
use mathlib.Core.List.{List}
use Rattle.std.proofs.Math.ListN.{length}
use Rattle.frame.specs.declared.Row.{Row}

-- g is f but for bytes of r's section
pub record Changed (f g : List ℕ) (r : Row) : Type 0 where
  pub size : length g ≡ length f
  pub before : take r.start g ≡ take r.start f
  pub after : drop (r.start + r.len) g ≡ drop (r.start + r.len) f
