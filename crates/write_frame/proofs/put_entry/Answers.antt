use mathlib.Core.Path.{◌≡◌, sym, ap, subst, ◌∙◌}
use Prim.Native.Nat.{ℕ, ◌+◌, ◌≤◌}
use native.Mathlib.Omega.{arith}
use mathlib.Core.List.{List}
use lib.ListN.{length}
use Rattle.base.specs.Over.{part, length_part}
use Rattle.base.specs.Put.{Put}
use Rattle.xxh3_spec.specs.Xxh3.{xxh3}
use Rattle.frame.specs.declared.Row.{Row}
use Rattle.frame.specs.Frame.{raw_row}
use Rattle.write_frame.specs.Standing.{entry_in}
use Rattle.write_frame.specs.Runs.{row_bytes, entry_row}
use Rattle.write_frame.proofs.put_entry.Goals as goal

written : (o o₁ : List ℕ) (at r kind start len sum : ℕ) (row : Row) → start + len ≤ length o → sum ≡ xxh3 (part o start (start + len)) → row ≡ raw_row kind start len sum
    → Put o o₁ at r (row_bytes row) → Put o o₁ at r (entry_in o kind start len)
written o o₁ at r kind start len sum row h s e p =
    let n : length (part o start (start + len)) ≡ len = length_part o start (start + len) h ∙ omega arith in
    subst (Put o o₁ at r)
    (ap row_bytes (e ∙ ap (raw_row kind start len) s) ∙ sym (entry_row kind start len (part o start (start + len)) n)) p

pub returns : goal.returns
returns c = let a = c.args in written a.out.now _ a.at _ a.r.kind a.r.start a.r.len _ _ c.requires.1 c.xxh3-sum.ensures c.raw.ensures c.put_row.ensures
