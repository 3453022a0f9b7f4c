use mathlib.Core.Path.{ap, ◌∙◌}
use Prim.Native.Nat.{ℕ}
use Rattle.frame.specs.Kind as kind
use Rattle.frame.specs.Frame.{raw_row}
use Rattle.frame.proofs.kind.Tombstones.entry.Goals as goal

pub returns : goal.returns
returns c = let a = c.args in c.raw.ensures ∙ ap (λ (l : ℕ). raw_row kind.tombstones a.start l 0) c.bytes.ensures
