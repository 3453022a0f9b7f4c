-- `readout::edges::put_heading` meets its contract.
use mathlib.Core.Path.{ap, ◌∙◌}
use Prim.Native.Nat.{ℕ, ◌/◌, ◌%◌}
use lib.ListN.{set}
use lib.Seq.{sets}
use Rattle.base.specs.Over.{part}
use Rattle.batch.specs.Batch.{heading_bytes}
use Rattle.readout.specs.ReadOut.{heading_in}
use Rattle.readout.proofs.edges.put_heading.Goals as goal

pub returns : goal.returns
unfolding heading_bytes heading_in
returns c = let a = c.args in
    c.put_bytes.ensures
    ∙ ap (λ (t : ℕ). sets (set (set a.out.now 0 3) 1 (t / 8 % 2)) 2 (part a.file.now 16 64)) c.le-flags.ensures.value
