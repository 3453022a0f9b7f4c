-- `edge_sst_c::record_told` meets its contract.
use Rattle.std.specs.Prelude.{◌≡◌, Bool, true, false}
use Rattle.std.proofs.Common.{refl, ◌∙◌}
use Rattle.std.specs.Int.{from_bool}
use Rattle.edge_sst_c.specs.Told.{truth, record_with}
use Rattle.edge_sst_c.proofs.record_told.Goals as goal

truth_is : (b : Bool) → from_bool b ≡ truth b
truth_is true = refl
truth_is false = refl

pub returns : goal.returns
returns c = let o = c.args.o in λ i. record_with o ((c.from.ensures ∙ truth_is o.marked) i) ((c.from-2.ensures ∙ truth_is o.indexed) i)
