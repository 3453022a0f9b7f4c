-- `listing::count_of` meets its contract.
use mathlib.Core.Path.{ap, ◌∙◌}
use lib.ListN.{length}
use Rattle.frame.specs.Frame.{entry_count}
use Rattle.frame.proofs.Laws.Open.{footed}
use native.Mathlib.Omega.{arith}
use Rattle.listing.proofs.count_of.Goals as goal

pub body_of-requires : goal.body_of-requires
body_of-requires c = let f = footed c.args.file.now c.requires in let least = f.least in let most = f.most in (omega arith, omega arith)

pub le-requires : goal.le-requires
le-requires c = let f = footed c.args.file.now c.requires in
    let least = f.least in
    let long = ap length c.body_of.ensures ∙ f.body in
    omega arith

pub returns : goal.returns
returns c = c.le.ensures.value ∙ ap entry_count c.body_of.ensures
