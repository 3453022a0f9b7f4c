use Rattle.frame.specs.Frame.{body_of}
use Rattle.frame.proofs.ends.body_of.Goals as goal

pub returns : goal.returns
unfolding body_of
returns c = rw c.foot_at-a.ensures
