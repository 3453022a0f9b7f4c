use Rattle.std.proofs.Common.{le-ltb, lt-ltb}
use Rattle.xxh3_spec.specs.Xxh3.{small}
use Rattle.xxh3_upto240.proofs.small.small.Goals as goal

pub returns-then-n-gt8 : goal.returns-then-n-gt8
unfolding small
returns-then-n-gt8 c = simp (lt-ltb _ _ c.if-n-gt8.true) c.of9to16.ensures

pub returns-then-n-gt3 : goal.returns-then-n-gt3
unfolding small
returns-then-n-gt3 c = simp (le-ltb _ _ c.if-n-gt8.false, lt-ltb _ _ c.if-n-gt3.true) c.of4to8.ensures

pub returns-then-n-gt0 : goal.returns-then-n-gt0
unfolding small
returns-then-n-gt0 c = simp (le-ltb _ _ c.if-n-gt8.false, le-ltb _ _ c.if-n-gt3.false, lt-ltb _ _ c.if-n-gt0.true) c.of1to3.ensures

pub returns : goal.returns
unfolding small
returns c = simp (le-ltb _ _ c.if-n-gt8.false, le-ltb _ _ c.if-n-gt3.false, le-ltb _ _ c.if-n-gt0.false) (cc)
