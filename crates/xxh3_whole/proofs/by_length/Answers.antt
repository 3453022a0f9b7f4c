use borrow.Author.Tests.{le-leb, lt-leb}
use Rattle.xxh3_spec.specs.Xxh3.{xxh3}
use Rattle.xxh3_whole.proofs.by_length.Goals as goal

pub returns-then-n-le16 : goal.returns-then-n-le16
unfolding xxh3
returns-then-n-le16 c = simp (le-leb _ _ c.if-n-le16.true) c.small.ensures

pub returns-then-n-le128 : goal.returns-then-n-le128
unfolding xxh3
returns-then-n-le128 c = simp (lt-leb _ _ c.if-n-le16.false, le-leb _ _ c.if-n-le128.true) c.of17to128.ensures

pub returns-then-n-le240 : goal.returns-then-n-le240
unfolding xxh3
returns-then-n-le240 c = simp (lt-leb _ _ c.if-n-le16.false, lt-leb _ _ c.if-n-le128.false, le-leb _ _ c.if-n-le240.true) c.of129to240.ensures

pub returns : goal.returns
unfolding xxh3
returns c = simp (lt-leb _ _ c.if-n-le16.false, lt-leb _ _ c.if-n-le128.false, lt-leb _ _ c.if-n-le240.false) c.by_default.ensures
