use native.Mathlib.Omega.{arith}
use borrow.Author.Tests.{lt-ltb, le-ltb}
use Rattle.frame.specs.Kind.{most_unindexed}
use Rattle.write_image.specs.Image.{indexed}
use Rattle.write_contents.specs.Payload.{room_if, put_if, left_out}
use Rattle.write_contents.proofs.payload.put_starts_if.Goals as goal

pub put_starts-requires : goal.put_starts-requires
put_starts-requires c = let a = c.args in (c.requires.0, room_if (indexed a.keys) _ a.out.now a.at (lt-ltb most_unindexed a.keys c.if-keys.true) c.requires.1)

pub returns-then-keys : goal.returns-then-keys
returns-then-keys c = let a = c.args in put_if (indexed a.keys) _ a.out.now a.at (lt-ltb most_unindexed a.keys c.if-keys.true) _ _ c.put_starts.ensures

pub returns : goal.returns
returns c = let a = c.args in left_out (indexed a.keys) _ a.out.now a.at (le-ltb most_unindexed a.keys (omega arith))
