use native.Mathlib.Omega.{arith}
use borrow.Author.Tests.{lt-ltb, le-ltb}
use Rattle.write_image.specs.Image.{fenced}
use Rattle.write_contents.specs.Payload.{room_if, put_if, left_out}
use Rattle.write_contents.proofs.payload.put_fences_if.Goals as goal

pub put_fences-requires : goal.put_fences-requires
put_fences-requires c = let a = c.args in (c.requires.0, c.requires.1, room_if (fenced a.keys) _ a.out.now a.at (lt-ltb 65536 a.keys c.if-keys.true) c.requires.2)

pub returns-then-keys : goal.returns-then-keys
returns-then-keys c = let a = c.args in put_if (fenced a.keys) _ a.out.now a.at (lt-ltb 65536 a.keys c.if-keys.true) _ _ c.put_fences.ensures

pub returns : goal.returns
returns c = let a = c.args in left_out (fenced a.keys) _ a.out.now a.at (le-ltb 65536 a.keys (omega arith))
