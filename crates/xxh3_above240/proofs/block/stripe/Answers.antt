use Rattle.std.proofs.Common.{arith}
use Rattle.xxh3_spec.specs.Xxh3.{secret}
use Rattle.xxh3_above240.proofs.Stripes.{joins, skips, past}
use Rattle.xxh3_above240.proofs.block.stripe.Goals as goal

pub returns-then-end : goal.returns-then-end
returns-then-end g c = let a = c.args in past secret a.s.now a.to a.end g.row.J a.a c.if-end.true

pub returns-then-to : goal.returns-then-to
returns-then-to g c = let a = c.args in skips secret a.s.now a.to a.end g.row.J a.a c.if-end.false c.if-to.true

pub returns : goal.returns
returns g c = let a = c.args in joins secret a.s.now a.to a.end g.row.J a.a c.if-end.false c.if-to.false (grind arith)
