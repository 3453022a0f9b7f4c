use Prim.Native.Nat.{◌+◌, ◌/◌}
use Rattle.frame.specs.Kind as kind
use Rattle.write_contents.specs.Footer.{named, asked, here_room, here_put, here_not}
use Rattle.write_contents.proofs.footer.put_tombs_entry.Goals as goal

pub put_entry-requires : goal.put_entry-requires
put_entry-requires c = let a = c.args in let h = here_room a.out.now a.at a.dead kind.tombstones a.start ((a.n + 7) / 8) c.if-dead.true c.requires.1 c.requires.2 in asked kind.tombstones a.start ((a.n + 7) / 8) c.entry.ensures (h.0, h.1, c.requires.3)

pub returns-then-dead : goal.returns-then-dead
returns-then-dead c = let a = c.args in here_put a.out.now a.at a.dead kind.tombstones a.start ((a.n + 7) / 8) c.if-dead.true (named kind.tombstones a.start ((a.n + 7) / 8) c.entry.ensures c.put_entry.ensures)

pub returns : goal.returns
returns c = let a = c.args in here_not a.out.now a.at a.dead kind.tombstones a.start ((a.n + 7) / 8) c.if-dead.false
