use Rattle.frame.specs.Kind as kind
use Rattle.write_image.specs.Image.{indexed}
use Rattle.write_contents.specs.Footer.{named, asked, here_room, here_put, here_not}
use borrow.Author.Tests.{lt-ltb, le-ltb}
use Rattle.write_contents.proofs.footer.put_starts_entry.Goals as goal

pub put_entry-requires : goal.put_entry-requires
put_entry-requires c = let a = c.args in let h = here_room a.out.now a.at (indexed a.keys) kind.starts a.start (kind.starts_len a.keys) (lt-ltb kind.most_unindexed a.keys c.if-keys.true) c.requires.1 c.requires.2 in asked kind.starts a.start (kind.starts_len a.keys) c.entry.ensures (h.0, h.1, c.requires.3)

pub returns-then-keys : goal.returns-then-keys
returns-then-keys c = let a = c.args in here_put a.out.now a.at (indexed a.keys) kind.starts a.start (kind.starts_len a.keys) (lt-ltb kind.most_unindexed a.keys c.if-keys.true) (named kind.starts a.start (kind.starts_len a.keys) c.entry.ensures c.put_entry.ensures)

pub returns : goal.returns
returns c = let a = c.args in here_not a.out.now a.at (indexed a.keys) kind.starts a.start (kind.starts_len a.keys) (le-ltb kind.most_unindexed a.keys c.if-keys.false)
