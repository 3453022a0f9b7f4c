-- `summary::dead_in` meets its contract.
use Rattle.summary.proofs.Laws.Checked.{checked_holds, dead_asks, dead_gives}
use Rattle.summary.proofs.dead_in.Goals as goal

pub tombstones_of-requires : goal.tombstones_of-requires
tombstones_of-requires c = let s = c in checked_holds s.args.file.now s.args.o s.requires

pub dead_of-requires : goal.dead_of-requires
dead_of-requires c = let s = c in dead_asks s.args.file.now s.args.o s.requires c.tombstones_of.ensures

pub returns : goal.returns
returns c = let s = c in dead_gives s.args.file.now s.args.o s.requires c.tombstones_of.ensures c.dead_of.ensures
