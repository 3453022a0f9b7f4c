use Rattle.xxh3_running.proofs.Steps.{fed_whole}
use Rattle.xxh3_running.proofs.feed.Goals as goal

pub returns : goal.returns
returns c = let e = c.feed_lent-told.ensures in fed_whole _ e.0 e.1
