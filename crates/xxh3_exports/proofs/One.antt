-- Each export stands for the function of its name in the library xxh3: so what is proved of the sums for C holds of what C links.
use Rattle.base.proofs.StandsFor.{StandsFor}
use Rattle.xxh3_exports.specs.contracts.saffron_xxh3_64 as saffron_xxh3_64
use Rattle.xxh3_exports.proofs.saffron_xxh3_64.Reads as saffron_xxh3_64_reads
use Rattle.xxh3.proofs.saffron_xxh3_64.Reads as saffron_xxh3_64_of
use Rattle.xxh3_exports.specs.contracts.saffron_xxh3_new as saffron_xxh3_new
use Rattle.xxh3_exports.proofs.saffron_xxh3_new.Reads as saffron_xxh3_new_reads
use Rattle.xxh3.proofs.saffron_xxh3_new.Reads as saffron_xxh3_new_of
use Rattle.xxh3_exports.specs.contracts.saffron_xxh3_feed as saffron_xxh3_feed
use Rattle.xxh3_exports.proofs.saffron_xxh3_feed.Reads as saffron_xxh3_feed_reads
use Rattle.xxh3.proofs.saffron_xxh3_feed.Reads as saffron_xxh3_feed_of
use Rattle.xxh3_exports.specs.contracts.saffron_xxh3_asked as saffron_xxh3_asked
use Rattle.xxh3_exports.proofs.saffron_xxh3_asked.Reads as saffron_xxh3_asked_reads
use Rattle.xxh3.proofs.saffron_xxh3_asked.Reads as saffron_xxh3_asked_of

pub saffron_xxh3_64_stands : StandsFor saffron_xxh3_64.ended saffron_xxh3_64_reads.Pre saffron_xxh3_64_reads.Post saffron_xxh3_64_of.Post
saffron_xxh3_64_stands κs a = (tt, λ r e p. p)

pub saffron_xxh3_new_stands : StandsFor saffron_xxh3_new.ended saffron_xxh3_new_reads.Pre saffron_xxh3_new_reads.Post saffron_xxh3_new_of.Post
saffron_xxh3_new_stands κs a = (tt, λ r e p. p)

pub saffron_xxh3_feed_stands : StandsFor saffron_xxh3_feed.ended saffron_xxh3_feed_reads.Pre saffron_xxh3_feed_reads.Post saffron_xxh3_feed_of.Post
saffron_xxh3_feed_stands κs a = (tt, λ r e p. p)

pub saffron_xxh3_asked_stands : StandsFor saffron_xxh3_asked.ended saffron_xxh3_asked_reads.Pre saffron_xxh3_asked_reads.Post saffron_xxh3_asked_of.Post
saffron_xxh3_asked_stands κs a = (tt, λ r e p. p)
