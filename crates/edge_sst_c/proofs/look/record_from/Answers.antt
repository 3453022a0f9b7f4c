-- `edge_sst_c::look::record_from` meets its contract.
use mathlib.Core.Path.{ap}
use Rattle.edge_sst_c.specs.Look.{record_with_bits}
use Rattle.edge_sst_c.proofs.look.record_from.Goals as goal

pub returns : goal.returns
returns c = ap (record_with_bits c.args.c.now) c.byte_or.ensures
