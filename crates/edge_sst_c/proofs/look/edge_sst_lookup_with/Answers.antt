-- `edge_sst_c::look::edge_sst_lookup_with` meets its contract.
use mathlib.Core.Bool.{true}
use lib.ListN.{length}
use Rattle.codes.specs.Ids.{id_at}
use Rattle.frame.specs.declared.Opened.{Opened}
use Rattle.lookup.specs.Lookup.{look_with}
use Rattle.lookup.specs.Calls.{lent}
use Rattle.edge_sst_c.proofs.Laws.Look.{edges_told_as}
use Rattle.edge_sst_c.proofs.look.edge_sst_lookup_with.Goals as goal

pub returns : goal.returns
returns c = let a = c.args in
    edges_told_as (λ (o : Opened). look_with true (lent (length a.out.now) (length a.logs.now) (length a.marks.now)) (id_at a.key.now 0) a.file.now o) c.record_from.ensures c.lookup_with.ensures c.looked_told.ensures
