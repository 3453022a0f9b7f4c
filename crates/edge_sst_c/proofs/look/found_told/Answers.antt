-- `edge_sst_c::look::found_told` meets its contract.
use Rattle.std.proofs.Common.{sym}
use Rattle.edge_sst_c.proofs.Laws.Look.{looked_found, looked_absent}
use Rattle.edge_sst_c.proofs.look.found_told.Goals as goal

pub returns-in-Found : goal.returns-in-Found
returns-in-Found c = sym (looked_found _ _ _ _ c.in-Found.is)

pub returns-in-Absent : goal.returns-in-Absent
returns-in-Absent c = sym (looked_absent _ _ c.in-Absent.is)
