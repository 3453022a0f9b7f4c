-- `edge_sst_c::header::fields_told` meets its contract.
use Rattle.edge_sst_c.proofs.header.fields_told.Goals as goal

pub returns : goal.returns
returns c = let h = c.args.h in λ i. record {
  number = 0;
  place = 0;
  beside = 0;
  minor = h.minor;
  direction = h.direction;
  flags = h.flags;
  edgetype = c.id_told.ensures i;
  source = c.id_told-2.ensures i;
  destination = c.id_told-3.ensures i;
}
