use native.Mathlib.Omega.{arith}
use Rattle.codes.specs.Varint.Laws.{var_bytes_length}
use Rattle.write_group.proofs.partner_cost.Goals as goal

pub overflow_add-result : goal.overflow_add-result
overflow_add-result c = omega (arith, c.varint_len.ensures, var_bytes_length c.args.up)

pub returns : goal.returns
returns c = (omega (arith, c.varint_len.ensures), omega (arith, c.varint_len.ensures, var_bytes_length c.args.up))
