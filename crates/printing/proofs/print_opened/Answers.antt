-- `printing::print_opened` meets its contract: a read_out that is done leaves the file's batch, and its refusal is the full check's.
use Rattle.std.proofs.Common.{◌-◌, sym, ap, ◌∙◌, length, take, drop, arith}
use native.Mathlib.Nat.{sub-zero}
use Rattle.std.proofs.Math.Seq.{take_at}
use Rattle.readout.specs.ReadOut.{batch_in}
use Rattle.readout.specs.ReadOut.Laws.{done_by, refused_check}
use Rattle.printing.proofs.print_opened.Goals as goal

pub print_refusal-requires : goal.print_refusal-requires
print_refusal-requires c =
    let a = c.args in
    (refused_check a.file.now (length a.room.now) c.in-Err.refusal c.requires.1 (sym c.read_out.ensures.0 ∙ c.in-Err.is), omega arith)

pub slice_bounds-print_batch-end : goal.slice_bounds-print_batch-end
slice_bounds-print_batch-end c =
    let a = c.args in
    let d = done_by a.file.now a.room.now c.in-Ok.bytes (sym c.read_out.ensures.0 ∙ c.in-Ok.is) in
    let r = d.room in
    omega arith

pub print_batch-requires : goal.print_batch-requires
print_batch-requires c =
    let n = c.in-Ok.bytes in
    let f = c.args.file.now in
    let d = done_by f c.args.room.now n (sym c.read_out.ensures.0 ∙ c.in-Ok.is) in
    let left = c.read_out.ensures.1 in
    let batch = ap (take (n - 0)) (left ∙ d.output) ∙ take_at (batch_in f) (drop (length (batch_in f)) c.args.room.now) (n - 0) (d.batch ∙ sym (sub-zero n)) in
    (record { fine = d.fine; count = c.requires.0; read = batch }, omega arith)
