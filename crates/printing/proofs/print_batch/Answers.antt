-- `printing::print_batch` meets its contract: each page is a part of what is printed, and the next goes on where it ended.
use mathlib.Core.Path.{refl, ◌∙◌}
use native.Mathlib.Omega.{arith}
use Rattle.text.specs.Text.Laws.{put_length, put_front}
use Rattle.printing.proofs.Laws.Printed.{lines_part, passed_printed, passed_heading, passed_size, part_of}
use Rattle.printing.proofs.print_batch.Goals as goal

pub byte-minor-requires : goal.byte-minor-requires
byte-minor-requires c = let s = passed_size c.args.file.now c.args.keys c.args.batch.now c.requires.0 in omega arith

pub edge_count-lines-requires : goal.edge_count-lines-requires
edge_count-lines-requires c = passed_heading c.args.file.now c.args.keys c.args.batch.now c.requires.0

pub overflow_add-lines : goal.overflow_add-lines
overflow_add-lines c = let e = c.edge_count-lines.ensures in omega arith

pub loop-next-init : goal.loop-next-init
loop-next-init c = (omega arith, refl)

pub put_page-page-requires : goal.put_page-page-requires
put_page-page-requires c = let e = c.edge_count-lines.ensures in let s = c.loop-next.invariant.1 in (passed_heading c.args.file.now c.args.keys c.args.batch.now c.requires.0, omega arith, omega arith)

pub wrote_part-requires : goal.wrote_part-requires
wrote_part-requires c =
    let a = c.args in
    let page = c.put_page-page in
    let p = page.ensures in
    let more = p.more in
    let minor = c.byte-minor in (
      p.within,
      part_of
          (passed_printed a.file.now a.keys a.batch.now minor.result c.requires.0 minor.ensures.0)
          (put_front p.lines p.within)
          (lines_part minor.result a.keys a.batch.now c.loop-next.next page.result.next (omega arith) p.upto),
    )

pub loop-next-smaller : goal.loop-next-smaller
loop-next-smaller c = let p = c.put_page-page.ensures in let e = c.edge_count-lines.ensures in let n = p.more in let m = p.upto in omega arith

pub loop-next-preserved : goal.loop-next-preserved
loop-next-preserved c = let p = c.put_page-page.ensures in let e = c.edge_count-lines.ensures in let m = p.upto in (omega arith, put_length p.lines ∙ c.loop-next.invariant.1)
