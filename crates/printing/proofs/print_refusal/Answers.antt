-- `printing::print_refusal` meets its contract: what is put is all that is printed of the file.
use Rattle.std.proofs.Common.{◌≤◌, ◌++◌, length, arith}
use Rattle.text.specs.Text.{refused_text}
use Rattle.text.specs.Text.Laws.{both, put_length, put_front, length_refused}
use Rattle.printing.specs.Printed.{newline}
use Rattle.printing.proofs.Laws.Printed.{refused_printed, part_of, part_all}
use Rattle.printing.proofs.print_refusal.Goals as goal

pub put_refused-mid-requires : goal.put_refused-mid-requires
put_refused-mid-requires c = let n = length_refused c.args.refusal in omega arith

pub put_word-end-requires : goal.put_word-end-requires
put_word-end-requires c =
    let n = length_refused c.args.refusal in
    let p = c.put_refused-mid.ensures in
    let s = put_length p in
    let e = p.place in
    omega arith

pub wrote_part-requires : goal.wrote_part-requires
wrote_part-requires c =
    let a = c.args in
    let n = length_refused a.refusal in
    let p = c.put_refused-mid.ensures in
    let q = c.put_word-end.ensures in
    let s = put_length p in
    let t = put_length q in
    let e = p.place in
    let f = q.place in
    let fits : c.put_word-end.result ≤ length c.put_word-end.new.out = omega arith in
    (fits, part_of (refused_printed a.file.now a.refusal c.requires.0) (put_front (both p q) fits) (part_all (refused_text a.refusal ++ newline)))
