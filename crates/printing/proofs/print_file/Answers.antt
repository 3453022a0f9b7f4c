-- `printing::print_file` meets its contract: opening's refusal is the full check's, and its record the file's.
use Rattle.std.proofs.Common.{sym, ap, ◌∙◌, arith}
use Rattle.frame.specs.declared.Opened.{Opened}
use Rattle.frame.proofs.Laws.Open.{opens_record}
use Rattle.full_check.specs.Checked.{full_unopened}
use Rattle.printing.proofs.print_file.Goals as goal

pub print_refusal-requires : goal.print_refusal-requires
print_refusal-requires c =
    (full_unopened c.args.file.now c.in-Err.unopened (sym c.«open».ensures ∙ c.in-Err.is), omega arith)

pub print_opened-requires : goal.print_opened-requires
print_opened-requires c =
    let same = opens_record c.args.file.now c.in-Ok.opened (sym c.«open».ensures ∙ c.in-Ok.is) in
    (ap (λ (x : Opened). x.keycount) (sym same), c.requires.0, omega arith)
