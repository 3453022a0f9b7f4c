-- `readout::read_out` meets its contract: one law for each way out.
use mathlib.Core.Path.{sym, ap, ◌∙◌}
use Prim.Native.Nat.{ℕ}
use mathlib.Core.List.{List}
use lib.Seq.{sets, length-sets}
use Rattle.std.specs.Prelude.{Err}
use Rattle.std.proofs.lemmas.Result.{err_from_is_err_and}
use Rattle.frame.specs.Open.{known_of}
use Rattle.batch.specs.Batch.{heading_bytes, records_of}
use Rattle.full_check.specs.Checked.{checked_refused}
use Rattle.readout.specs.Edges.{edges_in}
use Rattle.readout.specs.ReadOut.{heading_in}
use Rattle.readout.specs.ReadOut.Laws.{checked_records, checked_size, checked_few, batch_written, reads_bad, reads_short, reads_all}
use native.Mathlib.Omega.{arith}
use Rattle.readout.proofs.read_out.Goals as goal

pub overflow_mul-needed : goal.overflow_mul-needed
overflow_mul-needed c = let few = checked_few c.args.file.now _ (sym c.checked.ensures ∙ c.in_ok-opened.was) in omega arith

pub overflow_add-needed : goal.overflow_add-needed
overflow_add-needed c = let few = checked_few c.args.file.now _ (sym c.checked.ensures ∙ c.in_ok-opened.was) in omega arith

pub returns-then-out-needed : goal.returns-then-out-needed
returns-then-out-needed c = let a = c.args in
    let r = reads_short a.file.now a.out.now _ (sym c.checked.ensures ∙ c.in_ok-opened.was) (omega arith) in
    r

pub put_heading-requires : goal.put_heading-requires
put_heading-requires c = let a = c.args in
    let size = checked_size a.file.now _ (sym c.checked.ensures ∙ c.in_ok-opened.was) in
    (omega arith, omega arith)

pub put_edges_of-requires : goal.put_edges_of-requires
put_edges_of-requires c = let a = c.args in
    let g = sym c.checked.ensures ∙ c.in_ok-opened.was in
    let len = checked_records a.file.now _ g in
    let same = length-sets a.out.now 0 (heading_bytes (heading_in a.file.now)) in
    (g, simp (c.put_heading.ensures, length-sets, len) (omega arith))

pub returns-in_err-opened : goal.returns-in_err-opened
returns-in_err-opened c = let a = c.args in
    let r = reads_bad a.file.now a.out.now _ (checked_refused a.file.now _ (sym c.checked.ensures ∙ c.in_err-opened.was)) in
    let (q, given, same) = err_from_is_err_and c.from_residual.result c.from_residual.ensures.1 in
    (given ∙ ap Err same ∙ r.0, r.1)

pub returns : goal.returns
returns c = let a = c.args in
    let g = sym c.checked.ensures ∙ c.in_ok-opened.was in
    let f = a.file.now in
    let size = checked_size f _ g in
    let len = checked_records f _ g in
    let es = edges_in (known_of f c.in_ok-opened.opened) in
    reads_all f a.out.now _ g (omega arith)
    (c.put_edges_of.ensures ∙ ap (λ (t : List ℕ). sets t 50 (records_of es)) c.put_heading.ensures ∙ batch_written f es a.out.now (omega arith) (omega arith))
