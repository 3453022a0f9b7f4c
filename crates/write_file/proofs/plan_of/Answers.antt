use Rattle.std.proofs.Common.{sym, subst, arith}
use Rattle.std.proofs.lemmas.Result.{err_from_is_err_and}
use Rattle.batch_groups.proofs.Laws.Order.{fine_long}
use Rattle.batch_faults.specs.Tally.Laws.{fine_is, bad_is}
use Rattle.write_file.specs.Written.Laws.{needed_bad}
use Rattle.write_file.specs.Fine.{Planned, ready, planned}
use Rattle.write_file.proofs.plan_of.Goals as goal

pub overflow_sub-n : goal.overflow_sub-n
overflow_sub-n c = let s = c.args.batch.now in let p = fine_is s _ _ (sym c.in_ok-tally.ensures) in omega (arith, fine_long s p.check)

pub measure-requires : goal.measure-requires
measure-requires c = let s = c.args.batch.now in ready s (λ j. omega (arith, c.type_inv.batch j)) _ _ (fine_is s _ _ (sym c.in_ok-tally.ensures))

pub returns-in_err-tally : goal.returns-in_err-tally
returns-in_err-tally c =
    let s = c.args.batch.now in
    let p = err_from_is_err_and c.from_residual.result c.from_residual.ensures.1 in rw (p.1, p.2) (needed_bad s _ (bad_is s _ (sym c.in_err-tally.ensures)))

pub returns : goal.returns
returns c =
    let s = c.args.batch.now in
    subst (Planned s) (sym c.ok_or.ensures.value)
    (planned s (λ j. omega (arith, c.type_inv.batch j)) _ _ (fine_is s _ _ (sym c.in_ok-tally.ensures)) _ c.measure.ensures)
