-- `data::edges_check` meets its contract.
use mathlib.Core.Path.{sym, ◌∙◌}
use lib.ListN.{length}
use Rattle.std.proofs.lemmas.Result.{err_from_is_err_and}
use Rattle.frame.specs.Frame.{flags_of}
use Rattle.frame.proofs.Laws.Open.{opens_parts, size_parts}
use Rattle.full_check.specs.Checked.{tombstones, data_is, edges_refused, edges_good, edges_bad}
use native.Mathlib.Omega.{arith}
use Rattle.full_check.proofs.data.edges_check.Goals as goal

pub le-requires : goal.le-requires
le-requires c =
    let a = c.args in
    let size = (size_parts (length a.file.now) (opens_parts a.file.now a.o c.requires).frames.size).0 in
    omega arith

pub returns-in_err-groups : goal.returns-in_err-groups
returns-in_err-groups c =
    let a = c.args in
    let p = err_from_is_err_and c.from_residual.result c.from_residual.ensures.1 in
    rw (p.1, p.2) (sym (edges_refused (flags_of a.file.now) a.file.now a.o _ (sym c.groups_in.ensures ∙ c.in_err-groups.was)))

pub returns-then-not-data_good : goal.returns-then-not-data_good
returns-then-not-data_good c =
    let a = c.args in
    let f = a.file.now in
    let g = c.in_ok-groups.groups in
    edges_bad (flags_of f) f a.o g.edges g.dense g.stray (sym c.groups_in.ensures ∙ c.in_ok-groups.was)
    (data_is (flags_of f) a.o.edgecount (tombstones (flags_of f) f a.o) g.edges g.dense g.stray c.le.ensures.value c.marks_in-marks.ensures c.data_good.ensures c.if-not-data_good.true)

pub returns : goal.returns
returns c =
    let a = c.args in
    let f = a.file.now in
    let g = c.in_ok-groups.groups in
    edges_good (flags_of f) f a.o g.edges g.dense g.stray (sym c.groups_in.ensures ∙ c.in_ok-groups.was)
    (data_is (flags_of f) a.o.edgecount (tombstones (flags_of f) f a.o) g.edges g.dense g.stray c.le.ensures.value c.marks_in-marks.ensures c.data_good.ensures c.if-not-data_good.false)
