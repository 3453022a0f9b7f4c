-- `frames::frame_of` meets its contract.
use mathlib.Core.Path.{sym, ◌∙◌}
use lib.ListN.{length}
use Rattle.frame.proofs.Laws.Open.{size_parts, tail_parts, ends_parts}
use native.Mathlib.Omega.{arith}
use Rattle.open_file.proofs.frames.frame_of.Goals as goal

pub ends_check-requires : goal.ends_check-requires
ends_check-requires c =
    let z = size_parts (length c.args.file.now) (sym c.size_check.ensures ∙ c.in_ok-size_check.was) in (omega arith, omega arith, omega arith)

pub flags_of-requires : goal.flags_of-requires
flags_of-requires c =
    let z = size_parts (length c.args.file.now) (sym c.size_check.ensures ∙ c.in_ok-size_check.was) in omega arith

pub footer_framing-requires : goal.footer_framing-requires
footer_framing-requires c =
    let f = c.args.file.now in
    let z = size_parts (length f) (sym c.size_check.ensures ∙ c.in_ok-size_check.was) in
    let y = tail_parts (length f) f (ends_parts (length f) f f (sym c.ends_check.ensures ∙ c.in_ok-ends_check.was)) in
    (omega arith, omega arith, omega arith, omega arith)
