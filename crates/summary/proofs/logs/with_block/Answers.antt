-- `summary::logs::with_block` meets its contract.
use Rattle.std.proofs.Common.{◌≡◌, ℕ, ◌+◌, ◌-◌, ◌*◌, ap, ◌∙◌, arith}
use Rattle.codes.specs.Little.{le_at}
use Rattle.summary.proofs.Laws.Logs.{span_ends, block_one}
use Rattle.summary.proofs.logs.with_block.Goals as goal

pub within-requires : goal.within-requires
within-requires c = let s = c in
    let p = s.requires in
    (span_ends s.args.s _ p.0 c.with_one-t.ensures, p.1, p.2)

pub returns-then-within : goal.returns-then-within
returns-then-within c = let a = c.args in
    let last : a.e + 80 - 1 ≡ a.e + 79 = omega arith in
    block_one a.logs.now a.e 80 79 (omega arith) a.s (c.le-last.ensures.value ∙ ap (λ (x : ℕ). le_at a.logs.now (8 * x) 8) last) c.with_one-t.ensures (c.within.ensures c.if-within.true)
