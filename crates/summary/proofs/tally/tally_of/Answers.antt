-- `summary::tally::tally_of` meets its contract.
use Rattle.std.proofs.Common.{◌+◌, ◌*◌, ◌≤◌, ◌∙◌, mul-le-mul_right, arith, rules}
use Rattle.summary.proofs.Laws.Tally.{tallying_start, tallying_few, tallying_lies, tallying_degree, tallying_on, tallying_end, max_is}
use Rattle.summary.proofs.tally.tally_of.Goals as goal

pub loop-i-init : goal.loop-i-init
loop-i-init c = let a = c.args in tallying_start a.partners.now a.offs.now a.w a.n c.requires.4.first

pub offset_at-e-requires : goal.offset_at-e-requires
offset_at-e-requires c = let a = c.args in
    let l = c.loop-i in
    let m : (l.i + 1 + 1) * a.w ≤ (a.n + 1) * a.w = mul-le-mul_right a.w (omega arith) in
    (search rules, search rules, omega arith, omega arith)

pub slice_bounds-degree_of-count : goal.slice_bounds-degree_of-count
slice_bounds-degree_of-count c = let a = c.args in
    let l = c.loop-i in
    let r = tallying_lies a.partners.now a.offs.now a.w a.n l.largest l.buckets l.a l.i l.invariant c.requires.4 (omega arith) c.offset_at-e.ensures.0 in
    omega arith

pub slice_bounds-degree_of-start : goal.slice_bounds-degree_of-start
slice_bounds-degree_of-start c = let a = c.args in
    let l = c.loop-i in
    let r = tallying_lies a.partners.now a.offs.now a.w a.n l.largest l.buckets l.a l.i l.invariant c.requires.4 (omega arith) c.offset_at-e.ensures.0 in
    omega arith

pub slice_bounds-degree_of-end : goal.slice_bounds-degree_of-end
slice_bounds-degree_of-end c = let a = c.args in
    let l = c.loop-i in
    let r = tallying_lies a.partners.now a.offs.now a.w a.n l.largest l.buckets l.a l.i l.invariant c.requires.4 (omega arith) c.offset_at-e.ensures.0 in
    omega arith

pub bucket_of-b-requires : goal.bucket_of-b-requires
bucket_of-b-requires c = let a = c.args in
    let l = c.loop-i in
    let d = tallying_degree a.partners.now a.offs.now a.w a.n l.largest l.buckets l.a l.i l.invariant (omega arith) _ _ c.offset_at-e.ensures.0 c.degree_of-d.ensures in
    let told = c.requires.5 l.i (omega arith) in
    omega arith

pub overflow_add-buckets : goal.overflow_add-buckets
overflow_add-buckets c = let a = c.args in
    let l = c.loop-i in
    let few = tallying_few a.partners.now a.offs.now a.w a.n l.largest l.buckets l.a l.i l.invariant c.bucket_of-b.result c.bucket_of-b.ensures.0 in
    omega arith

pub loop-i-preserved : goal.loop-i-preserved
loop-i-preserved c = let a = c.args in
    let l = c.loop-i in
    let b = c.bucket_of-b in
    tallying_on a.partners.now a.offs.now a.w a.n l.largest l.buckets l.a l.i l.invariant (omega arith) _ _
    c.offset_at-e.ensures.0 c.degree_of-d.ensures b.result b.ensures.0 b.ensures.1 (c.max-largest.ensures ∙ max_is l.largest c.degree_of-d.result)

pub returns : goal.returns
returns c = let a = c.args in
    let l = c.loop-i in
    tallying_end a.partners.now a.offs.now a.w a.n l.largest l.buckets l.a l.i l.invariant (omega arith)
