-- `test_corpus::refused` meets its contract.
use native.Mathlib.Omega.{arith}
use Rattle.text.specs.Text.Laws.{put_length, length_refused}
use Rattle.test_corpus.proofs.refused.Goals as goal

pub put_refused-n-requires : goal.put_refused-n-requires
put_refused-n-requires c = let n = length_refused c.args.refusal in omega arith

pub slice_bounds-word-end : goal.slice_bounds-word-end
slice_bounds-word-end c = let n = length_refused c.args.refusal in let p = c.put_refused-n.ensures in let e = p.place in let s = put_length p in omega arith
