use mathlib.Core.Path.{ap, ◌∙◌}
use Prim.Native.Nat.{ℕ}
use Rattle.frame.specs.Kind as kind
use Rattle.frame.specs.Frame.{raw_row}
use Rattle.write_image.specs.Image.{fenced}
use Rattle.write_contents.specs.Footer.{named, asked, here_room, here_put, here_not}
use borrow.Author.Tests.{lt-ltb, le-ltb}
use Rattle.write_contents.proofs.footer.put_fences_entry.Goals as goal

pub put_entry-requires : goal.put_entry-requires
put_entry-requires c = let a = c.args in let h = here_room a.out.now a.at (fenced a.keys) kind.fences a.start (kind.fences_len (kind.fence_count a.keys)) (lt-ltb 65536 a.keys c.if-keys.true) c.requires.1 c.requires.2 in asked kind.fences a.start (kind.fences_len (kind.fence_count a.keys)) (c.entry.ensures ∙ ap (λ (t : ℕ). raw_row kind.fences a.start (kind.fences_len t) 0) c.count.ensures) (h.0, h.1, c.requires.3)

pub returns-then-keys : goal.returns-then-keys
returns-then-keys c = let a = c.args in here_put a.out.now a.at (fenced a.keys) kind.fences a.start (kind.fences_len (kind.fence_count a.keys)) (lt-ltb 65536 a.keys c.if-keys.true) (named kind.fences a.start (kind.fences_len (kind.fence_count a.keys)) (c.entry.ensures ∙ ap (λ (t : ℕ). raw_row kind.fences a.start (kind.fences_len t) 0) c.count.ensures) c.put_entry.ensures)

pub returns : goal.returns
returns c = let a = c.args in here_not a.out.now a.at (fenced a.keys) kind.fences a.start (kind.fences_len (kind.fence_count a.keys)) (le-ltb 65536 a.keys c.if-keys.false)
