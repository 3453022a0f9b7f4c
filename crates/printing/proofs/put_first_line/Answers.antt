-- `printing::put_first_line` meets its contract: part by part, with what comes behind each.
use Rattle.std.proofs.Common.{ℕ, List, ◌++◌}
use Rattle.text.specs.Text.{decimal}
use Rattle.text.specs.Text.Laws.{first, next, both}
use Rattle.printing.specs.Printed.{direction_word, keys_word, edges_word, dead_word, newline, first_line}
use Rattle.printing.proofs.put_first_line.Goals as goal

abbrev behind_edges : ℕ → List ℕ
behind_edges dead = (dead_word ++ decimal dead) ++ newline

abbrev behind_keys : ℕ → ℕ → List ℕ
behind_keys edges dead = (edges_word ++ decimal edges) ++ behind_edges dead

abbrev behind_direction : ℕ → ℕ → ℕ → List ℕ
behind_direction keys edges dead = (keys_word ++ decimal keys) ++ behind_keys edges dead

pub put_direction-first-requires : goal.put_direction-first-requires
unfolding first_line
put_direction-first-requires c =
    let a = c.args in
    first (direction_word a.direction ++ decimal a.minor) (behind_direction a.keys a.edges a.dead) a.out.now a.at c.requires

pub put_labelled-second-requires : goal.put_labelled-second-requires
unfolding first_line
put_labelled-second-requires c =
    let a = c.args in
    let direction = next (behind_direction a.keys a.edges a.dead) c.put_direction-first.ensures c.requires in
    first (keys_word ++ decimal a.keys) (behind_keys a.edges a.dead) c.put_direction-first.new.out c.put_direction-first.result direction

pub put_labelled-third-requires : goal.put_labelled-third-requires
unfolding first_line
put_labelled-third-requires c =
    let a = c.args in
    let direction = next (behind_direction a.keys a.edges a.dead) c.put_direction-first.ensures c.requires in
    let keys = next (behind_keys a.edges a.dead) c.put_labelled-second.ensures direction in
    first (edges_word ++ decimal a.edges) (behind_edges a.dead) c.put_labelled-second.new.out c.put_labelled-second.result keys

pub put_labelled-fourth-requires : goal.put_labelled-fourth-requires
unfolding first_line
put_labelled-fourth-requires c =
    let a = c.args in
    let direction = next (behind_direction a.keys a.edges a.dead) c.put_direction-first.ensures c.requires in
    let keys = next (behind_keys a.edges a.dead) c.put_labelled-second.ensures direction in
    let edges = next (behind_edges a.dead) c.put_labelled-third.ensures keys in
    first (dead_word ++ decimal a.dead) newline c.put_labelled-third.new.out c.put_labelled-third.result edges

pub put_word-requires : goal.put_word-requires
unfolding first_line
put_word-requires c =
    let a = c.args in
    let direction = next (behind_direction a.keys a.edges a.dead) c.put_direction-first.ensures c.requires in
    let keys = next (behind_keys a.edges a.dead) c.put_labelled-second.ensures direction in
    let edges = next (behind_edges a.dead) c.put_labelled-third.ensures keys in
    next newline c.put_labelled-fourth.ensures edges

pub returns : goal.returns
unfolding first_line
returns c =
    both c.put_direction-first.ensures (both c.put_labelled-second.ensures (both c.put_labelled-third.ensures (both c.put_labelled-fourth.ensures c.put_word.ensures)))
