-- `printing::put_edge_line` meets its contract: part by part, with what comes behind each.
use Rattle.std.proofs.Common.{ℕ, List, ◌++◌}
use Rattle.batch.specs.declared.Edge.{Edge}
use Rattle.text.specs.Text.{decimal}
use Rattle.text.specs.Text.Laws.{first, next, both}
use Rattle.printing.specs.Printed.{id_text, space, lsn_word, life_end, edge_line}
use Rattle.printing.proofs.put_edge_line.Goals as goal

abbrev behind_partner : Edge → List ℕ
behind_partner e = (lsn_word ++ decimal e.log) ++ life_end e.dead

abbrev behind_space : Edge → List ℕ
behind_space e = id_text e.partner ++ behind_partner e

abbrev behind_key : Edge → List ℕ
behind_key e = space ++ behind_space e

pub put_id_text-first-requires : goal.put_id_text-first-requires
unfolding edge_line
put_id_text-first-requires c = first (id_text c.args.e.key) (behind_key c.args.e) c.args.out.now c.args.at c.requires

pub put_word-second-requires : goal.put_word-second-requires
unfolding edge_line
put_word-second-requires c =
    let e = c.args.e in
    let key = next (behind_key e) c.put_id_text-first.ensures c.requires in
    first space (behind_space e) c.put_id_text-first.new.out c.put_id_text-first.result key

pub put_id_text-third-requires : goal.put_id_text-third-requires
unfolding edge_line
put_id_text-third-requires c =
    let e = c.args.e in
    let key = next (behind_key e) c.put_id_text-first.ensures c.requires in
    let spaced = next (behind_space e) c.put_word-second.ensures key in
    first (id_text e.partner) (behind_partner e) c.put_word-second.new.out c.put_word-second.result spaced

pub put_labelled-fourth-requires : goal.put_labelled-fourth-requires
unfolding edge_line
put_labelled-fourth-requires c =
    let e = c.args.e in
    let key = next (behind_key e) c.put_id_text-first.ensures c.requires in
    let spaced = next (behind_space e) c.put_word-second.ensures key in
    let partner = next (behind_partner e) c.put_id_text-third.ensures spaced in
    first (lsn_word ++ decimal e.log) (life_end e.dead) c.put_id_text-third.new.out c.put_id_text-third.result partner

pub put_life-requires : goal.put_life-requires
unfolding edge_line
put_life-requires c =
    let e = c.args.e in
    let key = next (behind_key e) c.put_id_text-first.ensures c.requires in
    let spaced = next (behind_space e) c.put_word-second.ensures key in
    let partner = next (behind_partner e) c.put_id_text-third.ensures spaced in
    next (life_end e.dead) c.put_labelled-fourth.ensures partner

pub returns : goal.returns
unfolding edge_line
returns c =
    both c.put_id_text-first.ensures (both c.put_word-second.ensures (both c.put_id_text-third.ensures (both c.put_labelled-fourth.ensures c.put_life.ensures)))
