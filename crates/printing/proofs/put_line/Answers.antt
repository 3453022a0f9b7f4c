-- `printing::put_line` meets its contract: the first line, an edge, `ok`.
use Rattle.std.proofs.Common.{◌≡◌, suc, ◌-◌, sym, ap, ◌∙◌, arith}
use Rattle.text.specs.Text.Laws.{is}
use Rattle.printing.specs.Printed.{first_line, edge_line, ok_line, line_at}
use Rattle.printing.proofs.Laws.Printed.{first_room, edge_room, line_first, line_edge, line_ok}
use Rattle.printing.proofs.put_line.Goals as goal

pub put_first_line-requires : goal.put_first_line-requires
put_first_line-requires c =
    let a = c.args in
    let n = first_room c.byte-direction.result a.minor a.keys c.edge_count-edges.result c.dead_in.result in
    omega arith

pub returns-then-k-eq0 : goal.returns-then-k-eq0
returns-then-k-eq0 c =
    let a = c.args in
    let d = c.byte-direction.ensures.0 in
    let n = c.edge_count-edges.ensures in
    let x = c.dead_in.ensures in
    let heading : first_line c.byte-direction.result a.minor a.keys c.edge_count-edges.result c.dead_in.result ≡ line_at a.minor a.keys a.batch.now a.k
    = (λ i. first_line (d i) a.minor a.keys (n i) (x i))
    ∙ sym (line_first a.minor a.keys a.batch.now)
    ∙ ap (line_at a.minor a.keys a.batch.now) (sym c.if-k-eq0.true) in
    is heading c.put_first_line.ensures

pub put_edge_line-requires : goal.put_edge_line-requires
put_edge_line-requires c = let n = edge_room c.edge_at.result in omega arith

pub returns-then-k-edges : goal.returns-then-k-edges
returns-then-k-edges c =
    let a = c.args in
    let k : suc (a.k - 1) ≡ a.k = omega arith in
    let edge : edge_line c.edge_at.result ≡ line_at a.minor a.keys a.batch.now a.k
    = ap edge_line c.edge_at.ensures
    ∙ sym (line_edge a.minor a.keys a.batch.now (a.k - 1) (omega arith))
    ∙ ap (line_at a.minor a.keys a.batch.now) k in
    is edge c.put_edge_line.ensures

pub returns : goal.returns
returns c =
    let a = c.args in
    let k : suc (a.k - 1) ≡ a.k = omega arith in
    let ok : ok_line ≡ line_at a.minor a.keys a.batch.now a.k
    = sym (line_ok a.minor a.keys a.batch.now (a.k - 1) (omega arith)) ∙ ap (line_at a.minor a.keys a.batch.now) k in
    is ok c.put_word.ensures
