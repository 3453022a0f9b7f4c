-- How a State lies in memory, as the headers for C declare it: the total, the eight lanes, the 256 bytes, with nothing between them. So a
-- caller who holds one may lend its parts.
use mathlib.Core.Path.{◌≡◌, refl, ap, ◌∙◌}
use mathlib.Core.List.{List, [], map, ◌++◌, append-nil}
use mir.Syntax.{Ty, ty_int, ty_array, w8, w64}
use mir.Val.{vint}
use mir.Mem.{Cell}
use prog.Memory.{enc, align, size}
use denote.Array.{array_val}
use Rattle.xxh3_running.specs.declared.State.{State}
use Rattle.xxh3_running.proofs.State.TheLaws as state

abbrev eight : Ty
eight = ty_array (ty_int w64) 8

abbrev ring : Ty
ring = ty_array (ty_int w8) 256

pub state_lies : (st : State)
    → enc state.mir (state.lowered st)
    ≡ enc (ty_int w64) (vint w64 st.total) ++ (enc eight (array_val (map (vint w64) st.lanes)) ++ enc ring (array_val (map (vint w8) st.buffer)))
state_lies st =
    let total : List Cell = enc (ty_int w64) (vint w64 st.total) in
    let lanes : List Cell = enc eight (array_val (map (vint w64) st.lanes)) in
    let bytes : List Cell = enc ring (array_val (map (vint w8) st.buffer)) in
    append-nil (total ++ (lanes ++ (bytes ++ []))) ∙ ap (λ (z : List Cell). total ++ (lanes ++ z)) (append-nil bytes)

pub state_aligned : align state.mir ≡ align (ty_int w64)
state_aligned = refl

pub state_size : size state.mir ≡ 328
state_size = refl
