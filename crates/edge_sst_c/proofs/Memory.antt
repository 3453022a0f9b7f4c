-- How an EdgeSstOpened lies in memory: as its twenty numbers, one after the other, so that what `edge_sst_open` gave can be
-- lent to the calls that take twenty numbers.
use mathlib.Core.Path.{◌≡◌, refl}
use mathlib.Core.List.{map}
use mir.Syntax.{Ty, ty_int, ty_array, w64}
use mir.Val.{vint}
use prog.Memory.{enc, align}
use denote.Array.{array_val}
use Rattle.edge_sst_c.specs.declared.EdgeSstOpened.{EdgeSstOpened}
use Rattle.edge_sst_c.specs.Back.{fields_of}
use Rattle.edge_sst_c.proofs.EdgeSstOpened.TheLaws as opened

abbrev twenty : Ty
twenty = ty_array (ty_int w64) 20

pub opened_lies : (c : EdgeSstOpened) → enc opened.mir (opened.lowered c) ≡ enc twenty (array_val (map (vint w64) (fields_of c)))
opened_lies c = refl

pub opened_aligned : align opened.mir ≡ align twenty
opened_aligned = refl
