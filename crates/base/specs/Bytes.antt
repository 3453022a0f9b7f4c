-- What lent memory holds: bytes, each below 2^8.
use Rattle.std.specs.Prelude.{ℕ, ◌+◌, ◌-◌, ◌^◌, ◌<◌, List, get_or, drop}
use Rattle.std.proofs.Common.{arith, length-take, get_or-take, get_or-drop}
use Rattle.std.proofs.Math.Decide.{dec_lt}
use Rattle.std.proofs.Math.ListN.{get_or-eq_default}
use Rattle.base.specs.Over.{part}

abbrev pub Bytes : List ℕ → Type 0
Bytes s = (j : ℕ) → get_or s j 0 < 2 ^ 8

pub bytes_part : (s : List ℕ) → Bytes s → (a e : ℕ) → Bytes (part s a e)
bytes_part s by a e j = elim (dec_lt j (e - a)) [
  | yes h ↦ rw (get_or-take (e - a) (drop a s) j 0 h, get_or-drop a s j 0) (by (a + j))
  | no h ↦ rw (get_or-eq_default (part s a e) 0 {n = j} (simp length-take (omega arith))) (omega arith)
]
