-- `codes::varint::put_varint` meets its contract. Invariant: what is still to be written, written over what is there, is the whole.
use mathlib.Core.Path.{◌≡◌}
use Prim.Native.Nat.{◌+◌, ◌-◌, ◌^◌, ◌≤◌, ◌<◌}
use lib.ListN.{length}
use lib.Seq.{sets}
use Rattle.codes.specs.Varint.{bytes_from, var_bytes}
use Rattle.codes.proofs.varint.put_varint.Given as goal

abbrev pub invariant-loop-y : goal.invariant-loop-y
invariant-loop-y l =
    (l.at ≤ l.i) × (l.i - l.at ≤ 9) × (l.y < 128 ^ (10 - (l.i - l.at))) × (length l.out ≡ length l.initial.out)
    × (sets l.out l.i (bytes_from (9 - (l.i - l.at)) l.y) ≡ sets l.initial.out l.at (var_bytes l.x))
    × (l.i + length (bytes_from (9 - (l.i - l.at)) l.y) ≡ l.at + length (var_bytes l.x))

abbrev pub decreases-loop-y : goal.decreases-loop-y
decreases-loop-y l = l.y
