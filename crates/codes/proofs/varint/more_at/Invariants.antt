-- `codes::varint::more_at` meets its contract. Invariant: the rest, read from byte k on over x with the weight m, is the whole.
use mathlib.Core.Path.{◌≡◌}
use Prim.Native.Nat.{ℕ, ◌+◌, ◌-◌, ◌^◌, ◌≤◌, ◌<◌}
use mathlib.Core.List.{List}
use Rattle.codes.specs.Varint.{var_from}
use Rattle.codes.proofs.varint.more_at.Given as goal

abbrev pub Head : (s : List ℕ) (at low x m k : ℕ) → Type 0
Head s at low x m k = (1 ≤ k) × (k ≤ 10) × (x < m) × (m ≡ 128 ^ k) × (var_from (10 - k) s (at + k) x m ≡ var_from 9 s (at + 1) low 128)

abbrev pub invariant-loop-k : goal.invariant-loop-k
invariant-loop-k l = Head l.s l.at l.low l.x l.m l.k
