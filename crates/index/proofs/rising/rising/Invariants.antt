-- `rising` meets its contract. Invariant: `last` is number i, it rises, and what is left to check from i on gives the whole.
use Rattle.std.proofs.Common.{◌≡◌, ℕ, ◌+◌, ◌-◌, true}
use Rattle.refusal.specs.declared.Refusal.{Refusal}
use Rattle.frame.specs.Open.{offset_at, rising_from}
use Rattle.index.specs.Cases.{rising_keys}
use Rattle.index.proofs.rising.rising.Given as goal

abbrev pub invariant-loop-i : goal.invariant-loop-i
invariant-loop-i g l = record {
  read : l.last ≡ offset_at l.s g.row.W l.i;
  rises : rising_keys l.s g.row.W l.i ≡ true;
  left : (told : ℕ → Refusal) → rising_from told (l.n + 1 - l.i) l.s g.row.W l.n l.end l.i ≡ rising_from told (l.n + 1) l.s g.row.W l.n l.end 0;
}
