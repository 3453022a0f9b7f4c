-- The group asked for, as its own call sees it.
use Rattle.std.specs.Prelude.{◌≡◌, ℕ, ◌*◌, ◌≤◌, List, true, length, Result, Ok, Err}
use Rattle.base.specs.Over.{part}
use Rattle.group.specs.Group.{group_of, is_good, partners_of}
use Rattle.lookup.specs.Lookup.{group_fault}
use Rattle.refusal.specs.Check.{Check}
use Rattle.refusal.specs.declared.Refusal.{Refusal}

unfoldable pub seen : Check → ℕ → Result ℕ Refusal
seen (Ok _) d = Ok d
seen (Err r) d = Err r

-- group i, from a to e of the partners p
unfoldable pub group_seen : List ℕ → ℕ → ℕ → ℕ → Result ℕ Refusal
group_seen p a e i = seen (group_fault p a e i) (length (partners_of (group_of (part p a e))))

-- a good group within the partners, and room for it
pub record Fills (p : List ℕ) (a e n : ℕ) : Type 0 where
  pub rises : a ≤ e
  pub inside : e ≤ length p
  pub good : is_good (group_of (part p a e)) ≡ true
  pub room : 16 * length (partners_of (group_of (part p a e))) ≤ n
