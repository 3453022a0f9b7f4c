-- Sections of the reserved range: when opening gives 36, exactly, and that no file with such a section opens.
use Rattle.std.specs.Prelude.{◌≡◌, ℕ, zero, suc, ◌<◌, List, [], ◌∷◌, false, length, Ok}
use Rattle.frame.specs.declared.Row.{Row}
use Rattle.frame.specs.Kind as kind
use Rattle.frame.specs.Frame.{rows_of, body_of, size_check, head_check, tail_check, sum_check}
use Rattle.frame.specs.Frame.Laws.{Table, ReservedKind}

-- the kind of entry j; 0 where there is none
unfoldable pub kind_at : List Row → ℕ → ℕ
kind_at [] j = 0
kind_at (r ∷ rs) zero = r.kind
kind_at (r ∷ rs) (suc j) = kind_at rs j

-- entry j is "the first such entry"
pub record FirstReserved (rs : List Row) (j : ℕ) : Type 0 where
  pub here : ReservedKind (kind_at rs j)
  pub before : (i : ℕ) → i < j → ReservedKind (kind_at rs i) → ⊥

-- ---- rule 9 does not see which kind an entry has that is not read: a reserved one is asked for 36 alone

-- two tables of equal names, that have the same kinds but where both are not read
pub data ButUnread : List Row → List Row → Type 0 where
  none : ButUnread [] []
  same : {r t : Row} {rs ts : List Row} → t.kind ≡ r.kind → t.namelen ≡ r.namelen → ButUnread rs ts → ButUnread (r ∷ rs) (t ∷ ts)
  other : {r t : Row} {rs ts : List Row} → kind.fixed r.kind ≡ false → kind.fixed t.kind ≡ false → t.namelen ≡ r.namelen → ButUnread rs ts → ButUnread (r ∷ rs) (t ∷ ts)

-- ---- a file

-- rules 1 to 9 pass
pub record Tabled (f : List ℕ) : Type 0 where
  pub size : size_check (length f) ≡ (Ok tt)
  pub head : head_check f ≡ (Ok tt)
  pub tail : tail_check (length f) f ≡ (Ok tt)
  pub sum : sum_check f ≡ (Ok tt)
  pub table : Table (body_of f)

-- "36, place the first such entry, after 9 and before 10"
pub record ReservedAt (f : List ℕ) (j : ℕ) : Type 0 where
  pub tabled : Tabled f
  pub first : FirstReserved (rows_of (body_of f)) j
