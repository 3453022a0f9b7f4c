-- `lookup::whole::short_of` meets its contract: the least of the three rooms decides.
use mathlib.Core.Path.{◌≡◌, sym, ◌∙◌}
use Prim.Native.Nat.{ℕ, ◌/◌, min}
use mathlib.Core.Bool.{true}
use native.Mathlib.Omega.{arith}
use borrow.Author.Tests.{lt-ltb, le-ltb}
use lib.Dec.{ltb}
use Rattle.std.proofs.Math.Decide.{dec_lt}
use Rattle.lookup.specs.Lookup.{short}
use Rattle.lookup.specs.Calls.{lent}
use Rattle.lookup.proofs.Laws.Calls.{short_bytes, short_logs, short_marks, short_none}
use Rattle.lookup.proofs.whole.short_of.Goals as goal

least : (n l m d : ℕ) → ltb (min (min (n / 16) l) m) d ≡ short true (lent n l m) d
least n l m d =
    elim (dec_lt (n / 16) d) [
      | yes h ↦ lt-ltb _ _ (omega arith) ∙ sym (short_bytes (lent n l m) d (omega arith))
      | no h ↦ elim (dec_lt l d) [
        | yes k ↦ lt-ltb _ _ (omega arith) ∙ sym (short_logs (lent n l m) d (omega arith) (omega arith))
        | no k ↦ elim (dec_lt m d) [
          | yes j ↦ lt-ltb _ _ (omega arith) ∙ sym (short_marks (lent n l m) d (omega arith) (omega arith) j)
          | no j ↦ le-ltb _ _ (omega arith) ∙ sym (short_none (lent n l m) d (omega arith) (omega arith) (omega arith))
        ]
      ]
    ]

pub returns : goal.returns
returns c =
    let a = c.args in
    let room : c.min-room.result ≡ min (min (a.n / 16) a.l) a.m = omega arith in
    rw room (least a.n a.l a.m a.d)
