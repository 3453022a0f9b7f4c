use mathlib.Core.Path.{ap₂}
use Prim.Native.Nat.{ℕ}
use mathlib.Core.List.{List}
use lib.ListN.{set}
use Rattle.write_sections.proofs.by_edge.put_octet.Goals as goal

pub returns : goal.returns
returns c = let a = c.args in ap₂ (λ (u : List ℕ) (x : ℕ). set u a.t x) c.put_logs.ensures.bytes c.octet_of.ensures
