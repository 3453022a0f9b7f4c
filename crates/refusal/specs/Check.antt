-- Rules in their order: a rule is fine, or it is broken and says why.
use Rattle.std.specs.Prelude.{Bool, true, false, Result, Ok, Err}
use Rattle.refusal.specs.declared.Refusal.{Refusal}

-- what a rule says
abbrev pub Check : Type 0
Check = Result Unit Refusal

infixr 20 ◌⊳◌
-- the first of two rules that is broken
abbrev pub ◌⊳◌ : Check → Check → Check
◌⊳◌ (Ok _) d = d
◌⊳◌ (Err r) d = Err r

-- r is given exactly if the fault is there
abbrev pub refuse : Refusal → Bool → Check
refuse r true = Err r
refuse r false = Ok tt
