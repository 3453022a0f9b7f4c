-- A contract determines its function: any two results, with the contents of lent memory at exit, that the contract
-- admits for the same arguments are equal.
--     T     the signature, with what is kept of each parameter at exit: `ended` of the function's module
--     Pre   what the `requires` says, and Post what the `ensures` says: those of the function's `Reads`
use mathlib.Core.Path.{◌≡◌}
use contract.Lifetimes.{Lfts}
use denote.Triple.Entry.{Args, Res}
use denote.Triple.Clauses.{Ended, Lasts, AtExit, at_exit}

abbrev pub Determined :
    (T : Ended) → ((κs : Lfts T.signature.lifetimes) → Args T.signature κs → Type 0) →
    ((κs : Lfts T.signature.lifetimes) → Args T.signature κs → Res T.signature κs → AtExit T κs → Type 0) → Type 0
Determined T Pre Post =
    (κs : Lfts T.signature.lifetimes) (a : Args T.signature κs) → Pre κs a →
    (r₁ r₂ : Res T.signature κs) (w₁ w₂ : Lasts T κs a) →
    Post κs a r₁ (at_exit T κs a w₁) → Post κs a r₂ (at_exit T κs a w₂) → (r₁ ≡ r₂) × (w₁ ≡ w₂)
