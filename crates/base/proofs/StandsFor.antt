-- A function that stands for another of the same signature: it asks nothing, and each call keeps what the other's contract says. So
-- each theorem over the other's contract holds of it.
--     T            the signature, with what is kept of each parameter at exit, as in `Determined`
--     Pre, Post    what the function's own clauses say, and Keeps what the other's `ensures` says
use contract.Lifetimes.{Lfts}
use denote.Triple.Entry.{Args, Res}
use denote.Triple.Clauses.{Ended, AtExit}

abbrev pub StandsFor :
    (T : Ended) → ((κs : Lfts T.signature.lifetimes) → Args T.signature κs → Type 0) →
    ((κs : Lfts T.signature.lifetimes) → Args T.signature κs → Res T.signature κs → AtExit T κs → Type 0) →
    ((κs : Lfts T.signature.lifetimes) → Args T.signature κs → Res T.signature κs → AtExit T κs → Type 0) → Type 0
StandsFor T Pre Post Keeps =
    (κs : Lfts T.signature.lifetimes) (a : Args T.signature κs) →
    Pre κs a × ((r : Res T.signature κs) (e : AtExit T κs) → Post κs a r e → Keeps κs a r e)
